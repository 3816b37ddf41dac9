-- Carrying, on bytes: its claims, and what each of its tests answers. Assumes nothing but the hash's length, where it is asked.
use mathlib.Core.Path.{◌≡◌, refl, sym, ap, ap₂, ◌∙◌}
use mathlib.Core.Logic.{◌⊎◌, inl, inr}
use mathlib.Core.Bool.{Bool, true, false, cond}
use mathlib.Core.List.{List, ◌++◌}
use Prim.Native.Nat.{ℕ, zero, suc, ◌+◌, ◌-◌, ◌*◌, ◌/◌, ◌≤◌, ◌<◌}
use native.Mathlib.Omega.{arith}
use lib.Dec.{ltb, eqb}
use lib.ListN.{length, take, drop, length-append, length-drop}
use lib.Seq.{take-add}
use borrow.Author.Tests.{lt-ltb, le-ltb, eq-eqb, ne_eqb, eqb-true}
use Rattle.tree.specs.Limits.{most_nodes}
use Rattle.tree.specs.Count.{inclusion_count, subproof_count, consistency_count}
use Rattle.tree.specs.Yield.{inclusion_root, old_root, new_root}
use Rattle.tree.specs.Joined.{first_nodes, nodes, nodes_from, hash_at}
use Rattle.tree.specs.Verdict.{unless, inclusion_verdict, consistency_verdict}
use Rattle.octets.specs.Bytes.{over, joined}
use Rattle.tree.proofs.Counting.{bounds}
use Rattle.tree.proofs.Accepting.{inclusion_accepted, inclusion_accepts, consistency_accepted, consistency_accepts}
use Rattle.octets.proofs.Joining.{joined_append}
use Rattle.tree.proofs.Joining.{All32, nodes_first, nodes_length, all_nodes, whole_hash, first_length, joined_length, nodes_joined}
use Rattle.carry.specs.Limits.{pair_bytes}
use Rattle.carry.proofs.Refusing.{opened, passed}
use Rattle.octets.specs.Answer.{Answer, done}
use Rattle.carry.specs.Strings.{Difference, alike, apart, Collides}
use Rattle.carry.specs.Forward.{Forward, refused, carried, collision, Moved, carry_report, path_carried, pair_carried, forwarded, conflict, forward, carry}
use Rattle.carry.specs.Carries.{Carrying}
use Rattle.carry.specs.Inner.{path_from, Fit, Agree, either}
use Rattle.carry.proofs.Stepping.{conflict_all, forward_all}
use Rattle.carry.proofs.Comparing.{joined_first, joined_nodes}
use Rattle.carry.proofs.Forwarding.{Right, forward_sized, forward_sound}

-- what two accepted proofs have
pub record Both (leaf : List ℕ) (place m n : ℕ) (root₁ path proof : List ℕ) : Type 0 where
  pub leaf_32 : length leaf ≡ 32
  pub root_32 : length root₁ ≡ 32
  pub below : place < m
  pub order : m ≤ n
  pub path_count : length path / 32 ≡ inclusion_count place m
  pub path_length : length path ≡ 32 * inclusion_count place m
  pub proof_count : length proof / 32 ≡ subproof_count m n true
  pub proof_length : length proof ≡ 32 * subproof_count m n true
  pub path_most : inclusion_count place m ≤ most_nodes
  pub proof_most : subproof_count m n true ≤ most_nodes + 1

pub both : (H : List ℕ → List ℕ) (leaf : List ℕ) (place m n : ℕ) (root₁ root₂ path proof : List ℕ) {v w : ℕ} → v ≡ inclusion_verdict H leaf place m root₁ path → v ≡ 0 → w ≡ consistency_verdict H m n root₁ root₂ proof → w ≡ 0 →
    Both leaf place m n root₁ path proof
unfolding consistency_count
both H leaf place m n root₁ root₂ path proof e z f y =
    let a = inclusion_accepted H leaf place m root₁ path (sym e ∙ z) in
    let b = consistency_accepted H m n root₁ root₂ proof (sym f ∙ y) in
    record {
      leaf_32 = a.leaf_32;
      root_32 = a.root_32;
      below = a.below;
      order = b.order;
      path_count = omega (arith, a.counted);
      path_length = a.counted;
      proof_count = omega (arith, b.counted);
      proof_length = b.counted;
      path_most = bounds.inclusion_largest place m a.below a.in_range;
      proof_most = bounds.consistency_largest m n b.some b.order b.in_range;
    }

module _ (H : List ℕ → List ℕ) (leaf : List ℕ) (place m n : ℕ) (root₁ root₂ path proof : List ℕ) (room pair : ℕ) where
  abbrev C : Forward
  C = carry H leaf place m n root₁ root₂ path proof room pair

  module _ {v : ℕ} (e : v ≡ inclusion_verdict H leaf place m root₁ path) where
    pub first_refused : (v ≡ 0 → ⊥) → C ≡ refused v
    unfolding carry unless
    first_refused z = rw (← e, ne_eqb v 0 z)

    module _ (z : v ≡ 0) {w : ℕ} (g : w ≡ consistency_verdict H m n root₁ root₂ proof) where
      pub second_refused : (w ≡ 0 → ⊥) → C ≡ refused w
      unfolding carry unless
      second_refused y = rw (← e, ← g, eq-eqb v 0 z, ne_eqb w 0 y)

      module _ (y : w ≡ 0) where
        pub path_short : room < 32 * inclusion_count place n → C ≡ refused 9
        unfolding carry unless
        path_short l = rw (← e, ← g, eq-eqb v 0 z, eq-eqb w 0 y, lt-ltb room (32 * inclusion_count place n) l)

        module _ (r : 32 * inclusion_count place n ≤ room) where
          pub pair_short : pair < pair_bytes → C ≡ refused 9
          unfolding carry unless
          pair_short l = rw (← e, ← g, eq-eqb v 0 z, eq-eqb w 0 y, le-ltb room (32 * inclusion_count place n) r, lt-ltb pair pair_bytes l)

          pub long : pair_bytes ≤ pair → C ≡ forwarded (conflict H m n place leaf (nodes path) root₁ (nodes proof)) (joined (forward H m n place (nodes path) root₁ (nodes proof)))
          unfolding carry unless
          long l = rw (← e, ← g, eq-eqb v 0 z, eq-eqb w 0 y, le-ltb room (32 * inclusion_count place n) r, le-ltb pair pair_bytes l)

-- what is reported and the buffers, by what is carried
pub reports_refused : {c : Forward} {k : ℕ} (o b : List ℕ) → c ≡ refused k → (Answer.refused k ≡ carry_report c) × ((o ≡ path_carried c o) × (b ≡ pair_carried c b))
unfolding carry_report path_carried pair_carried
reports_refused o b e = rw e (refl, (refl, refl))

pub reports_apart : {c : Forward} {d : Difference} {s t y : List ℕ} (w o b : List ℕ) → c ≡ forwarded d w → d ≡ apart s t → y ≡ over (s ++ t) b → (done Moved.of_strings ≡ carry_report c) × ((o ≡ path_carried c o) × (y ≡ pair_carried c b))
unfolding carry_report path_carried pair_carried forwarded
reports_apart w o b e f g = rw (e, f, g) (refl, (refl, refl))

pub reports_path : {c : Forward} {d : Difference} {w y : List ℕ} {r : ℕ} (u o b : List ℕ) → c ≡ forwarded d w → d ≡ alike → w ≡ u → r ≡ length u → y ≡ over u o → (done (Moved.of_path r) ≡ carry_report c) × ((y ≡ path_carried c o) × (b ≡ pair_carried c b))
unfolding carry_report path_carried pair_carried forwarded
reports_path u o b e f h i g = rw (e, f, h, i, g) (refl, (refl, refl))

-- what the code walked, of the bytes as they came
module _ (H : List ℕ → List ℕ) (leaf : List ℕ) (place m n : ℕ) (root₁ path proof : List ℕ) (two : Both leaf place m n root₁ path proof) {h f : List ℕ} (eh : h ≡ hash_at 0 leaf) (ef : f ≡ hash_at 0 root₁) where
  pub difference_walked : {d : Difference} → d ≡ conflict H m n place h (first_nodes (length path / 32) path) f (first_nodes (length proof / 32) proof) → d ≡ conflict H m n place leaf (nodes path) root₁ (nodes proof)
  difference_walked e = e ∙ rw (eh, ef, whole_hash leaf two.leaf_32, whole_hash root₁ two.root_32, nodes_first path, nodes_first proof)

  pub path_walked : {p : List (List ℕ)} → p ≡ forward H m n place (first_nodes (length path / 32) path) f (first_nodes (length proof / 32) proof) → p ≡ forward H m n place (nodes path) root₁ (nodes proof)
  path_walked e = e ∙ rw (ef, whole_hash root₁ two.root_32, nodes_first path, nodes_first proof)

joined_take : (k : ℕ) (s : List ℕ) → joined (first_nodes k s) ≡ take (32 * k) s
unfolding first_nodes joined
joined_take zero s = refl
joined_take (suc k) s =
    let e : 32 + 32 * k ≡ 32 * suc k = omega arith in
    ap (λ (t : List ℕ). take 32 s ++ t) (joined_take k (drop 32 s)) ∙ sym (take-add 32 (32 * k) s) ∙ ap (λ (i : ℕ). take i s) e

-- the bytes of a path in three pieces, and how many nodes it has
module _ (low hashed : ℕ) (sibling : List ℕ) (high : ℕ) (path proof : List ℕ) (q : ℕ) (len : length proof ≡ 32 * q) (le : high ≤ q) where
  pub pieces : joined (path_from low hashed sibling high path proof q) ≡ take (32 * low) path ++ (take (32 * hashed) sibling ++ drop (32 * high) proof)
  unfolding path_from
  pieces =
      joined_append (first_nodes low path) (first_nodes hashed sibling ++ nodes_from high (q - high) proof)
      ∙ ap₂ ◌++◌ (joined_take low path) (joined_append (first_nodes hashed sibling) (nodes_from high (q - high) proof) ∙ ap₂ ◌++◌ (joined_take hashed sibling) (joined_first (q - high) (drop (32 * high) proof) (simp length-drop (omega arith))))

  pub counted_pieces : length (path_from low hashed sibling high path proof q) ≡ low + hashed + (q - high)
  unfolding path_from
  counted_pieces =
      let a = first_length low path in
      let b = first_length hashed sibling in
      let c = first_length (q - high) (drop (32 * high) proof) in
      simp length-append (omega arith)

-- a carrying that one verdict refuses
either_of : (v w : ℕ) (c : Forward) → (v ≡ 0 → w ≡ 0 → ⊥) → unless refused v (unless refused w c) ≡ refused (either v w)
unfolding unless
either_of v w c h = go (eqb v 0) refl (eqb w 0) refl
  where
    go : (a : Bool) → eqb v 0 ≡ a → (b : Bool) → eqb w 0 ≡ b → cond a (cond b c (refused w)) (refused v) ≡ refused (cond a w v)
    go true e true f = absurd (h (eqb-true v 0 e) (eqb-true w 0 f))
    go true e false f = refl
    go false e b f = refl

pub refusal_first : {r v : ℕ} (w : ℕ) → r ≡ v → (r ≡ 0 → ⊥) → ◌≡◌ {A = Answer Moved} (Answer.refused r) (Answer.refused (either v w))
refusal_first {r = r} w e z = rw (← e, ne_eqb r 0 z)

pub refusal_second : {r v s w : ℕ} → r ≡ v → r ≡ 0 → s ≡ w → ◌≡◌ {A = Answer Moved} (Answer.refused s) (Answer.refused (either v w))
refusal_second {r = r} e z f = rw (← e, eq-eqb r 0 z, f)

module _ (H : List ℕ → List ℕ) (leaf : List ℕ) (place m n : ℕ) (root₁ root₂ path proof : List ℕ) where
  abbrev N₁ : ℕ
  N₁ = inclusion_verdict H leaf place m root₁ path

  abbrev N₂ : ℕ
  N₂ = consistency_verdict H m n root₁ root₂ proof

  pub one_refused : (room pair : ℕ) → (N₁ ≡ 0 → N₂ ≡ 0 → ⊥) → carry H leaf place m n root₁ root₂ path proof room pair ≡ refused (either N₁ N₂)
  unfolding carry
  one_refused room pair h = either_of N₁ N₂ _ h

  pub fit_of : N₁ ≡ 0 → N₂ ≡ 0 → Fit (length leaf) place m n (length root₁) (length root₂) (length path) (length proof)
  fit_of e f =
      let a = inclusion_accepted H leaf place m root₁ path e in
      let b = consistency_accepted H m n root₁ root₂ proof f in
      record {
        leaf_32 = a.leaf_32;
        old_32 = a.root_32;
        new_32 = b.second_32;
        below = a.below;
        order = b.order;
        in_range = b.in_range;
        path_length = a.counted;
        proof_length = b.counted;
      }

  -- the roots that the code finds are those that the proofs yield
  module _ (fit : Fit (length leaf) place m n (length root₁) (length root₂) (length path) (length proof)) {h f one two whole : List ℕ} (eh : h ≡ hash_at 0 leaf) (ef : f ≡ hash_at 0 root₁)
      (e₁ : one ≡ inclusion_root H place m h (first_nodes (length path / 32) path)) (e₂ : two ≡ old_root H m n true f (first_nodes (length proof / 32) proof)) (e₃ : whole ≡ new_root H m n true f (first_nodes (length proof / 32) proof)) where
    yielded : (one ≡ inclusion_root H place m leaf (nodes path)) × ((two ≡ old_root H m n true root₁ (nodes proof)) × (whole ≡ new_root H m n true root₁ (nodes proof)))
    yielded = (
      e₁ ∙ rw (eh, whole_hash leaf fit.leaf_32, nodes_first path),
      (e₂ ∙ rw (ef, whole_hash root₁ fit.old_32, nodes_first proof), e₃ ∙ rw (ef, whole_hash root₁ fit.old_32, nodes_first proof)),
    )

    pub agree_of : N₁ ≡ 0 → N₂ ≡ 0 → Agree one two whole root₁ root₂
    agree_of v w =
        let a = inclusion_accepted H leaf place m root₁ path v in
        let b = consistency_accepted H m n root₁ root₂ proof w in
        let y = yielded in
        (y.0 ∙ a.yields, (y.1.0 ∙ b.yields_first, y.1.1 ∙ b.yields_second))

    pub accepted_by : Agree one two whole root₁ root₂ → (N₁ ≡ 0) × (N₂ ≡ 0)
    accepted_by g =
        let y = yielded in
        let i = fit.below in
        let j = fit.order in
        let k = fit.in_range in (
          inclusion_accepts H leaf place m root₁ path record {
            leaf_32 = fit.leaf_32;
            root_32 = fit.old_32;
            below = fit.below;
            in_range = omega arith;
            counted = fit.path_length;
            yields = sym y.0 ∙ g.0;
          },
          consistency_accepts H m n root₁ root₂ proof record {
            first_32 = fit.old_32;
            second_32 = fit.new_32;
            some = omega arith;
            order = fit.order;
            in_range = fit.in_range;
            counted = fit.proof_length;
            yields_first = sym y.1.0 ∙ g.1.0;
            yields_second = sym y.1.1 ∙ g.1.1;
          },
        )

-- ---- the claims

is_collision : (s t : List ℕ) (n : ℕ) → collision s t ≡ refused n → ⊥
is_collision s t n e = let z : ◌≡◌ {A = ℕ} 0 1 = cc in omega arith

is_carried : (w : List ℕ) (n : ℕ) → carried w ≡ refused n → ⊥
is_carried w n e = let z : ◌≡◌ {A = ℕ} 0 1 = cc in omega arith

forwarded_apart : (d : Difference) (w s t : List ℕ) → forwarded d w ≡ collision s t → d ≡ apart s t
unfolding forwarded
forwarded_apart alike w s t e = absurd (let z : ◌≡◌ {A = ℕ} 0 1 = cc in omega arith)
forwarded_apart (apart u v) w s t e = cc

forwarded_alike : (d : Difference) (w u : List ℕ) → forwarded d w ≡ carried u → (d ≡ alike) × (w ≡ u)
unfolding forwarded
forwarded_alike alike w u e = (refl, cc)
forwarded_alike (apart s t) w u e = absurd (let z : ◌≡◌ {A = ℕ} 0 1 = cc in omega arith)

settles : (d : Difference) (w : List ℕ) (c : Forward) → c ≡ forwarded d w → ((u : List ℕ) × (c ≡ carried u)) ⊎ ((s : List ℕ) × ((t : List ℕ) × (c ≡ collision s t)))
unfolding forwarded
settles alike w c e = inl (w, e)
settles (apart s t) w c e = inr (s, (t, e))

-- strings that are handed over come of two accepted proofs
pub collision_of_accepted : (H : List ℕ → List ℕ) (leaf : List ℕ) (place m n : ℕ) (root₁ root₂ path proof : List ℕ) (room pair : ℕ) (s t : List ℕ) → carry H leaf place m n root₁ root₂ path proof room pair ≡ collision s t →
    (inclusion_verdict H leaf place m root₁ path ≡ 0) × ((consistency_verdict H m n root₁ root₂ proof ≡ 0) × (conflict H m n place leaf (nodes path) root₁ (nodes proof) ≡ apart s t))
unfolding carry
collision_of_accepted H leaf place m n root₁ root₂ path proof room pair s t e =
    let a = opened refused (inclusion_verdict H leaf place m root₁ path) _ _ e (is_collision s t) in
    let b = opened refused (consistency_verdict H m n root₁ root₂ proof) _ _ a.1 (is_collision s t) in
    let c = passed refused (collision s t) (is_collision s t) (ltb room (32 * inclusion_count place n)) 9 _ b.1 in
    let d = passed refused (collision s t) (is_collision s t) (ltb pair pair_bytes) 9 _ c.1 in
    (a.0, (b.0, forwarded_apart (conflict H m n place leaf (nodes path) root₁ (nodes proof)) (joined (forward H m n place (nodes path) root₁ (nodes proof))) s t d.1))

module _ (H : List ℕ → List ℕ) (H32 : (s : List ℕ) → length (H s) ≡ 32) where
  module _ (leaf : List ℕ) (place m n : ℕ) (root₁ root₂ path proof : List ℕ) (e : inclusion_verdict H leaf place m root₁ path ≡ 0) (f : consistency_verdict H m n root₁ root₂ proof ≡ 0) where
    pub new_path : All32 (forward H m n place (nodes path) root₁ (nodes proof)) × (length (forward H m n place (nodes path) root₁ (nodes proof)) ≡ inclusion_count place n)
    new_path =
        let t = both H leaf place m n root₁ root₂ path proof (sym e) refl (sym f) refl in
        let b = t.below in
        let o = t.order in
        forward_sized H H32 n (omega arith) m true place leaf (nodes path) root₁ (nodes proof) t.below t.order (λ y. t.root_32) (all_nodes path) (all_nodes proof) (nodes_length path ∙ t.path_count) (nodes_length proof ∙ t.proof_count)

    shown : Right H (inclusion_root H place n leaf (forward H m n place (nodes path) root₁ (nodes proof))) (new_root H m n true root₁ (nodes proof)) (conflict H m n place leaf (nodes path) root₁ (nodes proof))
    shown =
        let t = both H leaf place m n root₁ root₂ path proof (sym e) refl (sym f) refl in
        let a = inclusion_accepted H leaf place m root₁ path e in
        let c = consistency_accepted H m n root₁ root₂ proof f in
        let b = t.below in
        let o = t.order in
        forward_sound H H32 n (omega arith) m true place leaf (nodes path) root₁ (nodes proof) t.below t.order t.leaf_32 (λ y. t.root_32) (all_nodes path) (all_nodes proof) (nodes_length path ∙ t.path_count) (nodes_length proof ∙ t.proof_count) (a.yields ∙ sym c.yields_first)

    again : conflict H m n place leaf (nodes path) root₁ (nodes proof) ≡ alike → inclusion_verdict H leaf place n root₂ (joined (forward H m n place (nodes path) root₁ (nodes proof))) ≡ 0
    again d =
        let t = both H leaf place m n root₁ root₂ path proof (sym e) refl (sym f) refl in
        let c = consistency_accepted H m n root₁ root₂ proof f in
        let p = new_path in
        let b = t.below in
        let o = t.order in
        let F = forward H m n place (nodes path) root₁ (nodes proof) in
        inclusion_accepts H leaf place n root₂ (joined F) record {
          leaf_32 = t.leaf_32;
          root_32 = c.second_32;
          below = omega arith;
          in_range = c.in_range;
          counted = joined_length F p.0 ∙ ap (λ (i : ℕ). 32 * i) p.1;
          yields = ap (inclusion_root H place n leaf) (nodes_joined F p.0) ∙ alike_right _ _ _ d shown ∙ c.yields_second;
        }
      where
        alike_right : (y r : List ℕ) (d : Difference) → d ≡ alike → Right H y r d → y ≡ r
        alike_right y r d e w = rw e at w

  apart_right : (y r : List ℕ) (d : Difference) (s t : List ℕ) → d ≡ apart s t → Right H y r d → Collides H s t
  apart_right y r d s t e w = rw e at w

  pub carrying : Carrying H
  unfolding carry forwarded
  carrying = record {
    carries = λ leaf place m n root₁ root₂ path proof room pair. record {
      accepted = λ w e.
          let a = opened refused (inclusion_verdict H leaf place m root₁ path) _ _ e (is_carried w) in
          let b = opened refused (consistency_verdict H m n root₁ root₂ proof) _ _ a.1 (is_carried w) in
          let c = passed refused (carried w) (is_carried w) (ltb room (32 * inclusion_count place n)) 9 _ b.1 in
          let d = passed refused (carried w) (is_carried w) (ltb pair pair_bytes) 9 _ c.1 in
          let f = forwarded_alike (conflict H m n place leaf (nodes path) root₁ (nodes proof)) (joined (forward H m n place (nodes path) root₁ (nodes proof))) w d.1 in
          ap (inclusion_verdict H leaf place n root₂) (sym f.1) ∙ again leaf place m n root₁ root₂ path proof a.0 b.0 f.0;
      collides = λ s t e.
          let a = collision_of_accepted H leaf place m n root₁ root₂ path proof room pair s t e in
          apart_right _ _ _ s t a.1.1 (shown leaf place m n root₁ root₂ path proof a.0 a.1.0);
      reports = λ s t e f r l.
          let D = conflict H m n place leaf (nodes path) root₁ (nodes proof) in
          let F = joined (forward H m n place (nodes path) root₁ (nodes proof)) in
          let g = long H leaf place m n root₁ root₂ path proof room pair (sym e) refl (sym f) refl r l in
          (λ w. forwarded_apart D F s t (sym g ∙ w), λ w. g ∙ ap (λ (d : Difference). forwarded d F) w);
      settles = λ e f r l.
          settles (conflict H m n place leaf (nodes path) root₁ (nodes proof)) (joined (forward H m n place (nodes path) root₁ (nodes proof))) _ (long H leaf place m n root₁ root₂ path proof room pair (sym e) refl (sym f) refl r l);
      stays = λ i e f r l.
          let t = both H leaf place m n root₁ root₂ path proof (sym e) refl (sym f) refl in
          let b = t.below in
          long H leaf place m n root₁ root₂ path proof room pair (sym e) refl (sym f) refl r l
          ∙ ap₂ forwarded (conflict_all H m n place leaf (nodes path) root₁ (nodes proof) (omega arith) i) (ap joined (forward_all H m n place leaf (nodes path) root₁ (nodes proof) (omega arith) i) ∙ joined_nodes (inclusion_count place m) path t.path_length);
    };
  }
