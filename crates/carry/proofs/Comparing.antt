-- Comparing, on bytes: its claims, and what each of its tests answers. Assumes nothing but the hash's length, where it is asked.
use mathlib.Core.Path.{◌≡◌, refl, sym, ap, ap₂, ◌∙◌}
use mathlib.Core.Logic.{◌⊎◌, inl, inr}
use mathlib.Core.List.{List, [], ◌∷◌, ◌++◌}
use Prim.Native.Nat.{ℕ, zero, suc, ◌*◌, ◌/◌, ◌≤◌, ◌<◌}
use native.Mathlib.Omega.{arith}
use lib.Dec.{ltb}
use lib.ListN.{length, take, drop, length-drop, take-append-drop}
use borrow.Author.Tests.{lt-ltb, le-ltb, eq-eqb, ne_eqb}
use Rattle.tree.specs.Count.{inclusion_count}
use Rattle.tree.specs.Joined.{first_nodes, nodes, hash_at}
use Rattle.tree.specs.Verdict.{unless, inclusion_verdict}
use Rattle.octets.specs.Bytes.{over, joined}
use Rattle.tree.proofs.Accepting.{inclusion_accepted}
use Rattle.tree.proofs.Joining.{nodes_first, nodes_length, all_nodes, whole_hash}
use Rattle.carry.specs.Limits.{pair_bytes}
use Rattle.carry.proofs.Refusing.{opened, passed}
use Rattle.octets.specs.Answer.{Answer, done}
use Rattle.carry.specs.Strings.{Difference, alike, apart, Collides}
use Rattle.carry.specs.Compare.{Comparison, refused, equal, collision, Likeness, compare_report, pair_compared, found, differ, compare}
use Rattle.carry.specs.Compares.{Comparing}
use Rattle.carry.proofs.Differing.{Shows, differ_sound, differ_self}

-- joined nodes are the bytes again
pub joined_first : (n : ℕ) (s : List ℕ) → length s ≡ 32 * n → joined (first_nodes n s) ≡ s
unfolding first_nodes joined
joined_first zero [] e = refl
joined_first zero (x ∷ s) e = absurd (omega arith)
joined_first (suc n) s e = ap (λ (t : List ℕ). take 32 s ++ t) (joined_first n (drop 32 s) (simp length-drop (omega arith))) ∙ take-append-drop 32 s

pub joined_nodes : (n : ℕ) (s : List ℕ) → length s ≡ 32 * n → joined (nodes s) ≡ s
joined_nodes n s e =
    let d : length s / 32 ≡ n = omega arith in
    ap joined (nodes_first s ∙ ap (λ (i : ℕ). first_nodes i s) d) ∙ joined_first n s e

-- what an accepted proof has, for the code
pub accepted_proof : (H : List ℕ → List ℕ) (leaf : List ℕ) (place n : ℕ) (root path : List ℕ) {v : ℕ} → v ≡ inclusion_verdict H leaf place n root path → v ≡ 0 →
    (length leaf ≡ 32) × (length root ≡ 32) × (place < n) × (length path ≡ 32 * inclusion_count place n) × (length path / 32 ≡ inclusion_count place n)
accepted_proof H leaf place n root path e z =
    let a = inclusion_accepted H leaf place n root path (sym e ∙ z) in
    (a.leaf_32, a.root_32, a.below, a.counted, omega (arith, a.counted))

module _ (H : List ℕ → List ℕ) (place n : ℕ) (root leaf₁ path₁ leaf₂ path₂ : List ℕ) (room : ℕ) where
  abbrev C : Comparison
  C = compare H place n root leaf₁ path₁ leaf₂ path₂ room

  abbrev F : Difference
  F = differ H place n leaf₁ (nodes path₁) leaf₂ (nodes path₂)

  module _ {v : ℕ} (e : v ≡ inclusion_verdict H leaf₁ place n root path₁) where
    pub first_refused : (v ≡ 0 → ⊥) → C ≡ refused v
    unfolding compare unless
    first_refused z = rw (← e, ne_eqb v 0 z)

    module _ (z : v ≡ 0) {w : ℕ} (g : w ≡ inclusion_verdict H leaf₂ place n root path₂) where
      pub second_refused : (w ≡ 0 → ⊥) → C ≡ refused w
      unfolding compare unless
      second_refused y = rw (← e, ← g, eq-eqb v 0 z, ne_eqb w 0 y)

      module _ (y : w ≡ 0) where
        pub short : room < pair_bytes → C ≡ refused 9
        unfolding compare unless
        short l = rw (← e, ← g, eq-eqb v 0 z, eq-eqb w 0 y, lt-ltb room pair_bytes l)

        pub long : pair_bytes ≤ room → C ≡ found F
        unfolding compare unless
        long l = rw (← e, ← g, eq-eqb v 0 z, eq-eqb w 0 y, le-ltb room pair_bytes l)

-- what is reported and the buffer, by what is compared
pub reports_refused : {c : Comparison} {n : ℕ} (b : List ℕ) → c ≡ refused n → (Answer.refused n ≡ compare_report c) × (b ≡ pair_compared c b)
unfolding compare_report pair_compared
reports_refused b e = rw e (refl, refl)

pub reports_same : {c : Comparison} {d : Difference} (b : List ℕ) → c ≡ found d → d ≡ alike → (done Likeness.same ≡ compare_report c) × (b ≡ pair_compared c b)
unfolding compare_report pair_compared found
reports_same b e f = rw (e, f) (refl, refl)

pub reports_apart : {c : Comparison} {d : Difference} {s t : List ℕ} {y : List ℕ} (b : List ℕ) → c ≡ found d → d ≡ apart s t → y ≡ over (s ++ t) b → (done Likeness.of_strings ≡ compare_report c) × (y ≡ pair_compared c b)
unfolding compare_report pair_compared found
reports_apart b e f g = rw (e, f, g) (refl, refl)

-- what the code finds, of the bytes as they came
pub difference_bytes : (H : List ℕ → List ℕ) (place n : ℕ) (leaf₁ path₁ leaf₂ path₂ : List ℕ) {d : Difference} {h g : List ℕ} → d ≡ differ H place n h (first_nodes (length path₁ / 32) path₁) g (first_nodes (length path₁ / 32) path₂) →
    h ≡ hash_at 0 leaf₁ → length leaf₁ ≡ 32 → g ≡ hash_at 0 leaf₂ → length leaf₂ ≡ 32 → length path₁ / 32 ≡ length path₂ / 32 → d ≡ differ H place n leaf₁ (nodes path₁) leaf₂ (nodes path₂)
difference_bytes H place n leaf₁ path₁ leaf₂ path₂ e p l₁ q l₂ c =
    e ∙ rw (p, q, whole_hash leaf₁ l₁, whole_hash leaf₂ l₂, nodes_first path₁, nodes_first path₂, c)

-- ---- the claims

is_collision : (s t : List ℕ) (n : ℕ) → collision s t ≡ refused n → ⊥
is_collision s t n e = let z : ◌≡◌ {A = ℕ} 0 1 = cc in omega arith

pub is_equal : (n : ℕ) → equal ≡ refused n → ⊥
is_equal n e = let z : ◌≡◌ {A = ℕ} 0 1 = cc in omega arith

found_apart : (d : Difference) (s t : List ℕ) → found d ≡ collision s t → d ≡ apart s t
unfolding found
found_apart alike s t e = absurd (let z : ◌≡◌ {A = ℕ} 0 1 = cc in omega arith)
found_apart (apart u v) s t e = cc

found_alike : (d : Difference) → found d ≡ equal → d ≡ alike
unfolding found
found_alike alike e = refl
found_alike (apart u v) e = absurd (let z : ◌≡◌ {A = ℕ} 0 1 = cc in omega arith)

either : (d : Difference) (c : Comparison) → c ≡ found d → (c ≡ equal) ⊎ ((s : List ℕ) × ((t : List ℕ) × (c ≡ collision s t)))
unfolding found
either alike c e = inl e
either (apart s t) c e = inr (s, (t, e))

-- strings that are handed over are those of two accepted proofs
pub collision_of_accepted : (H : List ℕ → List ℕ) (place n : ℕ) (root leaf₁ path₁ leaf₂ path₂ : List ℕ) (room : ℕ) (s t : List ℕ) → compare H place n root leaf₁ path₁ leaf₂ path₂ room ≡ collision s t →
    (inclusion_verdict H leaf₁ place n root path₁ ≡ 0) × ((inclusion_verdict H leaf₂ place n root path₂ ≡ 0) × (differ H place n leaf₁ (nodes path₁) leaf₂ (nodes path₂) ≡ apart s t))
unfolding compare
collision_of_accepted H place n root leaf₁ path₁ leaf₂ path₂ room s t e =
    let a = opened refused (inclusion_verdict H leaf₁ place n root path₁) _ _ e (is_collision s t) in
    let b = opened refused (inclusion_verdict H leaf₂ place n root path₂) _ _ a.1 (is_collision s t) in
    let c = passed refused (collision s t) (is_collision s t) (ltb room pair_bytes) 9 _ b.1 in
    (a.0, (b.0, found_apart (differ H place n leaf₁ (nodes path₁) leaf₂ (nodes path₂)) s t c.1))

module _ (H : List ℕ → List ℕ) (H32 : (s : List ℕ) → length (H s) ≡ 32) where
  module _ (place n : ℕ) (root leaf₁ path₁ leaf₂ path₂ : List ℕ) where
    shown : inclusion_verdict H leaf₁ place n root path₁ ≡ 0 → inclusion_verdict H leaf₂ place n root path₂ ≡ 0 → Shows H leaf₁ (nodes path₁) leaf₂ (nodes path₂) (differ H place n leaf₁ (nodes path₁) leaf₂ (nodes path₂))
    shown e f =
        let a = inclusion_accepted H leaf₁ place n root path₁ e in
        let b = inclusion_accepted H leaf₂ place n root path₂ f in
        let i = a.counted in
        let j = b.counted in
        let x = nodes_length path₁ in
        let y = nodes_length path₂ in
        let l = a.below in
        differ_sound H H32 n (omega arith) place leaf₁ (nodes path₁) leaf₂ (nodes path₂) a.below a.leaf_32 b.leaf_32 (all_nodes path₁) (all_nodes path₂) (omega arith) (omega arith) (a.yields ∙ sym b.yields)

  apart_shows : (h : List ℕ) (p : List (List ℕ)) (g : List ℕ) (q : List (List ℕ)) (d : Difference) (s t : List ℕ) → d ≡ apart s t → Shows H h p g q d → Collides H s t
  apart_shows h p g q d s t e w = rw e at w

  alike_shows : (h : List ℕ) (p : List (List ℕ)) (g : List ℕ) (q : List (List ℕ)) (d : Difference) → d ≡ alike → Shows H h p g q d → (h ≡ g) × (p ≡ q)
  alike_shows h p g q d e w = rw e at w

  pub comparing : Comparing H
  unfolding compare found
  comparing = record {
    compares = λ place n root leaf₁ path₁ leaf₂ path₂ room. record {
      collides = λ s t e.
          let a = collision_of_accepted H place n root leaf₁ path₁ leaf₂ path₂ room s t e in
          apart_shows leaf₁ (nodes path₁) leaf₂ (nodes path₂) _ s t a.1.1 (shown place n root leaf₁ path₁ leaf₂ path₂ a.0 a.1.0);
      same = λ e f l. (
        λ w.
            let d = found_alike (differ H place n leaf₁ (nodes path₁) leaf₂ (nodes path₂)) (sym (long H place n root leaf₁ path₁ leaf₂ path₂ room (sym e) refl (sym f) refl l) ∙ w) in
            let a = inclusion_accepted H leaf₁ place n root path₁ e in
            let b = inclusion_accepted H leaf₂ place n root path₂ f in
            let s = alike_shows leaf₁ (nodes path₁) leaf₂ (nodes path₂) _ d (shown place n root leaf₁ path₁ leaf₂ path₂ e f) in
            (s.0, sym (joined_nodes (inclusion_count place n) path₁ a.counted) ∙ ap joined s.1 ∙ joined_nodes (inclusion_count place n) path₂ b.counted),
        λ w.
            let a = inclusion_accepted H leaf₁ place n root path₁ e in
            let u = a.below in
            long H place n root leaf₁ path₁ leaf₂ path₂ room (sym e) refl (sym f) refl l
            ∙ ap found (ap₂ (λ (g : List ℕ) (q : List ℕ). differ H place n leaf₁ (nodes path₁) g (nodes q)) (sym w.0) (sym w.1) ∙ differ_self H n (omega arith) place leaf₁ (nodes path₁)),
      );
      reports = λ s t e f l.
          let D = differ H place n leaf₁ (nodes path₁) leaf₂ (nodes path₂) in
          let g = long H place n root leaf₁ path₁ leaf₂ path₂ room (sym e) refl (sym f) refl l in
          (λ w. found_apart D s t (sym g ∙ w), λ w. g ∙ ap found w);
      settles = λ e f l. either (differ H place n leaf₁ (nodes path₁) leaf₂ (nodes path₂)) _ (long H place n root leaf₁ path₁ leaf₂ path₂ room (sym e) refl (sym f) refl l);
    };
  }
