-- The third demand: what a dispute hands over, and that it settles accepted pages, over every hash of 32 bytes. Assumes nothing.
use mathlib.Core.Path.{◌≡◌, refl, sym, ap, ◌∙◌}
use mathlib.Core.Logic.{⊎_elim}
use mathlib.Core.Bool.{Bool, true, false, false≢true, cond}
use mathlib.Core.List.{List, [], ◌∷◌, ◌++◌, append_assoc}
use Prim.Native.Nat.{ℕ, zero, suc, ◌*◌, ◌≤◌}
use native.Mathlib.Omega.{arith}
use lib.Dec.{ltb, eqb}
use lib.ListN.{length, take, drop}
use lib.Seq.{take_at, drop_at}
use borrow.Author.Tests.{ltb-false, le-ltb}
use Rattle.hash.specs.declared.Algorithm.{Algorithm}
use Rattle.hash.specs.declared.Named.{Named}
use Rattle.hash.specs.declared.Named.TheVariants.{By, Unknown}
use Rattle.hash.specs.Algorithm.{algorithm_of}
use Rattle.hash.specs.Digest.{hash_of, by_named, by_number}
use Rattle.octets.specs.Limits.{most_item}
use Rattle.hash.proofs.Promises.{hash_length}
use Rattle.hash.proofs.Algorithms.{by_known}
use Rattle.octets.specs.Bytes.{same, over}
use Rattle.tree.specs.Count.{inclusion_count}
use Rattle.tree.specs.Collision.{Collision}
use Rattle.tree.specs.Verdict.{unless, inclusion_verdict, consistency_verdict}
use Rattle.octets.proofs.Sameness.{same_true, same_refl}
use Rattle.tree.proofs.Counting.{bounds}
use Rattle.tree.proofs.Accepting.{inclusion_accepted, consistency_accepted}
use Rattle.carry.specs.Limits.{pair_bytes}
use Rattle.carry.specs.Strings.{Collides}
use Rattle.carry.specs.Forward.{Forward, carry}
use Rattle.carry.specs.Compare.{Comparison, compare}
use Rattle.carry.proofs.Refusing.{opened}
use Rattle.carry.proofs.Comparing.{is_equal, comparing}
use Rattle.carry.proofs.Refusing.{passed}
use Rattle.carry.proofs.Carrying.{carrying}
use Rattle.octets.specs.Answer.{Answer}
use Rattle.auditor.specs.Held.{Held, empty, head, empty_record}
use Rattle.auditor.specs.Heads.{Heads, end, truncated, then, last_size, last_root, joined_heads, heads_of}
use Rattle.auditor.specs.Dispute.{Finding, refused, alike, nodes, pages, onward, settled, longest_path, follow, dispute, dispute_report, pair_disputed, dispute_by}
use Rattle.auditor.specs.Calls.{Call, offer, ask, Entry, answered, Numbered, under, plain, accepted, paper_number, paper_after, run, answers, heads}
use Rattle.auditor.specs.Offer.{kept}
use Rattle.auditor.specs.Page.{page_number}
use Rattle.auditor.specs.Claims.{last_head}
use Rattle.auditor.specs.Demand.{Sound, Settles, OfHash, SoundBy, WhateverGiven, Demand3, TwoAuditors}
use Rattle.auditor.proofs.Offering.{taken}
use Rattle.auditor.proofs.Reading.{Fits, read_back}
use Rattle.auditor.proofs.Disputing.{followed}
use Rattle.auditor.proofs.Numbering.{named_one, heads_accepted, one_accepted, two_accepted}
use Rattle.auditor.proofs.Holding.{Runs, runs, later, shown, Some, some_page, consistent_fits, heads_fit}

-- the record holds this size and root, or nothing
unfoldable pub Agrees : Held → ℕ → List ℕ → Type 0
Agrees empty m r = Unit {0}
Agrees (head id time size root) m r = (size ≡ m) × (root ≡ r)

-- what the record holds is the last accepted head's
pub agrees : (es : List Entry) (held : Held) (m : ℕ) (r : List ℕ) → Agrees held m r → Agrees (last_head held es) (last_size m (heads es)) (last_root r (heads es))
unfolding last_head heads last_size last_root Agrees
agrees [] held m r a = a
agrees (answered (offer id time size root path) zero ∷ es) held m r a = agrees es (head id time size root) size root (refl, refl)
agrees (answered (offer id time size root path) (suc n) ∷ es) held m r a = agrees es held m r a
agrees (answered (ask place page path) n ∷ es) held m r a = agrees es held m r a

module _ (H : List ℕ → List ℕ) where
  -- what is owed of what is found about two pages
  unfoldable pub Owed : List ℕ → List ℕ → Finding → Type 0
  Owed page₁ page₂ (refused n) = Unit {0}
  Owed page₁ page₂ alike = page₁ ≡ page₂
  Owed page₁ page₂ (nodes s t) = Collides H s t
  Owed page₁ page₂ pages = Collision H (0 ∷ page₁) (0 ∷ page₂)

  -- heads that the verdict accepts one after another, from a size and a root
  unfoldable pub Chain : Heads → ℕ → List ℕ → Type 0
  Chain end m r = Unit {0}
  Chain truncated m r = ⊥
  Chain (then n s q hs) m r = (consistency_verdict H m n r s q ≡ 0) × Chain hs n s

  -- an accepted page, under the head held
  page_shown : (held : Held) (m : ℕ) (r : List ℕ) (place : ℕ) (page path : List ℕ) → Agrees held m r → paper_number H held (ask place page path) ≡ 0 → (length page ≤ most_item) × (inclusion_verdict H (H (0 ∷ page)) place m r path ≡ 0)
  unfolding Agrees paper_number page_number
  page_shown empty m r place page path a e = absurd (omega arith)
  page_shown (head id time size root) m r place page path a e = rw (a.0, a.1) at (shown H id time size root place page path e)

  -- an accepted head, over a record that holds one
  head_shown : (held : Held) (m : ℕ) (r id : List ℕ) (time size : ℕ) (root path : List ℕ) → Some H held → Agrees held m r → paper_number H held (offer id time size root path) ≡ 0 → consistency_verdict H m size r root path ≡ 0
  unfolding Agrees Some paper_number
  head_shown empty m r id time size root path s a e = absurd s
  head_shown (head id₀ time₀ size₀ root₀) m r id time size root path s a e = rw (a.0, a.1) at (taken H id₀ time₀ size₀ root₀ id time size root path e).consistent

  -- the heads accepted since a head are such a chain
  chain : (es fs : List Entry) (held : Held) (m : ℕ) (r : List ℕ) → Some H held → Agrees held m r → Runs H held (es ++ fs) → Chain (heads es) m r
  unfolding heads Runs paper_after kept Chain Some Agrees
  chain [] fs held m r s a w = tt
  chain (answered (offer id time size root path) zero ∷ es) fs held m r s a w =
      (head_shown held m r id time size root path s a w.0, chain es fs (head id time size root) size root tt (refl, refl) w.1)
  chain (answered (offer id time size root path) (suc n) ∷ es) fs held m r s a w = chain es fs held m r s a w.1
  chain (answered (ask place page path) n ∷ es) fs held m r s a w = chain es fs held m r s a w.1

  -- a comparison that says 'same' has passed both verdicts, and the leaf hashes are the same
  same_leaves : ((s : List ℕ) → length (H s) ≡ 32) → (place m : ℕ) (r leaf₁ p leaf₂ q : List ℕ) (pair : ℕ) → compare H place m r leaf₁ p leaf₂ q pair ≡ Comparison.equal → leaf₁ ≡ leaf₂
  unfolding compare
  same_leaves H32 place m r leaf₁ p leaf₂ q pair e =
      let a = opened Comparison.refused _ _ _ e is_equal in
      let b = opened Comparison.refused _ _ _ a.1 is_equal in
      let c = passed Comparison.refused Comparison.equal is_equal (ltb pair pair_bytes) 9 _ b.1 in
      ((((comparing H H32).compares place m r leaf₁ p leaf₂ q pair).same a.0 b.0 (ltb-false pair pair_bytes c.0)).0 e).0

  module _ (H32 : (s : List ℕ) → length (H s) ≡ 32) (place : ℕ) (page₁ page₂ path₂ : List ℕ) (pair : ℕ) where
    owed_settled : (f : Comparison) → (f ≡ Comparison.equal → H (0 ∷ page₁) ≡ H (0 ∷ page₂)) → ((s t : List ℕ) → f ≡ Comparison.collision s t → Collides H s t) → Owed page₁ page₂ (settled page₁ page₂ f)
    unfolding settled Owed
    owed_settled (Comparison.refused n) e w = tt
    owed_settled Comparison.equal e w = go (same page₁ page₂) refl
      where
        go : (b : Bool) → same page₁ page₂ ≡ b → Owed page₁ page₂ (cond b alike pages)
        go true t = same_true page₁ page₂ t
        go false t = record { different = λ z. false≢true (sym t ∙ ap (λ (x : List ℕ). same x page₂) (ap (drop 1) z) ∙ same_refl page₂); one_hash = e refl }
    owed_settled (Comparison.collision s t) e w = w s t refl

    owed_onward : (f : Forward) (go : List ℕ → Finding) → ((s t : List ℕ) → f ≡ Forward.collision s t → Collides H s t) → ((p : List ℕ) → Owed page₁ page₂ (go p)) → Owed page₁ page₂ (onward f go)
    unfolding onward Owed
    owed_onward (Forward.refused n) go w rest = tt
    owed_onward (Forward.carried p) go w rest = rest p
    owed_onward (Forward.collision s t) go w rest = w s t refl

    -- whatever is given
    owed : (hs : Heads) (m : ℕ) (r p : List ℕ) → Owed page₁ page₂ (follow H place page₁ page₂ path₂ pair hs m r p)
    unfolding follow Owed
    owed end m r p =
        let c = (comparing H H32).compares place m r (H (0 ∷ page₁)) p (H (0 ∷ page₂)) path₂ pair in
        owed_settled (compare H place m r (H (0 ∷ page₁)) p (H (0 ∷ page₂)) path₂ pair)
        (same_leaves H32 place m r (H (0 ∷ page₁)) p (H (0 ∷ page₂)) path₂ pair) c.collides
    owed truncated m r p = tt
    owed (then n s q hs) m r p =
        owed_onward (carry H (H (0 ∷ page₁)) place m n r s p q longest_path pair) (follow H place page₁ page₂ path₂ pair hs n s)
        ((carrying H H32).carries (H (0 ∷ page₁)) place m n r s p q longest_path pair).collides (owed hs n s)

    -- from an accepted proof over a chain of heads to one accepted under the last of them, nothing is refused
    module _ (long : pair_bytes ≤ pair) where
      settled_none : (f : Comparison) → ((n : ℕ) → f ≡ Comparison.refused n → ⊥) → (n : ℕ) → settled page₁ page₂ f ≡ refused n → ⊥
      unfolding settled
      settled_none (Comparison.refused k) z n e = z k refl
      settled_none Comparison.equal z n e = go (same page₁ page₂) e
        where
          go : (b : Bool) → cond b alike pages ≡ refused n → ⊥
          go true f = let y : ◌≡◌ {A = ℕ} 0 1 = cc in omega arith
          go false f = let y : ◌≡◌ {A = ℕ} 0 1 = cc in omega arith
      settled_none (Comparison.collision s t) z n e = let y : ◌≡◌ {A = ℕ} 0 1 = cc in omega arith

      onward_none : (f : Forward) (go : List ℕ → Finding) → ((n : ℕ) → f ≡ Forward.refused n → ⊥) → ((p : List ℕ) → f ≡ Forward.carried p → (n : ℕ) → go p ≡ refused n → ⊥) → (n : ℕ) → onward f go ≡ refused n → ⊥
      unfolding onward
      onward_none (Forward.refused k) go z rest n e = z k refl
      onward_none (Forward.carried p) go z rest n e = rest p refl n e
      onward_none (Forward.collision s t) go z rest n e = let y : ◌≡◌ {A = ℕ} 0 1 = cc in omega arith

      none_refused : (hs : Heads) (m : ℕ) (r p : List ℕ) → Chain hs m r → inclusion_verdict H (H (0 ∷ page₁)) place m r p ≡ 0 → inclusion_verdict H (H (0 ∷ page₂)) place (last_size m hs) (last_root r hs) path₂ ≡ 0 →
          (n : ℕ) → follow H place page₁ page₂ path₂ pair hs m r p ≡ refused n → ⊥
      unfolding follow Chain last_size last_root
      none_refused end m r p c a b =
          settled_none (compare H place m r (H (0 ∷ page₁)) p (H (0 ∷ page₂)) path₂ pair)
          (λ k e. ⊎_elim (λ f. let y : ◌≡◌ {A = ℕ} 0 1 = cc in omega arith) (λ f. let g = f.1.1 in let y : ◌≡◌ {A = ℕ} 0 1 = cc in omega arith)
          (((comparing H H32).compares place m r (H (0 ∷ page₁)) p (H (0 ∷ page₂)) path₂ pair).settles a b long))
      none_refused truncated m r p c a b = absurd c
      none_refused (then n s q hs) m r p c a b =
          let w = (carrying H H32).carries (H (0 ∷ page₁)) place m n r s p q longest_path pair in
          onward_none (carry H (H (0 ∷ page₁)) place m n r s p q longest_path pair) (follow H place page₁ page₂ path₂ pair hs n s)
          (λ k e. ⊎_elim (λ f. let g = f.1 in let y : ◌≡◌ {A = ℕ} 0 1 = cc in omega arith) (λ f. let g = f.1.1 in let y : ◌≡◌ {A = ℕ} 0 1 = cc in omega arith)
          (w.settles a c.0 (enough m n r s p q a c.0) long))
          (λ p₂ e. none_refused hs n s p₂ c.1 (w.accepted p₂ e) b)
        where
          enough : (m n : ℕ) (r s p q : List ℕ) → inclusion_verdict H (H (0 ∷ page₁)) place m r p ≡ 0 → consistency_verdict H m n r s q ≡ 0 → 32 * inclusion_count place n ≤ longest_path
          enough m n r s p q a c =
              let i = inclusion_accepted H (H (0 ∷ page₁)) place m r p a in
              let k = consistency_accepted H m n r s q c in
              let l = bounds.inclusion_largest place n (omega (arith, i.below, k.order)) k.in_range in
              omega (arith, l)

  -- ---- the whole dispute

  owed_cond : (page₁ page₂ : List ℕ) (b : Bool) (x y : Finding) → Owed page₁ page₂ x → Owed page₁ page₂ y → Owed page₁ page₂ (cond b x y)
  owed_cond page₁ page₂ true x y v w = v
  owed_cond page₁ page₂ false x y v w = w

  module _ (H32 : (s : List ℕ) → length (H s) ≡ 32) where
    -- whatever it is given
    pub whatever : (page₁ : List ℕ) (place : ℕ) (path₁ : List ℕ) (size : ℕ) (root : List ℕ) (hs : Heads) (page₂ path₂ : List ℕ) (pair : ℕ) → Owed page₁ page₂ (dispute H page₁ place path₁ size root hs page₂ path₂ pair)
    unfolding dispute unless Owed
    whatever page₁ place path₁ size root hs page₂ path₂ pair =
        owed_cond page₁ page₂ (ltb most_item (length page₁)) _ _ tt
        (owed_cond page₁ page₂ (ltb most_item (length page₂)) _ _ tt
        (owed_cond page₁ page₂ (eqb (inclusion_verdict H (H (0 ∷ page₁)) place size root path₁) 0) _ _ (owed H32 place page₁ page₂ path₂ pair hs size root path₁) tt))

    -- two pages accepted at one place, the second under the last of a chain of heads from the head of the first
    module _ (place : ℕ) (page₁ path₁ : List ℕ) (m : ℕ) (r : List ℕ) (hs : Heads) (page₂ path₂ : List ℕ) (pair : ℕ) where
      pub not_refused :
          Chain hs m r → (length page₁ ≤ most_item) × (inclusion_verdict H (H (0 ∷ page₁)) place m r path₁ ≡ 0) →
          (length page₂ ≤ most_item) × (inclusion_verdict H (H (0 ∷ page₂)) place (last_size m hs) (last_root r hs) path₂ ≡ 0) → pair_bytes ≤ pair →
          (n : ℕ) → dispute H page₁ place path₁ m r hs page₂ path₂ pair ≡ refused n → ⊥
      not_refused c a b long n e =
          none_refused H32 place page₁ page₂ path₂ pair long hs m r path₁ c a.1 b.1 n
          (sym (followed H page₁ place path₁ m r hs page₂ path₂ pair (le-ltb _ _ a.0) (le-ltb _ _ b.0) (H (0 ∷ page₁)) refl 0 (sym a.1) refl) ∙ e)

    -- a page accepted in a run, under the last head accepted before it
    at_page : (calls : List Call) (before rest : List Entry) (place : ℕ) (page path : List ℕ) → run H empty calls ≡ before ++ (answered (ask place page path) 0 ∷ rest) →
        Some H (last_head empty before) × Runs H (last_head empty before) rest × ((length page ≤ most_item) × (inclusion_verdict H (H (0 ∷ page)) place (last_size 0 (heads before)) (last_root [] (heads before)) path ≡ 0))
    unfolding Runs paper_after Agrees
    at_page calls before rest place page path e =
        let w : Runs H empty (before ++ (answered (ask place page path) 0 ∷ rest)) = rw e at (runs H calls empty) in
        let l = later H before (answered (ask place page path) 0 ∷ rest) empty w in (
          some_page H (last_head empty before) place page path l.0,
          l.1,
          page_shown (last_head empty before) (last_size 0 (heads before)) (last_root [] (heads before)) place page path (agrees before empty 0 [] tt) l.0,
        )

    -- over every list of calls
    pub demand :
        (calls : List Call) (before between rest : List Entry) (place : ℕ) (page₁ path₁ page₂ path₂ : List ℕ) (pair : ℕ) →
        run H empty calls ≡ before ++ (answered (ask place page₁ path₁) 0 ∷ (between ++ (answered (ask place page₂ path₂) 0 ∷ rest))) → pair_bytes ≤ pair →
        (n : ℕ) → dispute H page₁ place path₁ (last_size 0 (heads before)) (last_root [] (heads before)) (heads between) page₂ path₂ pair ≡ refused n → ⊥
    unfolding Runs paper_after Agrees
    demand calls before between rest place page₁ path₁ page₂ path₂ pair e long =
        let m = last_size 0 (heads before) in
        let r = last_root [] (heads before) in
        let a = at_page calls before (between ++ (answered (ask place page₂ path₂) 0 ∷ rest)) place page₁ path₁ e in
        let g = agrees before empty 0 [] tt in
        let l = later H between (answered (ask place page₂ path₂) 0 ∷ rest) (last_head empty before) a.1 in
        not_refused place page₁ path₁ m r (heads between) page₂ path₂ pair
        (chain between (answered (ask place page₂ path₂) 0 ∷ rest) (last_head empty before) m r a.0 g a.1)
        a.2
        (page_shown (last_head (last_head empty before) between) (last_size m (heads between)) (last_root r (heads between)) place page₂ path₂ (agrees between (last_head empty before) m r g) l.0)
        long

-- ---- in the code's terms

-- the strings are the start of the pair buffer
report_sound : (H : List ℕ → List ℕ) (page₁ page₂ : List ℕ) (d : Finding) (pair : List ℕ) → Owed H page₁ page₂ d → Sound H page₁ page₂ (dispute_report d) (pair_disputed d pair)
unfolding Owed Sound dispute_report pair_disputed over
report_sound H page₁ page₂ (refused n) pair w = tt
report_sound H page₁ page₂ alike pair w = w
report_sound H page₁ page₂ (nodes s t) pair w =
    let z = drop (length (s ++ t)) pair in
    let g : (s ++ t) ++ z ≡ s ++ (t ++ z) = append_assoc s t z in
    let a : take 65 ((s ++ t) ++ z) ≡ s = ap (take 65) g ∙ take_at s (t ++ z) 65 w.first_65 in
    let b : take 65 (drop 65 ((s ++ t) ++ z)) ≡ t = ap (λ (x : List ℕ). take 65 (drop 65 x)) g ∙ ap (take 65) (drop_at s (t ++ z) 65 w.first_65) ∙ take_at t z 65 w.second_65 in
    rw (a, b) w.collision
report_sound H page₁ page₂ pages pair w = w

report_refused : (d : Finding) (n : ℕ) → dispute_report d ≡ Answer.refused n → d ≡ refused n
unfolding dispute_report
report_refused (refused k) n e = let f : k ≡ n = cc in ap refused f
report_refused alike n e = absurd (let y : ◌≡◌ {A = ℕ} 0 1 = cc in omega arith)
report_refused (nodes s t) n e = absurd (let y : ◌≡◌ {A = ℕ} 0 1 = cc in omega arith)
report_refused pages n e = absurd (let y : ◌≡◌ {A = ℕ} 0 1 = cc in omega arith)

-- by a number: under its hash, or 16
whatever_by : (named : Named) (page₁ : List ℕ) (place : ℕ) (path₁ : List ℕ) (size : ℕ) (root : List ℕ) (hs : Heads) (page₂ path₂ pair : List ℕ) →
    (let d = by_named named (refused 16) (λ H. dispute H page₁ place path₁ size root hs page₂ path₂ (length pair)) in
    SoundBy named page₁ page₂ (dispute_report d) (pair_disputed d pair) pair)
unfolding SoundBy by_named dispute_report pair_disputed
whatever_by (By a) page₁ place path₁ size root hs page₂ path₂ pair =
    report_sound (hash_of a) page₁ page₂ _ pair (whatever (hash_of a) (hash_length a) page₁ place path₁ size root hs page₂ path₂ (length pair))
whatever_by Unknown page₁ place path₁ size root hs page₂ path₂ pair = (refl, refl)

pub whatever_given : WhateverGiven
unfolding dispute_by by_number
whatever_given n page₁ place path₁ size root between page₂ path₂ pair = whatever_by (algorithm_of n) page₁ place path₁ size root (heads_of between) page₂ path₂ pair

module _ (H : List ℕ → List ℕ) (H32 : (s : List ℕ) → length (H s) ≡ 32) where
  settles : (page₁ : List ℕ) (place : ℕ) (path₁ : List ℕ) (size : ℕ) (root : List ℕ) (hs : Heads) (page₂ path₂ pair : List ℕ) → Fits hs →
      ((n : ℕ) → dispute H page₁ place path₁ size root hs page₂ path₂ (length pair) ≡ refused n → ⊥) →
      (let d = dispute H page₁ place path₁ size root (heads_of (joined_heads hs)) page₂ path₂ (length pair) in Settles H page₁ page₂ (dispute_report d) (pair_disputed d pair))
  unfolding Settles
  settles page₁ place path₁ size root hs page₂ path₂ pair fit passed =
      rw (read_back hs fit)
      (report_sound H page₁ page₂ _ pair (whatever H H32 page₁ place path₁ size root hs page₂ path₂ (length pair)), λ n e. passed n (report_refused _ n e))

-- what is settled under the hash of a number is settled by the number
of_number : (n : ℕ) (a : Algorithm) (page₁ : List ℕ) (place : ℕ) (path₁ : List ℕ) (size : ℕ) (root : List ℕ) (hs : Heads) (page₂ path₂ pair : List ℕ) → algorithm_of n ≡ By a →
    (let d = dispute (hash_of a) page₁ place path₁ size root hs page₂ path₂ (length pair) in Settles (hash_of a) page₁ page₂ (dispute_report d) (pair_disputed d pair)) →
    (let d = dispute_by n page₁ place path₁ size root hs page₂ path₂ (length pair) in OfHash (algorithm_of n) (λ H. Settles H page₁ page₂ (dispute_report d) (pair_disputed d pair)))
unfolding OfHash dispute_by by_number by_named
of_number n a page₁ place path₁ size root hs page₂ path₂ pair e w = rw e w

pub demand3 : Demand3
demand3 calls before between rest n₁ n₂ place page₁ path₁ page₂ path₂ pair e long =
    let u = two_accepted calls before between rest n₁ n₂ (ask place page₁ path₁) (ask place page₂ path₂) e in
    let H = hash_of u.alg in
    let x = plain (accepted before) in
    let y = plain (accepted between) in
    let z = plain (accepted rest) in
    let s = settles H (hash_length u.alg) page₁ place path₁ (last_size 0 (heads x)) (last_root [] (heads x)) (heads y) page₂ path₂ pair
    (heads_fit H u.calls x y (answered (ask place page₂ path₂) 0 ∷ z) place page₁ path₁ u.as_run)
    (demand H (hash_length u.alg) u.calls x y z place page₁ path₁ page₂ path₂ (length pair) u.as_run long) in
    (u.one_number, of_number n₁ u.alg page₁ place path₁ _ _ _ page₂ path₂ pair u.named (rw (heads_accepted before, heads_accepted between) at s))

-- from the page of one auditor to the page of another
one_way : (calls₁ calls₂ : List (Numbered Call)) (before₁ rest₁ before₂ rest₂ : List (Numbered Entry)) (number place : ℕ) (page₁ path₁ page₂ path₂ proof pair : List ℕ) →
    answers empty_record calls₁ ≡ before₁ ++ (under number (answered (ask place page₁ path₁) 0) ∷ rest₁) → answers empty_record calls₂ ≡ before₂ ++ (under number (answered (ask place page₂ path₂) 0) ∷ rest₂) →
    (let m = last_size 0 (heads (plain before₁)) in
    let r = last_root [] (heads (plain before₁)) in
    let n = last_size 0 (heads (plain before₂)) in
    let s = last_root [] (heads (plain before₂)) in
    pair_bytes ≤ length pair → by_number number 16 (λ H. consistency_verdict H m n r s proof) ≡ 0 →
    (let d = dispute_by number page₁ place path₁ m r (heads_of (joined_heads (then n s proof end))) page₂ path₂ (length pair) in
    OfHash (algorithm_of number) (λ H. Settles H page₁ page₂ (dispute_report d) (pair_disputed d pair))))
unfolding Chain last_size last_root Fits
one_way calls₁ calls₂ before₁ rest₁ before₂ rest₂ number place page₁ path₁ page₂ path₂ proof pair e₁ e₂ long c =
    let u = one_accepted calls₁ before₁ rest₁ number (ask place page₁ path₁) e₁ in
    let v = one_accepted calls₂ before₂ rest₂ number (ask place page₂ path₂) e₂ in
    let H = hash_of u.alg in
    let H32 = hash_length u.alg in
    let same = named_one (sym v.named ∙ u.named) in
    let m = last_size 0 (heads (plain before₁)) in
    let r = last_root [] (heads (plain before₁)) in
    let n = last_size 0 (heads (plain before₂)) in
    let s = last_root [] (heads (plain before₂)) in
    let a = rw (heads_accepted before₁) at (at_page H H32 u.calls (plain (accepted before₁)) (plain (accepted rest₁)) place page₁ path₁ u.as_run) in
    let b = rw (heads_accepted before₂) at (at_page H H32 v.calls (plain (accepted before₂)) (plain (accepted rest₂)) place page₂ path₂ (rw same at v.as_run)) in
    let k : consistency_verdict H m n r s proof ≡ 0 = by_known number 16 (λ G. consistency_verdict G m n r s proof) u.alg (sym u.named) ∙ c in
    of_number number u.alg page₁ place path₁ m r _ page₂ path₂ pair u.named
    (settles H H32 page₁ place path₁ m r (then n s proof end) page₂ path₂ pair
    (consistent_fits H m n r s proof end k tt)
    (not_refused H H32 place page₁ path₁ m r (then n s proof end) page₂ path₂ (length pair) (k, tt) a.2 b.2 long))

pub two_auditors : TwoAuditors
two_auditors calls₁ calls₂ before₁ rest₁ before₂ rest₂ number place page₁ path₁ page₂ path₂ proof pair e₁ e₂ long =
    (one_way calls₁ calls₂ before₁ rest₁ before₂ rest₂ number place page₁ path₁ page₂ path₂ proof pair e₁ e₂ long, one_way calls₂ calls₁ before₂ rest₂ before₁ rest₁ number place page₂ path₂ page₁ path₁ proof pair e₂ e₁ long)
