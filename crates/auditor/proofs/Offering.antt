-- The number of an offer, and what an accepted one has passed, over any hash H. Assumes nothing.
use mathlib.Core.Path.{◌≡◌, refl, sym, ap, ap₂, ◌∙◌}
use mathlib.Core.Bool.{false≢true, Bool, true, false, cond, not, ◌&&◌, ◌||◌}
use mathlib.Core.Logic.{◌⊎◌, inl, inr}
use mathlib.Core.List.{List}
use Prim.Native.Nat.{ℕ, zero, suc, ◌%◌, ◌≤◌}
use native.Mathlib.Omega.{arith}
use lib.Dec.{ltb, eqb}
use lib.ListN.{length, replicate}
use borrow.Author.Tests.{eq-eqb, le-ltb, ltb-false, eqb-true, not-false}
use Rattle.octets.specs.Bytes.{same, over}
use Rattle.tree.specs.Verdict.{consistency_verdict}
use Rattle.tree.proofs.Accepting.{pass}
use Rattle.octets.proofs.Sameness.{same_true, same_of}
use Rattle.auditor.specs.declared.Record.{Record}
use Rattle.auditor.specs.Held.{Held, empty, head, id_of, view, holding}
use Rattle.auditor.specs.Second.{other_root, is_evidence, evidence_of, beside}
use Rattle.auditor.specs.Offer.{outside, stale, against, by_record, offer_number, kept_record, offered_over}

-- what a record stands for
pub view_held : (r : Record) → r.held ≡ true → view r ≡ head (id_of r) r.timestamp r.size r.root
unfolding view
view_held r e = rw e

pub view_empty : (r : Record) → r.held ≡ false → view r ≡ empty
unfolding view
view_empty r e = rw e

pub or_false : (a b : Bool) → (a || b) ≡ false → (a ≡ false) × (b ≡ false)
or_false false b e = (refl, e)
or_false true b e = absurd (false≢true (sym e))

or_none : (a : Bool) → (a || false) ≡ a
or_none true = refl
or_none false = refl

and_false : (a b : Bool) → a ≡ true → (a && b) ≡ false → b ≡ false
and_false true b e f = f
and_false false b e f = absurd (false≢true e)

-- a test that gives another number was passed
pub past : (b : Bool) (k x n : ℕ) → (n ≡ k → ⊥) → cond b k x ≡ n → (b ≡ false) × (x ≡ n)
past true k x n z e = absurd (z (sym e))
past false k x n z e = (refl, e)

module _ (H : List ℕ → List ℕ) (held : Held) (id : List ℕ) (time size : ℕ) (root path : List ℕ) where
  -- 5 and 10 come before what the record decides
  pub passes : length root ≡ 32 → 2 ≤ length id → length id ≤ 127 → length path % 32 ≡ 0 → offer_number H held id time size root path ≡ by_record H held id time size root path
  unfolding offer_number
  passes a b c d = simp (eq-eqb _ _ a, le-ltb _ _ b, le-ltb _ _ c, eq-eqb _ _ d)

  -- what an offer with this number has passed, where it is none of these two
  pub record Passed (n : ℕ) : Type 0 where
    pub root_32 : length root ≡ 32
    pub id_least : 2 ≤ length id
    pub id_most : length id ≤ 127
    pub path_whole : length path % 32 ≡ 0
    pub by_record_lem : by_record H held id time size root path ≡ n

  pub passed_with : (n : ℕ) → (n ≡ 5 → ⊥) → (n ≡ 10 → ⊥) → offer_number H held id time size root path ≡ n → Passed n
  unfolding offer_number
  passed_with n five ten e =
      let a = past (not (eqb (length root) 32)) 5 _ n five e in
      let b = past (ltb (length id) 2 || ltb 127 (length id)) 5 _ n five a.1 in
      let c = past (not (eqb (length path % 32) 0)) 10 _ n ten b.1 in
      let d = or_false (ltb (length id) 2) (ltb 127 (length id)) b.0 in
      record { root_32 = eqb-true _ _ (not-false _ a.0); id_least = ltb-false _ _ d.0; id_most = ltb-false _ _ d.1; path_whole = eqb-true _ _ (not-false _ c.0); by_record_lem = c.1 }

  pub passed : offer_number H held id time size root path ≡ 0 → Passed 0
  passed = passed_with 0 (λ e. omega arith) (λ e. omega arith)

-- ---- timestamps

module _ (time₀ size₀ : ℕ) (root₀ : List ℕ) (time size : ℕ) (root : List ℕ) where
  -- the size and the root held
  abbrev pub OneHead : Type 0
  OneHead = (size₀ ≡ size) × (root₀ ≡ root)

  one_head : OneHead → (not (eqb size size₀) || not (same root root₀)) ≡ false
  one_head h = ap₂ ◌||◌ (ap not (eq-eqb size size₀ (sym h.0))) (ap not (same_of root root₀ (sym h.1)))

  pub fresh : stale time₀ size₀ root₀ time size root ≡ false → (time₀ ≤ time) × (time₀ ≡ time → OneHead)
  unfolding stale
  fresh e =
      let a = or_false (ltb time time₀) _ e in (
        ltb-false _ _ a.0,
        λ q.
            let b = or_false (not (eqb size size₀)) _ (and_false (eqb time time₀) _ (eq-eqb _ _ (sym q)) a.1) in
            (sym (eqb-true _ _ (not-false _ b.0)), sym (same_true _ _ (not-false _ b.1))),
      )

  -- where it is no other head, the test is the older one
  pub as_earlier : (time₀ ≡ time → OneHead) → stale time₀ size₀ root₀ time size root ≡ ltb time time₀
  unfolding stale
  as_earlier h = ap (λ (b : Bool). ltb time time₀ || b) (go (eqb time time₀) refl) ∙ or_none (ltb time time₀)
    where
      go : (b : Bool) → eqb time time₀ ≡ b → (b && (not (eqb size size₀) || not (same root root₀))) ≡ false
      go true e = one_head (h (sym (eqb-true _ _ e)))
      go false e = refl

  pub another : time₀ ≡ time → (OneHead → ⊥) → stale time₀ size₀ root₀ time size root ≡ true
  another q other = go (stale time₀ size₀ root₀ time size root) refl
    where
      go : (b : Bool) → stale time₀ size₀ root₀ time size root ≡ b → stale time₀ size₀ root₀ time size root ≡ true
      go true e = e
      go false e = absurd (other ((fresh e).1 q))

  -- with the timestamp and the size held, the root decides
  pub by_root : time₀ ≡ time → size₀ ≡ size → (eqb size size₀ && not (same root root₀)) ≡ stale time₀ size₀ root₀ time size root
  unfolding stale
  by_root q s =
      let e = eq-eqb size size₀ (sym s) in
      ap (λ (b : Bool). b && not (same root root₀)) e
      ∙ sym (ap₂ ◌||◌ (le-ltb time time₀ (omega arith)) (ap₂ ◌&&◌ (eq-eqb time time₀ (sym q)) (ap (λ (b : Bool). not b || not (same root root₀)) e)))

-- what an accepted head has passed, over a record that holds one: the log id held, no smaller size, a fresh timestamp, and the verdict
pub record Taken (H : List ℕ → List ℕ) (id₀ : List ℕ) (time₀ size₀ : ℕ) (root₀ id : List ℕ) (time size : ℕ) (root path : List ℕ) : Type 0 where
  pub one_log : id₀ ≡ id
  pub no_smaller : size₀ ≤ size
  pub no_earlier : time₀ ≤ time
  pub one_time : time₀ ≡ time → (size₀ ≡ size) × (root₀ ≡ root)
  pub one_root : size₀ ≡ size → root₀ ≡ root
  pub consistent : consistency_verdict H size₀ size root₀ root path ≡ 0

module _ (H : List ℕ → List ℕ) (id₀ : List ℕ) (time₀ size₀ : ℕ) (root₀ id : List ℕ) (time size : ℕ) (root path : List ℕ) where
  pub by_tests : against H id₀ time₀ size₀ root₀ id time size root path ≡ 0 → Taken H id₀ time₀ size₀ root₀ id time size root path
  unfolding against
  by_tests e =
      let a = pass (not (same id₀ id)) 10 _ e in
      let b = pass (outside size || ltb size size₀) 5 _ a.1 in
      let c = pass (stale time₀ size₀ root₀ time size root) 11 _ b.1 in
      let d = pass (eqb size size₀ && not (same root root₀)) 12 _ c.1 in
      let f = fresh time₀ size₀ root₀ time size root c.0 in
      record {
        one_log = same_true _ _ (not-false _ a.0);
        no_smaller = ltb-false _ _ (or_false (outside size) (ltb size size₀) b.0).1;
        no_earlier = f.0;
        one_time = f.1;
        one_root = λ q. sym (same_true _ _ (not-false _ (rw (eq-eqb size size₀ (sym q)) at d.0)));
        consistent = d.1;
      }

  pub taken : offer_number H (head id₀ time₀ size₀ root₀) id time size root path ≡ 0 → Taken H id₀ time₀ size₀ root₀ id time size root path
  unfolding by_record
  taken e = by_tests (passed H (head id₀ time₀ size₀ root₀) id time size root path e).by_record_lem

-- ---- evidence

-- what is evidence was refused with one of three numbers
abbrev pub Number : Held → ℕ → ℕ → List ℕ → Type 0
Number held n size root = (n ≡ 8) ⊎ ((n ≡ 13) ⊎ ((n ≡ 12) × (other_root held size root ≡ true)))

pub evident : (held : Held) (n size : ℕ) (root : List ℕ) → is_evidence held n size root ≡ true → Number held n size root
unfolding is_evidence
evident held n size root e = go (eqb n 8) refl (eqb n 13) refl (eqb n 12) refl
  where
    go : (a : Bool) → eqb n 8 ≡ a → (b : Bool) → eqb n 13 ≡ b → (c : Bool) → eqb n 12 ≡ c → Number held n size root
    go true f b g c h = inl (eqb-true n 8 f)
    go false f true g c h = inr (inl (eqb-true n 13 g))
    go false f false g true h = inr (inr (eqb-true n 12 h, rw (f, g, h) at e))
    go false f false g false h = absurd (false≢true (rw (f, g, h) at e))

-- so it passed 5 and 10
pub evident_passed : (H : List ℕ → List ℕ) (held : Held) (id : List ℕ) (time size : ℕ) (root path : List ℕ) (n : ℕ) → is_evidence held n size root ≡ true →
    offer_number H held id time size root path ≡ n → Passed H held id time size root path n
unfolding is_evidence
evident_passed H held id time size root path n e = passed_with H held id time size root path n (λ q. no 5 refl q) (λ q. no 10 refl q)
  where
    no : (k : ℕ) → is_evidence held k size root ≡ false → n ≡ k → ⊥
    no k f q = false≢true (sym f ∙ ap (λ (m : ℕ). is_evidence held m size root) (sym q) ∙ e)

-- the code's record after an offer, by whether it is evidence
pub kept_refused : (n : ℕ) (r : Record) (id : List ℕ) (time size : ℕ) (root : List ℕ) (k : ℕ) → (k ≡ 0 → ⊥) →
    kept_record n r id time size root k ≡ cond (is_evidence (view r) k size root) (beside r (evidence_of k id time size root)) r
unfolding kept_record
kept_refused n r id time size root zero z = absurd (z refl)
kept_refused n r id time size root (suc k) z = refl

-- the answer of an offer with its number k, under the hash H with the number n
module _ (H : List ℕ → List ℕ) (n : ℕ) (r : Record) (id : List ℕ) (time size : ℕ) (root path : List ℕ) (k : ℕ) (e : k ≡ offer_number H (view r) id time size root path) where
  reports : record { number = k; after = kept_record n r id time size root k } ≡ offered_over H n r id time size root path
  unfolding offered_over
  reports = ap (λ (j : ℕ). record { number = j; after = kept_record n r id time size root j }) e

  pub reports_refused : (b : Bool) → (k ≡ 0 → ⊥) → is_evidence (view r) k size root ≡ b →
      record { number = k; after = cond b (beside r (evidence_of k id time size root)) r } ≡ offered_over H n r id time size root path
  reports_refused b z f =
      ap (λ (s : Record). record { number = k; after = s })
      (sym (kept_refused n r id time size root k z ∙ ap (λ (c : Bool). cond c (beside r (evidence_of k id time size root)) r) f))
      ∙ reports

  pub reports_accepted : (a b : List ℕ) (l : ℕ) → k ≡ 0 → a ≡ over id (replicate 127 0) → b ≡ root → l ≡ length id →
      record { number = 0; after = record { held = true; algorithm = n; id = a; idlen = l; timestamp = time; size = size; root = b; evidence = r.evidence } } ≡ offered_over H n r id time size root path
  unfolding kept_record holding
  reports_accepted a b l z f g h = rw (f, g, h) (ap (λ (j : ℕ). record { number = j; after = kept_record n r id time size root j }) (sym z) ∙ reports)
