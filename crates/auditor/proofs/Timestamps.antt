-- The stricter test for 12, and the head held offered again. Assumes nothing.
use mathlib.Core.Path.{◌≡◌, refl, sym, ap, subst, ◌∙◌}
use mathlib.Core.Bool.{cond, not, ◌||◌}
use mathlib.Core.List.{List, [], ◌∷◌}
use Prim.Native.Nat.{ℕ, zero, suc, ◌%◌, ◌≤◌, ◌<◌}
use native.Mathlib.Omega.{arith}
use lib.Dec.{ltb, eqb}
use lib.ListN.{length}
use borrow.Author.Tests.{ltb-false, ne_eqb, eqb-false}
use Rattle.hash.specs.Digest.{hash_of}
use Rattle.tree.specs.Limits.{largest_size}
use Rattle.octets.specs.Bytes.{same}
use Rattle.tree.specs.Verdict.{consistency_verdict}
use Rattle.tree.proofs.Answering.{count_7, sizes_in}
use Rattle.tree.proofs.Accepting.{pass, consistency_accepted, equal}
use Rattle.auditor.specs.declared.Record.{Record}
use Rattle.auditor.specs.declared.Answered.{Answered}
use Rattle.auditor.specs.Held.{Held, empty, head, view, empty_record}
use Rattle.auditor.specs.Offer.{outside, first, stale, against, by_record, kept}
use Rattle.auditor.specs.Calls.{Call, offer, ask, Entry, answered, Numbered, under, plain, accepted, called, answers, final, paper_number, paper_after}
use Rattle.auditor.specs.Claims.{last_head}
use Rattle.auditor.specs.Timestamps.{HeldAgain, by_time, older, OnlyStricter}
use Rattle.auditor.proofs.Offering.{or_false, passed, as_earlier, another, by_tests, view_empty}
use Rattle.auditor.proofs.Numbering.{called_by_lem, called_16, bound_own, bound_other, calls_of, one_hash_of, Sorted, sorted_final, sorted_empty}
use Rattle.auditor.proofs.Holding.{held_is_accepted, Runs, runs}
use Rattle.auditor.proofs.Serving.{takes_later}

module _ (H : List ℕ → List ℕ) (id₀ : List ℕ) (time₀ size₀ : ℕ) (root₀ id : List ℕ) (time size : ℕ) (root path : List ℕ) where
  -- the tests of an offer, in their order
  tested : against H id₀ time₀ size₀ root₀ id time size root path ≡ by_time H id₀ time₀ size₀ root₀ id time size root path (stale time₀ size₀ root₀ time size root)
  unfolding against by_time
  tested = refl

  kept_else : (time₀ ≡ time → (size₀ ≡ size) × (root₀ ≡ root)) → against H id₀ time₀ size₀ root₀ id time size root path ≡ older H id₀ time₀ size₀ root₀ id time size root path
  kept_else h = tested ∙ ap (by_time H id₀ time₀ size₀ root₀ id time size root path) (as_earlier time₀ size₀ root₀ time size root h)

  twelve : time₀ ≡ time → ((size₀ ≡ size) × (root₀ ≡ root) → ⊥) → against H id₀ time₀ size₀ root₀ id time size root path ≡ cond (not (same id₀ id)) 11 (cond (outside size || ltb size size₀) 6 12)
  unfolding by_time
  twelve q other = tested ∙ ap (by_time H id₀ time₀ size₀ root₀ id time size root path) (another time₀ size₀ root₀ time size root q other)

pub only_stricter : OnlyStricter
only_stricter H id₀ time₀ size₀ root₀ id time size root path = record {
  accepted_before = λ e. sym (kept_else H id₀ time₀ size₀ root₀ id time size root path (by_tests H id₀ time₀ size₀ root₀ id time size root path e).one_time) ∙ e;
  other_head = twelve H id₀ time₀ size₀ root₀ id time size root path;
  as_before = kept_else H id₀ time₀ size₀ root₀ id time size root path;
}

-- ---- the head held, offered again

-- the verdict on equal sizes and roots
pub one_size : (H : List ℕ → List ℕ) (n : ℕ) (root path : List ℕ) → 0 < n → n ≤ largest_size → length root ≡ 32 → length path % 32 ≡ 0 →
    consistency_verdict H n n root root path ≡ cond (eqb (length path) 0) 0 7
unfolding consistency_verdict
one_size H n root [] some most root_32 whole = ((equal H).sizes n root root [] some most root_32).1 (refl, refl)
one_size H n root (x ∷ path) some most root_32 whole =
    let c = (consistency_accepted H n n root root [] (((equal H).sizes n root root [] some most root_32).1 (refl, refl))).counted in
    rw (ne_eqb (length (x ∷ path)) 0 (λ e. omega arith))
    (sym (count_7 root root (x ∷ path) _ _ _ root_32 root_32 whole (sizes_in n n (λ e. omega arith) most (omega arith)) (λ e. omega arith)))

-- nothing, or a head that passed the tests of its own
Proper : Held → Type 0
Proper empty = Unit {0}
Proper (head id time size root) = (2 ≤ length id) × (length id ≤ 127) × (length root ≡ 32) × (0 < size) × (size ≤ largest_size)

module _ (H : List ℕ → List ℕ) where
  sized : (held : Held) (id : List ℕ) (time size : ℕ) (root path : List ℕ) → by_record H held id time size root path ≡ 0 → (0 < size) × (size ≤ largest_size)
  unfolding by_record first outside
  sized empty id time size root path e =
      let p = or_false (eqb size 0) (ltb largest_size size) (pass (outside size) 5 _ e).0 in
      let z = eqb-false size 0 p.0 in
      (omega arith, ltb-false largest_size size p.1)
  sized (head id₀ time₀ size₀ root₀) id time size root path e =
      let c = consistency_accepted H size₀ size root₀ root path (by_tests H id₀ time₀ size₀ root₀ id time size root path e).consistent in
      (omega (arith, c.some, c.order), c.in_range)

  proper : (es : List Entry) (held : Held) → Runs H held es → Proper held → Proper (last_head held es)
  unfolding Proper Runs paper_number paper_after kept last_head
  proper [] held w p = p
  proper (answered (offer id time size root path) zero ∷ es) held w p =
      let q = passed H held id time size root path w.0 in
      let s = sized held id time size root path q.by_record_lem in
      proper es (head id time size root) w.1 (q.id_least, q.id_most, q.root_32, s.0, s.1)
  proper (answered (offer id time size root path) (suc n) ∷ es) held w p = proper es held w.1 p
  proper (answered (ask place page path) n ∷ es) held w p = proper es held w.1 p

-- the last head is that of the accepted calls
last_accepted : (es : List (Numbered Entry)) (held : Held) → last_head held (plain (accepted es)) ≡ last_head held (plain es)
unfolding last_head plain accepted
last_accepted [] held = refl
last_accepted (under n (answered (offer id time size root path) zero) ∷ es) held = last_accepted es (head id time size root)
last_accepted (under n (answered (offer id time size root path) (suc k)) ∷ es) held = last_accepted es held
last_accepted (under n (answered (ask place page path) zero) ∷ es) held = last_accepted es held
last_accepted (under n (answered (ask place page path) (suc k)) ∷ es) held = last_accepted es held

-- what the record holds passed the tests of its own
held_proper : (calls : List (Numbered Call)) → Proper (view (final empty_record calls))
unfolding Proper
held_proper calls =
    let es = answers empty_record calls in
    let u = one_hash_of calls in
    let H = hash_of u.alg in
    let w : Runs H empty (plain (accepted es)) = rw u.runs.one_run at (runs H (calls_of es) empty) in
    let p = proper H (plain (accepted es)) empty w tt in
    subst Proper (last_accepted es empty ∙ sym (held_is_accepted calls).0) p

head_not_empty : (id : List ℕ) (time size : ℕ) (root : List ℕ) → empty ≡ head id time size root → ⊥
head_not_empty id time size root e = let y : ◌≡◌ {A = ℕ} 0 1 = cc in omega arith

again_by : (r : Record) → Sorted r → (id : List ℕ) (time again size : ℕ) (root path : List ℕ) → Proper (view r) → view r ≡ head id time size root → time ≤ again → length path % 32 ≡ 0 →
    ((called r (under r.algorithm (offer id again size root path))).number ≡ cond (eqb (length path) 0) 0 7)
    × ((n : ℕ) → (n ≡ r.algorithm → ⊥) → (called r (under n (offer id again size root path))).number ≡ 16)
unfolding Proper paper_number
again_by r (Sorted.none h) id time again size root path q v le whole = absurd (head_not_empty id time size root (sym (view_empty r h) ∙ v))
again_by r (Sorted.some a w) id time again size root path q v le whole =
    let H = hash_of a in
    let c = offer id again size root path in
    let p : Proper (head id time size root) = rw v at q in (
      ap (λ (o : Answered). o.number) (called_by_lem a r r.algorithm c (bound_own a r w))
          ∙ rw v
          (takes_later H id p.0 p.1 again size root p.2 p.3 p.4 time size root path whole (omega arith) le (λ e. (refl, refl)) (λ e. refl)
          ∙ one_size H size root path p.3 p.4 p.2 whole),
      λ n d. ap (λ (o : Answered). o.number) (called_16 r n c (bound_other r n w.holds d)),
    )

pub held_again : HeldAgain
held_again calls id time again size root path v le whole =
    again_by (final empty_record calls) (sorted_final calls empty_record sorted_empty) id time again size root path (held_proper calls) v le whole
