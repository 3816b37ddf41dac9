-- What an auditor's record holds over every list of calls: the head that was accepted last, which never goes back. Assumes nothing.
use mathlib.Core.Path.{◌≡◌, refl, sym, ap, ◌∙◌}
use mathlib.Core.Bool.{Bool, true, false}
use mathlib.Core.Logic.{◌⊎◌, inl, inr}
use mathlib.Core.List.{List, [], ◌∷◌, ◌++◌}
use Prim.Native.Nat.{ℕ, zero, suc, ◌^◌, ◌≤◌, ◌<◌}
use native.Mathlib.Omega.{arith}
use lib.Dec.{ltb, eqb}
use lib.ListN.{length}
use borrow.Author.Tests.{ltb-false, eqb-true, eqb-false}
use Rattle.hash.specs.declared.Named.TheVariants.{Unknown}
use Rattle.hash.specs.Algorithm.{algorithm_of, held_by}
use Rattle.hash.specs.Digest.{hash_of}
use Rattle.octets.specs.Limits.{most_item}
use Rattle.tree.specs.Limits.{largest_size}
use Rattle.tree.specs.Verdict.{inclusion_verdict, consistency_verdict}
use Rattle.tree.proofs.Counting.{bounds}
use Rattle.tree.proofs.Accepting.{pass, consistency_accepted}
use Rattle.auditor.specs.declared.Record.{Record}
use Rattle.auditor.specs.Held.{Held, empty, head, view, choice, empty_record}
use Rattle.auditor.specs.Second.{beside}
use Rattle.auditor.specs.Offer.{kept}
use Rattle.auditor.specs.Page.{page_number}
use Rattle.auditor.specs.Heads.{Heads, then}
use Rattle.auditor.specs.Calls.{Call, offer, ask, Entry, answered, Numbered, under, plain, called, entry, answers, final, accepted, paper_number, paper_after, run, heads}
use Rattle.auditor.specs.Timestamps.{OneHeadEach, OneTimestamp}
use Rattle.auditor.specs.Claims.{last_head, HeldIsAccepted, SixteenFirst, NeverBack}
use Rattle.auditor.proofs.Offering.{taken, view_empty}
use Rattle.auditor.proofs.Numbering.{after_call, called_16, went, stays, view_beside, held_choice, free_choice, bound_other, offers_first, first_number, view_after, calls_of, one_hash_of, two_accepted, holds_nothing, all_numbered}
use Rattle.auditor.proofs.Reading.{Fits}

-- an entry of a call
pub last_of : (H : List ℕ → List ℕ) (held : Held) (c : Call) (n : ℕ) (es : List Entry) → last_head (paper_after H held c n) es ≡ last_head held (answered c n ∷ es)
unfolding last_head paper_after kept
last_of H held (offer id time size root path) zero es = refl
last_of H held (offer id time size root path) (suc n) es = refl
last_of H held (ask place page path) n es = refl

-- a refused one
last_refused : (held : Held) (c : Call) (n : ℕ) (es : List Entry) → last_head held es ≡ last_head held (answered c (suc n) ∷ es)
unfolding last_head
last_refused held (offer id time size root path) n es = refl
last_refused held (ask place page path) n es = refl

last_step : (r : Record) (n : ℕ) (c : Call) (calls : List (Numbered Call)) →
    ((s : Record) → view (final s calls) ≡ last_head (view s) (plain (answers s calls))) → (k : ℕ) → (called r (under n c)).number ≡ k →
    view (final (called r (under n c)).after calls) ≡ last_head (view r) (answered c k ∷ plain (answers (called r (under n c)).after calls))
last_step r n c calls i zero e =
    let g = went r n c e in
    let H = hash_of g.by in
    let s = after_call n r c 0 in
    rw g.next (i s ∙ ap (λ (v : Held). last_head v (plain (answers s calls))) (view_after n r c 0 H) ∙ last_of H (view r) c 0 (plain (answers s calls)))
last_step r n c calls i (suc k) e =
    let s = stays r (under n c) k e in
    let t = beside r s.place in
    rw s.same (i t ∙ ap (λ (v : Held). last_head v (plain (answers t calls))) (view_beside r s.place) ∙ last_refused (view r) c k (plain (answers t calls)))

held_last : (calls : List (Numbered Call)) (r : Record) → view (final r calls) ≡ last_head (view r) (plain (answers r calls))
unfolding final answers entry plain last_head
held_last [] r = refl
held_last (under n c ∷ calls) r = last_step r n c calls (held_last calls) (called r (under n c)).number refl

pub view_none : view empty_record ≡ empty
unfolding view empty_record
view_none = refl

pub held_is_accepted : HeldIsAccepted
held_is_accepted calls =
    (held_last calls empty_record ∙ ap (λ (held : Held). last_head held (plain (answers empty_record calls))) view_none, all_numbered calls empty_record holds_nothing)

-- ---- 16 before all else

-- a number that names nothing by itself names nothing where one is held, and where the one held names nothing none does
held_unknown : (h n : ℕ) (t : Bool) → eqb n h ≡ t → algorithm_of n ≡ Unknown → held_by h n ≡ Unknown
unfolding held_by
held_unknown h n true q e = rw q e
held_unknown h n false q e = rw q refl

unknown_choice : (r : Record) (n : ℕ) → algorithm_of n ≡ Unknown → (b : Bool) → r.held ≡ b → choice r n ≡ Unknown
unknown_choice r n e true h = held_choice r n h ∙ held_unknown r.algorithm n (eqb n r.algorithm) refl e
unknown_choice r n e false h = free_choice r n h ∙ e

never_held : (h n : ℕ) (t : Bool) → eqb n h ≡ t → algorithm_of h ≡ Unknown → held_by h n ≡ Unknown
unfolding held_by
never_held h n true q e = rw q (ap algorithm_of (eqb-true n h q) ∙ e)
never_held h n false q e = rw q refl

pub sixteen_first : SixteenFirst
sixteen_first =
    record {
      unknown = λ r n c e. called_16 r n c (unknown_choice r n e r.held refl);
      another = λ r n c h d. called_16 r n c (bound_other r n h d);
      never = λ r n c h e. called_16 r n c (held_choice r n h ∙ never_held r.algorithm n (eqb n r.algorithm) refl e);
      binds = λ r n c h e.
          let g = went r n c e in
          let z = ap (λ (v : Held). paper_number (hash_of g.by) v c) (sym (view_empty r h)) ∙ g.accepts in
          let b = offers_first (hash_of g.by) n r c g.by z (sym (free_choice r n h) ∙ g.chose) in
          rw g.next (b.holds, sym (first_number (hash_of g.by) n r c z));
    }

module _ (H : List ℕ → List ℕ) where
  -- each entry's number is what its call answers over the record then held
  unfoldable pub Runs : Held → List Entry → Type 0
  Runs held [] = Unit {0}
  Runs held (answered c n ∷ es) = (paper_number H held c ≡ n) × Runs (paper_after H held c n) es

  pub runs : (calls : List Call) (held : Held) → Runs held (run H held calls)
  unfolding Runs run
  runs [] held = tt
  runs (c ∷ calls) held = (refl, runs calls (paper_after H held c (paper_number H held c)))

  -- the entries after some are a run over the record that these leave
  pub later : (es fs : List Entry) (held : Held) → Runs held (es ++ fs) → Runs (last_head held es) fs
  unfolding Runs paper_after kept last_head
  later [] fs held w = w
  later (answered (offer id time size root path) zero ∷ es) fs held w = later es fs (head id time size root) w.1
  later (answered (offer id time size root path) (suc n) ∷ es) fs held w = later es fs held w.1
  later (answered (ask place page path) n ∷ es) fs held w = later es fs held w.1

  -- an accepted page, under a head
  pub shown : (id : List ℕ) (time size : ℕ) (root : List ℕ) (place : ℕ) (page path : List ℕ) → page_number H (head id time size root) place page path ≡ 0 → (length page ≤ most_item) × (inclusion_verdict H (H (0 ∷ page)) place size root path ≡ 0)
  unfolding page_number
  shown id time size root place page path e =
      let p = pass (ltb most_item (length page)) 0 _ e in
      (ltb-false most_item (length page) p.0, p.1)

  -- a record that holds a head of a log, of no smaller size and no earlier timestamp, and the same head as far as the size or the timestamp is the same
  Since : List ℕ → ℕ → ℕ → List ℕ → Held → Type 0
  Since id time size root empty = ⊥
  Since id time size root (head id₂ time₂ size₂ root₂) =
      (id ≡ id₂) × (size ≤ size₂) × (time ≤ time₂) × (size ≡ size₂ → root ≡ root₂) × (time ≡ time₂ → (size ≡ size₂) × (root ≡ root₂))

  module _ (id : List ℕ) (time size : ℕ) (root : List ℕ) where
    since_offer : (held : Held) (id₂ : List ℕ) (time₂ size₂ : ℕ) (root₂ path₂ : List ℕ) → Since id time size root held → paper_number H held (offer id₂ time₂ size₂ root₂ path₂) ≡ 0 → Since id time size root (head id₂ time₂ size₂ root₂)
    unfolding Since paper_number
    since_offer empty id₂ time₂ size₂ root₂ path₂ s e = absurd s
    since_offer (head id₁ time₁ size₁ root₁) id₂ time₂ size₂ root₂ path₂ s e =
        let t = taken H id₁ time₁ size₁ root₁ id₂ time₂ size₂ root₂ path₂ e in
        let a = t.no_smaller in
        let b = t.no_earlier in (
          s.0 ∙ t.one_log,
          omega arith,
          omega arith,
          λ q. s.3 (omega arith) ∙ t.one_root (omega arith),
          λ q.
              let u = s.4 (omega arith) in
              let v = t.one_time (omega arith) in
              (u.0 ∙ v.0, u.1 ∙ v.1),
        )

    since : (es fs : List Entry) (held : Held) → Since id time size root held → Runs held (es ++ fs) → Since id time size root (last_head held es)
    unfolding Since Runs paper_after kept last_head
    since [] fs held s w = s
    since (answered (offer id₂ time₂ size₂ root₂ path₂) zero ∷ es) fs held s w =
        since es fs (head id₂ time₂ size₂ root₂) (since_offer held id₂ time₂ size₂ root₂ path₂ s w.0) w.1
    since (answered (offer id₂ time₂ size₂ root₂ path₂) (suc n) ∷ es) fs held s w = since es fs held s w.1
    since (answered (ask place page path) n ∷ es) fs held s w = since es fs held s w.1

  never : (calls : List Call) (before between rest : List Entry) (id₁ id₂ : List ℕ) (time₁ time₂ size₁ size₂ : ℕ) (root₁ root₂ path₁ path₂ : List ℕ) →
      run H empty calls ≡ before ++ (answered (offer id₁ time₁ size₁ root₁ path₁) 0 ∷ (between ++ (answered (offer id₂ time₂ size₂ root₂ path₂) 0 ∷ rest))) →
      Since id₁ time₁ size₁ root₁ (head id₂ time₂ size₂ root₂)
  unfolding Runs paper_after kept Since
  never calls before between rest id₁ id₂ time₁ time₂ size₁ size₂ root₁ root₂ path₁ path₂ e =
      let w : Runs empty (before ++ (answered (offer id₁ time₁ size₁ root₁ path₁) 0 ∷ (between ++ (answered (offer id₂ time₂ size₂ root₂ path₂) 0 ∷ rest)))) = rw e at (runs calls empty) in
      let l = later before (answered (offer id₁ time₁ size₁ root₁ path₁) 0 ∷ (between ++ (answered (offer id₂ time₂ size₂ root₂ path₂) 0 ∷ rest))) empty w in
      let first = head id₁ time₁ size₁ root₁ in
      let s = since id₁ time₁ size₁ root₁ between (answered (offer id₂ time₂ size₂ root₂ path₂) 0 ∷ rest) first (refl, omega arith, omega arith, λ q. refl, λ q. (refl, refl)) l.1 in
      let k = later between (answered (offer id₂ time₂ size₂ root₂ path₂) 0 ∷ rest) first l.1 in
      since_offer id₁ time₁ size₁ root₁ (last_head first between) id₂ time₂ size₂ root₂ path₂ s k.0

  -- a record that holds some head
  unfoldable pub Some : Held → Type 0
  Some empty = ⊥
  Some (head id time size root) = Unit {0}

  pub some_page : (held : Held) (place : ℕ) (page path : List ℕ) → paper_number H held (ask place page path) ≡ 0 → Some held
  unfolding paper_number page_number Some
  some_page empty place page path e = absurd (omega arith)
  some_page (head id time size root) place page path e = tt

  -- the heads that a verdict accepts fit their fields
  pub consistent_fits : (m n : ℕ) (r s path : List ℕ) (hs : Heads) → consistency_verdict H m n r s path ≡ 0 → Fits hs → Fits (then n s path hs)
  unfolding Fits
  consistent_fits m n r s path hs e f =
      let c = consistency_accepted H m n r s path e in
      let b = bounds.consistency_largest m n c.some c.order c.in_range in
      ((small n c.in_range, c.second_32, omega arith, omega arith), f)
    where
      small : (k : ℕ) → k ≤ largest_size → k < 256 ^ 8
      small k h = omega arith

  head_fits : (held : Held) (id : List ℕ) (time size : ℕ) (root path : List ℕ) (hs : Heads) → Some held → paper_number H held (offer id time size root path) ≡ 0 → Fits hs → Fits (then size root path hs)
  unfolding Some paper_number
  head_fits empty id time size root path hs s e f = absurd s
  head_fits (head id₀ time₀ size₀ root₀) id time size root path hs s e f =
      consistent_fits size₀ size root₀ root path hs (taken H id₀ time₀ size₀ root₀ id time size root path e).consistent f

  fit : (es fs : List Entry) (held : Held) → Some held → Runs held (es ++ fs) → Fits (heads es)
  unfolding heads Runs paper_after kept Some Fits
  fit [] fs held s w = tt
  fit (answered (offer id time size root path) zero ∷ es) fs held s w =
      head_fits held id time size root path (heads es) s w.0 (fit es fs (head id time size root) tt w.1)
  fit (answered (offer id time size root path) (suc n) ∷ es) fs held s w = fit es fs held s w.1
  fit (answered (ask place page path) n ∷ es) fs held s w = fit es fs held s w.1

  -- the heads accepted after an accepted page
  pub heads_fit : (calls : List Call) (before between rest : List Entry) (place : ℕ) (page path : List ℕ) → run H empty calls ≡ before ++ (answered (ask place page path) 0 ∷ (between ++ rest)) → Fits (heads between)
  unfolding Runs paper_after
  heads_fit calls before between rest place page path e =
      let w : Runs empty (before ++ (answered (ask place page path) 0 ∷ (between ++ rest))) = rw e at (runs calls empty) in
      let l = later before (answered (ask place page path) 0 ∷ (between ++ rest)) empty w in
      fit between rest (last_head empty before) (some_page (last_head empty before) place page path l.0) l.1

pub never_back : NeverBack
unfolding Since
never_back calls before between rest n₁ n₂ id₁ id₂ time₁ time₂ size₁ size₂ root₁ root₂ path₁ path₂ e =
    let u = two_accepted calls before between rest n₁ n₂ (offer id₁ time₁ size₁ root₁ path₁) (offer id₂ time₂ size₂ root₂ path₂) e in
    let s = never (hash_of u.alg) u.calls (plain (accepted before)) (plain (accepted between)) (plain (accepted rest)) id₁ id₂ time₁ time₂ size₁ size₂ root₁ root₂ path₁ path₂ u.as_run in
    (u.one_number, s.0, s.1, s.3, later_or_same (eqb time₁ time₂) refl s.0 s.2 s.4)
  where
    later_or_same : (b : Bool) → eqb time₁ time₂ ≡ b → id₁ ≡ id₂ → time₁ ≤ time₂ → (time₁ ≡ time₂ → (size₁ ≡ size₂) × (root₁ ≡ root₂)) → (time₁ < time₂) ⊎ (head id₁ time₁ size₁ root₁ ≡ head id₂ time₂ size₂ root₂)
    later_or_same true q i le h = let t = eqb-true time₁ time₂ q in let k = h t in inr (rw (i, t, k.0, k.1))
    later_or_same false q i le h = let t = eqb-false time₁ time₂ q in inl (omega arith)

each : (H : List ℕ → List ℕ) (calls : List Call) → OneHeadEach (run H empty calls)
unfolding Since
each H calls before between rest id₁ id₂ time size₁ size₂ root₁ root₂ path₁ path₂ e =
    (never H calls before between rest id₁ id₂ time time size₁ size₂ root₁ root₂ path₁ path₂ e).4 refl

-- the accepted ones of entries without numbers
took : List Entry → List Entry
took [] = []
took (answered c zero ∷ es) = answered c zero ∷ took es
took (answered c (suc n) ∷ es) = took es

took_plain : (es : List (Numbered Entry)) → plain (accepted es) ≡ took (plain es)
unfolding took plain accepted
took_plain [] = refl
took_plain (under n (answered c zero) ∷ es) = ap (λ (l : List Entry). answered c zero ∷ l) (took_plain es)
took_plain (under n (answered c (suc k)) ∷ es) = took_plain es

took_append : (x y : List Entry) → took (x ++ y) ≡ took x ++ took y
unfolding took
took_append [] y = refl
took_append (answered c zero ∷ x) y = ap (λ (l : List Entry). answered c zero ∷ l) (took_append x y)
took_append (answered c (suc n) ∷ x) y = took_append x y

took_two : (x y z : List Entry) (c d : Call) → took (x ++ (answered c 0 ∷ (y ++ (answered d 0 ∷ z)))) ≡ took x ++ (answered c 0 ∷ (took y ++ (answered d 0 ∷ took z)))
unfolding took
took_two x y z c d = took_append x (answered c 0 ∷ (y ++ (answered d 0 ∷ z))) ∙ ap (λ (l : List Entry). took x ++ (answered c 0 ∷ l)) (took_append y (answered d 0 ∷ z))

pub one_timestamp : OneTimestamp
one_timestamp = (each, of_code)
  where
    of_code : (calls : List (Numbered Call)) → OneHeadEach (plain (answers empty_record calls))
    of_code calls before between rest id₁ id₂ time size₁ size₂ root₁ root₂ path₁ path₂ e =
        let u = one_hash_of calls in
        let es = answers empty_record calls in
        each (hash_of u.alg) (calls_of es) (took before) (took between) (took rest) id₁ id₂ time size₁ size₂ root₁ root₂ path₁ path₂
        (u.runs.one_run ∙ took_plain es ∙ ap took e ∙ took_two before between rest (offer id₁ time size₁ root₁ path₁) (offer id₂ time size₂ root₂ path₂))
