-- The refused head that is kept in the second place: nothing depends on it, and it is the latest evidence of the list. Assumes nothing.
use mathlib.Core.Bool.{Bool, true, false, cond}
use mathlib.Core.Path.{◌≡◌, refl, sym, ap, ap₂, ◌∙◌}
use mathlib.Core.List.{List, [], ◌∷◌, map}
use Prim.Native.Nat.{ℕ, zero, suc}
use native.Mathlib.Omega.{arith}
use lib.ListN.{length, drop, replicate}
use lib.Seq.{take_at}
use borrow.Author.Tests.{ne_eqb}
use Rattle.octets.specs.Bytes.{over}
use Rattle.hash.specs.declared.Named.{Named}
use Rattle.hash.specs.declared.Named.TheVariants.{By, Unknown}
use Rattle.hash.specs.Digest.{hash_of}
use Rattle.auditor.specs.declared.Evidence.{Evidence}
use Rattle.auditor.specs.declared.Record.{Record}
use Rattle.auditor.specs.declared.Answered.{Answered}
use Rattle.auditor.specs.Held.{Held, view, choice, no_evidence, empty_record, holding}
use Rattle.auditor.specs.Second.{Second, refused_head, stands_for, second, is_evidence, evidence_of, beside}
use Rattle.auditor.specs.Offer.{kept, kept_record}
use Rattle.auditor.specs.Calls.{Call, offer, ask, Entry, answered, Numbered, under, plain, called, entry, answers, final, call_of, accepted, paper_number, paper_after}
use Rattle.auditor.specs.Claims.{RefusedAddNothing}
use Rattle.auditor.specs.Evidence.{NothingDepends, OneException, refused_heads, last_or, LatestRefused}
use Rattle.auditor.proofs.Numbering.{Beside, after_call, called_by_lem, called_16, went, stays, view_after, view_beside, choice_beside}

-- ---- nothing depends on it

over_another : (b : Bool) (r : Record) (e x : Evidence) → Beside (cond b (beside r x) r) (cond b (beside (beside r e) x) (beside r e))
over_another true r e x = record { place = x; same = refl }
over_another false r e x = record { place = e; same = refl }

-- what a call leaves where another stands there
after_beside : (n : ℕ) (r : Record) (e : Evidence) (c : Call) (k : ℕ) → Beside (after_call n r c k) (after_call n (beside r e) c k)
unfolding after_call kept_record holding view
after_beside n r e (offer id time size root path) zero = record { place = e; same = refl }
after_beside n r e (offer id time size root path) (suc k) = over_another (is_evidence (view r) (suc k) size root) r e (evidence_of (suc k) id time size root)
after_beside n r e (ask place page path) k = record { place = e; same = refl }

record Alike (r : Record) (e : Evidence) (c : Numbered Call) : Type 0 where
  number : (called (beside r e) c).number ≡ (called r c).number
  next : Beside (called r c).after (called (beside r e) c).after

alike : (r : Record) (e : Evidence) (c : Numbered Call) → Alike r e c
alike r e (under n c) = go (choice r n) refl
  where
    go : (m : Named) → choice r n ≡ m → Alike r e (under n c)
    go (By a) f =
        let g = called_by_lem a r n c f in
        let h = called_by_lem a (beside r e) n c (choice_beside r e n ∙ f) in
        let q = ap (λ (v : Held). paper_number (hash_of a) v c) (view_beside r e) in
        record {
          number = ap (λ (o : Answered). o.number) h ∙ q ∙ sym (ap (λ (o : Answered). o.number) g);
          next = rw (ap (λ (o : Answered). o.after) g, ap (λ (o : Answered). o.after) h ∙ ap (after_call n (beside r e) c) q)
              (after_beside n r e c (paper_number (hash_of a) (view r) c));
        }
    go Unknown f =
        let g = called_16 r n c f in
        let h = called_16 (beside r e) n c (choice_beside r e n ∙ f) in
        record {
          number = ap (λ (o : Answered). o.number) h ∙ sym (ap (λ (o : Answered). o.number) g);
          next = rw (g, h) (record { place = e; same = refl });
        }

nothing : (calls : List (Numbered Call)) (r : Record) (e : Evidence) → (answers (beside r e) calls ≡ answers r calls) × Beside (final r calls) (final (beside r e) calls)
unfolding answers final
nothing [] r e = (refl, record { place = e; same = refl })
nothing (c ∷ calls) r e =
    let a = alike r e c in
    let i = nothing calls (called r c).after a.next.place in
    (rw (a.number, a.next.same) (ap (λ (es : List (Numbered Entry)). entry c (called r c).number ∷ es) i.0), rw a.next.same i.1)

pub nothing_depends : NothingDepends
nothing_depends r e calls =
    let w = nothing calls r e in
    (w.0, ap view w.1.same ∙ view_beside (final r calls) w.1.place, ap (λ (s : Record). beside s e) w.1.same)

-- a call in front of others of which it is said
Adds : Record → Record → List (Numbered Call) → List (Numbered Entry) → Type 0
Adds r next calls es = (answers r (map call_of es) ≡ es) × (beside (final r (map call_of es)) no_evidence ≡ beside (final next calls) no_evidence)

adds_beside : (r : Record) (e : Evidence) (next : Record) (calls : List (Numbered Call)) (es : List (Numbered Entry)) → Adds (beside r e) next calls es → Adds r next calls es
unfolding Adds
adds_beside r e next calls es i =
    let w = nothing (map call_of es) r e in
    (sym w.0 ∙ i.0, sym (ap (λ (s : Record). beside s no_evidence) w.1.same) ∙ i.1)

one_call : (r : Record) (n : ℕ) (c : Call) (calls : List (Numbered Call)) (k : ℕ) → (called r (under n c)).number ≡ k →
    Adds (called r (under n c)).after (called r (under n c)).after calls (accepted (answers (called r (under n c)).after calls)) →
    Adds r (called r (under n c)).after calls (accepted (under n (answered c k) ∷ answers (called r (under n c)).after calls))
unfolding Adds answers entry final accepted call_of
one_call r n c calls zero e i = (ap₂ (λ (k : ℕ) (es : List (Numbered Entry)). under n (answered c k) ∷ es) e i.0, i.1)
one_call r n c calls (suc k) e i =
    let s = stays r (under n c) k e in
    let t = beside r s.place in
    rw s.same (adds_beside r s.place t calls (accepted (answers t calls)) (rw s.same at i))

pub refused_add_nothing : RefusedAddNothing
unfolding Adds answers entry final accepted
refused_add_nothing r [] = (refl, refl)
refused_add_nothing r (under n c ∷ calls) = one_call r n c calls (called r (under n c)).number refl (refused_add_nothing (called r (under n c)).after calls)

-- ---- what a call leaves there

-- neither 16 nor 0 is kept
no_evidence_16 : (r : Record) (size : ℕ) (root : List ℕ) (e : Evidence) → r ≡ cond (is_evidence (view r) 16 size root) (beside r e) r
unfolding is_evidence
no_evidence_16 r size root e = refl

-- a refused offer, by whether its head is evidence
after_refused : (r : Record) (n : ℕ) (id : List ℕ) (time size : ℕ) (root path : List ℕ) (k : ℕ) → (called r (under n (offer id time size root path))).number ≡ suc k →
    (called r (under n (offer id time size root path))).after ≡ cond (is_evidence (view r) (suc k) size root) (beside r (evidence_of (suc k) id time size root)) r
unfolding after_call kept_record
after_refused r n id time size root path k e = go (choice r n) refl
  where
    c : Call
    c = offer id time size root path

    go : (m : Named) → choice r n ≡ m → (called r (under n c)).after ≡ cond (is_evidence (view r) (suc k) size root) (beside r (evidence_of (suc k) id time size root)) r
    go (By a) f =
        let g = called_by_lem a r n c f in
        ap (λ (o : Answered). o.after) g ∙ ap (after_call n r c) (sym (ap (λ (o : Answered). o.number) g) ∙ e)
    go Unknown f =
        let g = called_16 r n c f in
        ap (λ (o : Answered). o.after) g ∙ sixteen (sym (ap (λ (o : Answered). o.number) g) ∙ e)
      where
        sixteen : 16 ≡ suc k → r ≡ cond (is_evidence (view r) (suc k) size root) (beside r (evidence_of (suc k) id time size root)) r
        sixteen q = rw (← q) (no_evidence_16 r size root (evidence_of 16 id time size root))

pub page_stays : (r : Record) (n place : ℕ) (page path : List ℕ) → (called r (under n (ask place page path))).after ≡ r
unfolding after_call
page_stays r n place page path = go (choice r n) refl
  where
    go : (m : Named) → choice r n ≡ m → (called r (under n (ask place page path))).after ≡ r
    go (By a) f = ap (λ (o : Answered). o.after) (called_by_lem a r n (ask place page path) f)
    go Unknown f = ap (λ (o : Answered). o.after) (called_16 r n (ask place page path) f)

accepted_stays : (n : ℕ) (r : Record) (c : Call) → (after_call n r c 0).evidence ≡ r.evidence
unfolding after_call kept_record holding
accepted_stays n r (offer id time size root path) = refl
accepted_stays n r (ask place page path) = refl

pub one_exception : OneException
one_exception =
    record {
      is_kept = λ r n id time size root path k e f. after_refused r n id time size root path k e ∙ rw f;
      every_other = λ r n id time size root path k e f. after_refused r n id time size root path k e ∙ rw f;
      page_call = page_stays;
      accepted_head = λ r n c e. ap (λ (s : Record). s.evidence) (went r n c e).next ∙ accepted_stays n r c;
    }

-- ---- it is the latest

stands_for_lem : (k : ℕ) (id : List ℕ) (time size : ℕ) (root : List ℕ) → stands_for (evidence_of (suc k) id time size root) ≡ refused_head (suc k) id time size root
unfolding stands_for evidence_of over
stands_for_lem k id time size root =
    rw (ne_eqb (suc k) 0 (λ e. omega arith)) (ap (λ (x : List ℕ). refused_head (suc k) x time size root) (take_at id (drop (length id) (replicate 127 0)) (length id) refl))

-- what the second place stands for after an offer that answered a number
second_kept : (n : ℕ) (r : Record) (id : List ℕ) (time size : ℕ) (root : List ℕ) (k : ℕ) →
    second (kept_record n r id time size root k) ≡ cond (is_evidence (view r) k size root) (refused_head k id time size root) (second r)
unfolding kept_record holding is_evidence
second_kept n r id time size root zero = refl
second_kept n r id time size root (suc k) = go (is_evidence (view r) (suc k) size root)
  where
    go : (b : Bool) → second (cond b (beside r (evidence_of (suc k) id time size root)) r) ≡ cond b (refused_head (suc k) id time size root) (second r)
    go true = stands_for_lem k id time size root
    go false = refl

-- what an offer leaves, by its number
pub record Left (r : Record) (id : List ℕ) (time size : ℕ) (root : List ℕ) (o : Answered) : Type 0 where
  pub there : second o.after ≡ cond (is_evidence (view r) o.number size root) (refused_head o.number id time size root) (second r)
  pub first : view o.after ≡ kept (view r) id time size root o.number

pub left : (r : Record) (n : ℕ) (id : List ℕ) (time size : ℕ) (root path : List ℕ) → Left r id time size root (called r (under n (offer id time size root path)))
unfolding after_call paper_after kept is_evidence
left r n id time size root path = go (choice r n) refl
  where
    c : Call
    c = offer id time size root path

    go : (m : Named) → choice r n ≡ m → Left r id time size root (called r (under n c))
    go (By a) f =
        let k = paper_number (hash_of a) (view r) c in
        rw (called_by_lem a r n c f) (record { there = second_kept n r id time size root k; first = view_after n r c k (hash_of a) })
    go Unknown f = rw (called_16 r n c f) (record { there = refl; first = refl })

-- one more
step : (b : Bool) (t s : Second) (l : List Second) → last_or (cond b t s) l ≡ last_or s (cond b (t ∷ l) l)
unfolding last_or
step true t s l = refl
step false t s l = refl

latest : (calls : List (Numbered Call)) (r : Record) → second (final r calls) ≡ last_or (second r) (refused_heads (view r) (plain (answers r calls)))
unfolding final answers entry plain refused_heads last_or
latest [] r = refl
latest (under n (ask place page path) ∷ calls) r =
    let s = (called r (under n (ask place page path))).after in
    latest calls s ∙ ap (λ (t : Record). last_or (second t) (refused_heads (view t) (plain (answers s calls)))) (page_stays r n place page path)
latest (under n (offer id time size root path) ∷ calls) r =
    let o = called r (under n (offer id time size root path)) in
    let w = left r n id time size root path in
    let es = plain (answers o.after calls) in
    latest calls o.after
    ∙ ap₂ (λ (s : Second) (v : Held). last_or s (refused_heads v es)) w.there w.first
    ∙ step (is_evidence (view r) o.number size root) (refused_head o.number id time size root) (second r) (refused_heads (kept (view r) id time size root o.number) es)

pub latest_refused : LatestRefused
unfolding stands_for empty_record no_evidence
latest_refused = (λ r calls. latest calls r, refl)
