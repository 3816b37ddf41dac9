-- Calls by number: what a call answers by the hash that it goes by, and that the accepted calls of every list from the empty record are a run under one hash,
-- the record's. So what is proved of runs under any hash holds of calls by number. Assumes nothing.
use mathlib.Core.Bool.{Bool, true, false, cond}
use mathlib.Core.Path.{◌≡◌, refl, sym, ap, subst, ◌∙◌}
use mathlib.Core.List.{List, [], ◌∷◌, ◌++◌, map}
use Prim.Native.Nat.{ℕ, zero, suc}
use native.Mathlib.Omega.{arith}
use lib.Dec.{eqb}
use lib.ListN.{length, drop, replicate}
use lib.Seq.{take_at}
use borrow.Author.Tests.{eqb-true}
use Rattle.octets.specs.Bytes.{over}
use Rattle.hash.specs.declared.Algorithm.{Algorithm}
use Rattle.hash.specs.declared.Named.{Named}
use Rattle.hash.specs.declared.Named.TheVariants.{By, Unknown}
use Rattle.hash.specs.Algorithm.{algorithm_of, held_by}
use Rattle.hash.specs.Digest.{hash_of, by_named}
use Rattle.auditor.specs.declared.Record.{Record}
use Rattle.auditor.specs.declared.Answered.{Answered}
use Rattle.auditor.specs.declared.Evidence.{Evidence}
use Rattle.auditor.specs.Held.{Held, empty, head, view, choice, stayed, empty_record, holding}
use Rattle.auditor.specs.Second.{is_evidence, evidence_of, beside}
use Rattle.auditor.specs.Offer.{kept, kept_record, offered_over, offered}
use Rattle.auditor.specs.Page.{page_number, asked}
use Rattle.auditor.specs.Heads.{then}
use Rattle.auditor.specs.Calls.{Call, offer, ask, Entry, answered, Numbered, under, plain, called, entry, answers, final, AllUnder, call_of, accepted, paper_number, paper_after, run, heads}
use Rattle.hash.proofs.Algorithms.{held_itself, held_another, some_hash}
use Rattle.hash.proofs.Promises.{numbers}
use Rattle.auditor.proofs.Offering.{view_empty}

-- ---- one call

-- a record and another that differs from it in the second place at most
pub record Beside (r s : Record) : Type 0 where
  pub place : Evidence
  pub same : s ≡ beside r place

written : (b : Bool) (r : Record) (e : Evidence) → Beside r (cond b (beside r e) r)
written true r e = record { place = e; same = refl }
written false r e = record { place = r.evidence; same = refl }

-- the code's record after an offer stands for the paper's
pub view_kept : (n : ℕ) (r : Record) (id : List ℕ) (time size : ℕ) (root : List ℕ) (k : ℕ) → view (kept_record n r id time size root k) ≡ kept (view r) id time size root k
unfolding kept_record kept view holding over
view_kept n r id time size root zero = ap (λ (x : List ℕ). head x time size root) (take_at id (drop (length id) (replicate 127 0)) (length id) refl)
view_kept n r id time size root (suc k) = ap view (written (is_evidence (view r) (suc k) size root) r (evidence_of (suc k) id time size root)).same

-- the record after a call that answered k under a hash
unfoldable pub after_call : ℕ → Record → Call → ℕ → Record
after_call n r (offer id time size root path) k = kept_record n r id time size root k
after_call n r (ask place page path) k = r

-- a call by a number that names a hash here
pub called_by_lem : (a : Algorithm) (r : Record) (n : ℕ) (c : Call) → choice r n ≡ By a →
    called r (under n c) ≡ record { number = paper_number (hash_of a) (view r) c; after = after_call n r c (paper_number (hash_of a) (view r) c) }
unfolding called offered asked offered_over by_named paper_number after_call
called_by_lem a r n (offer id time size root path) e = rw e
called_by_lem a r n (ask place page path) e = rw e

-- and by one that does not
pub called_16 : (r : Record) (n : ℕ) (c : Call) → choice r n ≡ Unknown → called r (under n c) ≡ stayed 16 r
unfolding called offered asked by_named
called_16 r n (offer id time size root path) e = rw e
called_16 r n (ask place page path) e = rw e

-- what an accepted call went by
pub record Went (r : Record) (n : ℕ) (c : Call) : Type 0 where
  pub by : Algorithm
  pub chose : choice r n ≡ By by
  pub accepts : paper_number (hash_of by) (view r) c ≡ 0
  pub next : (called r (under n c)).after ≡ after_call n r c 0

pub went : (r : Record) (n : ℕ) (c : Call) → (called r (under n c)).number ≡ 0 → Went r n c
went r n c e = go (choice r n) refl
  where
    go : (m : Named) → choice r n ≡ m → Went r n c
    go (By a) f =
        let g = called_by_lem a r n c f in
        let z = sym (ap (λ (o : Answered). o.number) g) ∙ e in
        record { by = a; chose = f; accepts = z; next = ap (λ (o : Answered). o.after) g ∙ ap (after_call n r c) z }
    go Unknown f = absurd (sixteen (sym (ap (λ (o : Answered). o.number) (called_16 r n c f)) ∙ e))
      where
        sixteen : ◌≡◌ {A = ℕ} 16 0 → ⊥
        sixteen z = omega arith

-- a call that answers no 0 returns the record that it got, but for the second place
refuses : (n : ℕ) (r : Record) (c : Call) (k : ℕ) → Beside r (after_call n r c (suc k))
unfolding after_call kept_record
refuses n r (offer id time size root path) k = written (is_evidence (view r) (suc k) size root) r (evidence_of (suc k) id time size root)
refuses n r (ask place page path) k = written false r r.evidence

pub stays : (r : Record) (c : Numbered Call) (k : ℕ) → (called r c).number ≡ suc k → Beside r (called r c).after
stays r (under n c) k e = go (choice r n) refl
  where
    go : (m : Named) → choice r n ≡ m → Beside r (called r (under n c)).after
    go (By a) f =
        let g = called_by_lem a r n c f in
        rw (ap (λ (o : Answered). o.after) g ∙ ap (after_call n r c) (sym (ap (λ (o : Answered). o.number) g) ∙ e)) (refuses n r c k)
    go Unknown f = rw (called_16 r n c f) (written false r r.evidence)

-- what a record holds and goes by is not the second place's
pub view_beside : (r : Record) (e : Evidence) → view (beside r e) ≡ view r
unfolding view
view_beside r e = refl

pub choice_beside : (r : Record) (e : Evidence) (n : ℕ) → choice (beside r e) n ≡ choice r n
unfolding choice
choice_beside r e n = refl

-- the view of the record after a call
pub view_after : (n : ℕ) (r : Record) (c : Call) (k : ℕ) (H : List ℕ → List ℕ) → view (after_call n r c k) ≡ paper_after H (view r) c k
unfolding after_call paper_after
view_after n r (offer id time size root path) k H = view_kept n r id time size root k
view_after n r (ask place page path) k H = refl

-- ---- a record that holds a head under a hash

pub record Bound (a : Algorithm) (r : Record) : Type 0 where
  pub holds : r.held ≡ true
  pub named : algorithm_of r.algorithm ≡ By a

bound_beside : (a : Algorithm) (r : Record) (e : Evidence) → Bound a r → Bound a (beside r e)
bound_beside a r e w = record { holds = w.holds; named = w.named }

pub named_one : {x y : Algorithm} → By x ≡ By y → x ≡ y
named_one f = cc

not_by : (b : Algorithm) → Unknown ≡ By b → ⊥
not_by b f = let y : ◌≡◌ {A = ℕ} 0 1 = cc in omega arith

pub held_choice : (r : Record) (n : ℕ) → r.held ≡ true → choice r n ≡ held_by r.algorithm n
unfolding choice
held_choice r n e = rw e

pub free_choice : (r : Record) (n : ℕ) → r.held ≡ false → choice r n ≡ algorithm_of n
unfolding choice
free_choice r n e = rw e

-- it takes no number but its own
held_one : (h n : ℕ) (b : Algorithm) (t : Bool) → eqb n h ≡ t → held_by h n ≡ By b → (n ≡ h) × (algorithm_of n ≡ By b)
unfolding held_by
held_one h n b true q f = (eqb-true n h q, rw q at f)
held_one h n b false q f = absurd (not_by b (rw q at f))

pub bound_one : (a : Algorithm) (r : Record) (n : ℕ) → Bound a r → (b : Algorithm) → choice r n ≡ By b → (n ≡ r.algorithm) × (b ≡ a)
bound_one a r n w b e =
    let h = held_one r.algorithm n b (eqb n r.algorithm) refl (sym (held_choice r n w.holds) ∙ e) in
    (h.0, named_one (sym h.1 ∙ ap algorithm_of h.0 ∙ w.named))

-- its own number goes by its hash, and any other is 16
pub bound_own : (a : Algorithm) (r : Record) → Bound a r → choice r r.algorithm ≡ By a
bound_own a r w = held_choice r r.algorithm w.holds ∙ sym (held_itself r.algorithm r.algorithm refl) ∙ w.named

pub bound_other : (r : Record) (n : ℕ) → r.held ≡ true → (n ≡ r.algorithm → ⊥) → choice r n ≡ Unknown
bound_other r n h d = held_choice r n h ∙ sym (held_another r.algorithm n d)

-- an accepted call leaves it bound
after_bound : (a : Algorithm) (r : Record) (n : ℕ) (c : Call) → Bound a r → n ≡ r.algorithm → Bound a (after_call n r c 0)
unfolding after_call kept_record holding
after_bound a r n (offer id time size root path) w e = record { holds = refl; named = ap algorithm_of e ∙ w.named }
after_bound a r n (ask place page path) w e = w

-- ---- the accepted calls of a list are a run under one hash

-- from a record r, the calls that these entries tell of
abbrev pub calls_of : List (Numbered Entry) → List Call
calls_of es = plain (map call_of (accepted es))

-- every accepted call went by this hash
unfoldable pub AllBy : Algorithm → List (Numbered Entry) → Type 0
AllBy a [] = Unit {0}
AllBy a (under n (answered c zero) ∷ es) = (algorithm_of n ≡ By a) × AllBy a es
AllBy a (under n (answered c (suc k)) ∷ es) = AllBy a es

pub record RunsUnder (a : Algorithm) (held : Held) (es : List (Numbered Entry)) : Type 0 where
  pub one_run : run (hash_of a) held (calls_of es) ≡ plain (accepted es)
  pub one_hash : AllBy a es

accept_one : (a : Algorithm) (held : Held) (n : ℕ) (c : Call) (es : List (Numbered Entry)) → paper_number (hash_of a) held c ≡ 0 → algorithm_of n ≡ By a →
    RunsUnder a (paper_after (hash_of a) held c 0) es → RunsUnder a held (under n (answered c 0) ∷ es)
unfolding run accepted call_of plain AllBy
accept_one a held n c es e f w = record { one_run = rw e (ap (λ (l : List Entry). answered c 0 ∷ l) w.one_run); one_hash = (f, w.one_hash) }

pass_one : (a : Algorithm) (held : Held) (n : ℕ) (c : Call) (k : ℕ) (es : List (Numbered Entry)) → RunsUnder a held es → RunsUnder a held (under n (answered c (suc k)) ∷ es)
unfolding run accepted call_of plain AllBy
pass_one a held n c k es w = record { one_run = w.one_run; one_hash = w.one_hash }

-- from a record that is bound
bound_step : (a : Algorithm) (r : Record) (n : ℕ) (c : Call) (calls : List (Numbered Call)) → Bound a r →
    ((s : Record) → Bound a s → RunsUnder a (view s) (answers s calls)) →
    (k : ℕ) → (called r (under n c)).number ≡ k → RunsUnder a (view r) (under n (answered c k) ∷ answers (called r (under n c)).after calls)
bound_step a r n c calls w i zero e =
    let g = went r n c e in
    let o = bound_one a r n w g.by g.chose in
    let s = after_call n r c 0 in
    let t = subst (λ (v : Held). RunsUnder a v (answers s calls)) (view_after n r c 0 (hash_of a)) (i s (after_bound a r n c w o.0)) in
    rw g.next (accept_one a (view r) n c (answers s calls) (ap (λ (b : Algorithm). paper_number (hash_of b) (view r) c) (sym o.1) ∙ g.accepts) (ap algorithm_of o.0 ∙ w.named) t)
bound_step a r n c calls w i (suc k) e =
    let s = stays r (under n c) k e in
    let t = beside r s.place in
    rw s.same (pass_one a (view r) n c k (answers t calls) (subst (λ (v : Held). RunsUnder a v (answers t calls)) (view_beside r s.place) (i t (bound_beside a r s.place w))))

pub bound_runs : (a : Algorithm) (calls : List (Numbered Call)) (r : Record) → Bound a r → RunsUnder a (view r) (answers r calls)
unfolding answers entry run accepted call_of plain AllBy
bound_runs a [] r w = record { one_run = refl; one_hash = tt }
bound_runs a (under n c ∷ calls) r w = bound_step a r n c calls w (λ s v. bound_runs a calls s v) (called r (under n c)).number refl

-- from one that holds nothing: by the first accepted head
pub record OneHash (es : List (Numbered Entry)) : Type 0 where
  pub alg : Algorithm
  pub runs : RunsUnder alg empty es

pub offers_first : (H : List ℕ → List ℕ) (n : ℕ) (r : Record) (c : Call) (a : Algorithm) → paper_number H empty c ≡ 0 → algorithm_of n ≡ By a → Bound a (after_call n r c 0)
unfolding paper_number page_number after_call kept_record holding
offers_first H n r (offer id time size root path) a e f = record { holds = refl; named = f }
offers_first H n r (ask place page path) a e f = absurd (omega (arith, e))

free_step : (r : Record) (n : ℕ) (c : Call) (calls : List (Numbered Call)) → r.held ≡ false → ((s : Record) → s.held ≡ false → OneHash (answers s calls)) →
    (k : ℕ) → (called r (under n c)).number ≡ k → OneHash (under n (answered c k) ∷ answers (called r (under n c)).after calls)
free_step r n c calls h i zero e =
    let g = went r n c e in
    let a = g.by in
    let f = sym (free_choice r n h) ∙ g.chose in
    let z = ap (λ (v : Held). paper_number (hash_of a) v c) (sym (view_empty r h)) ∙ g.accepts in
    let s = after_call n r c 0 in
    let t = subst (λ (v : Held). RunsUnder a v (answers s calls)) (view_after n r c 0 (hash_of a) ∙ ap (λ (v : Held). paper_after (hash_of a) v c 0) (view_empty r h))
    (bound_runs a calls s (offers_first (hash_of a) n r c a z f)) in
    record { alg = a; runs = rw g.next (accept_one a empty n c (answers s calls) z f t) }
free_step r n c calls h i (suc k) e =
    let s = stays r (under n c) k e in
    let t = beside r s.place in
    let u = i t h in
    rw s.same (record { alg = u.alg; runs = pass_one u.alg empty n c k (answers t calls) u.runs })

pub free_runs : (calls : List (Numbered Call)) (r : Record) → r.held ≡ false → OneHash (answers r calls)
unfolding answers entry run accepted call_of plain AllBy
free_runs [] r h = record { alg = some_hash; runs = record { one_run = refl; one_hash = tt } }
free_runs (under n c ∷ calls) r h = free_step r n c calls h (λ s g. free_runs calls s g) (called r (under n c)).number refl

pub holds_nothing : empty_record.held ≡ false
unfolding empty_record
holds_nothing = refl

pub one_hash_of : (calls : List (Numbered Call)) → OneHash (answers empty_record calls)
one_hash_of calls = free_runs calls empty_record holds_nothing

-- ---- entries, accepted and without their numbers

pub plain_append : {A : Type 0} (x y : List (Numbered A)) → plain (x ++ y) ≡ plain x ++ plain y
unfolding plain
plain_append [] y = refl
plain_append {A} (under n a ∷ x) y = ap (λ (l : List A). a ∷ l) (plain_append x y)

pub accepted_append : (x y : List (Numbered Entry)) → accepted (x ++ y) ≡ accepted x ++ accepted y
unfolding accepted
accepted_append [] y = refl
accepted_append (under n (answered c zero) ∷ x) y = ap (λ (l : List (Numbered Entry)). under n (answered c zero) ∷ l) (accepted_append x y)
accepted_append (under n (answered c (suc k)) ∷ x) y = accepted_append x y

-- the heads are those of the accepted ones
pub heads_accepted : (es : List (Numbered Entry)) → heads (plain (accepted es)) ≡ heads (plain es)
unfolding heads plain accepted
heads_accepted [] = refl
heads_accepted (under n (answered (offer id time size root path) zero) ∷ es) = ap (then size root path) (heads_accepted es)
heads_accepted (under n (answered (offer id time size root path) (suc k)) ∷ es) = heads_accepted es
heads_accepted (under n (answered (ask place page path) zero) ∷ es) = heads_accepted es
heads_accepted (under n (answered (ask place page path) (suc k)) ∷ es) = heads_accepted es

-- those around one, or two, accepted calls
pub around_one : (x y : List (Numbered Entry)) (n : ℕ) (c : Call) → plain (accepted (x ++ (under n (answered c 0) ∷ y))) ≡ plain (accepted x) ++ (answered c 0 ∷ plain (accepted y))
unfolding accepted plain
around_one x y n c = ap plain (accepted_append x (under n (answered c 0) ∷ y)) ∙ plain_append (accepted x) (under n (answered c 0) ∷ accepted y)

pub around_two : (x y z : List (Numbered Entry)) (n m : ℕ) (c d : Call) → plain (accepted (x ++ (under n (answered c 0) ∷ (y ++ (under m (answered d 0) ∷ z)))))
    ≡ plain (accepted x) ++ (answered c 0 ∷ (plain (accepted y) ++ (answered d 0 ∷ plain (accepted z))))
around_two x y z n m c d =
    around_one x (y ++ (under m (answered d 0) ∷ z)) n c ∙ ap (λ (l : List Entry). plain (accepted x) ++ (answered c 0 ∷ l)) (around_one y z m d)

-- each went by the hash
pub gone_by : (a : Algorithm) (x y : List (Numbered Entry)) (n : ℕ) (c : Call) → AllBy a (x ++ (under n (answered c 0) ∷ y)) → (algorithm_of n ≡ By a) × AllBy a y
unfolding AllBy
gone_by a [] y n c w = w
gone_by a (under m (answered d zero) ∷ x) y n c w = gone_by a x y n c w.1
gone_by a (under m (answered d (suc k)) ∷ x) y n c w = gone_by a x y n c w

-- ---- one, or two, accepted calls among others: under one hash, with one number

pub record One (x y : List (Numbered Entry)) (n : ℕ) (c : Call) : Type 0 where
  pub alg : Algorithm
  pub calls : List Call
  pub as_run : run (hash_of alg) empty calls ≡ plain (accepted x) ++ (answered c 0 ∷ plain (accepted y))
  pub named : algorithm_of n ≡ By alg

pub one_accepted : (calls : List (Numbered Call)) (x y : List (Numbered Entry)) (n : ℕ) (c : Call) →
    answers empty_record calls ≡ x ++ (under n (answered c 0) ∷ y) → One x y n c
one_accepted calls x y n c e =
    let u = one_hash_of calls in
    record {
      alg = u.alg;
      calls = calls_of (answers empty_record calls);
      as_run = u.runs.one_run ∙ ap (λ (es : List (Numbered Entry)). plain (accepted es)) e ∙ around_one x y n c;
      named = (gone_by u.alg x y n c (subst (AllBy u.alg) e u.runs.one_hash)).0;
    }

pub record Two (x y z : List (Numbered Entry)) (n m : ℕ) (c d : Call) : Type 0 where
  pub alg : Algorithm
  pub calls : List Call
  pub as_run : run (hash_of alg) empty calls ≡ plain (accepted x) ++ (answered c 0 ∷ (plain (accepted y) ++ (answered d 0 ∷ plain (accepted z))))
  pub named : algorithm_of n ≡ By alg
  pub one_number : n ≡ m

pub two_accepted : (calls : List (Numbered Call)) (x y z : List (Numbered Entry)) (n m : ℕ) (c d : Call) →
    answers empty_record calls ≡ x ++ (under n (answered c 0) ∷ (y ++ (under m (answered d 0) ∷ z))) → Two x y z n m c d
two_accepted calls x y z n m c d e =
    let u = one_hash_of calls in
    let g = gone_by u.alg x (y ++ (under m (answered d 0) ∷ z)) n c (subst (AllBy u.alg) e u.runs.one_hash) in
    let h = gone_by u.alg y z m d g.1 in
    record {
      alg = u.alg;
      calls = calls_of (answers empty_record calls);
      as_run = u.runs.one_run ∙ ap (λ (es : List (Numbered Entry)). plain (accepted es)) e ∙ around_two x y z n m c d;
      named = g.0;
      one_number = numbers.one_number n u.alg g.0 ∙ sym (numbers.one_number m u.alg h.0);
    }

-- ---- the record after a list of calls: it holds nothing, or is bound, and then to the number of every accepted call

pub data Sorted : Record → Type 0 where
  none : {r : Record} → r.held ≡ false → Sorted r
  some : {r : Record} (a : Algorithm) → Bound a r → Sorted r

sorted_step : (r : Record) (n : ℕ) (c : Call) → Sorted r → (k : ℕ) → (called r (under n c)).number ≡ k → Sorted (called r (under n c)).after
sorted_step r n c (none h) zero e =
    let g = went r n c e in
    let z = ap (λ (v : Held). paper_number (hash_of g.by) v c) (sym (view_empty r h)) ∙ g.accepts in
    rw g.next (some g.by (offers_first (hash_of g.by) n r c g.by z (sym (free_choice r n h) ∙ g.chose)))
sorted_step r n c (some a w) zero e =
    let g = went r n c e in
    rw g.next (some a (after_bound a r n c w (bound_one a r n w g.by g.chose).0))
sorted_step r n c (none h) (suc k) e = rw (stays r (under n c) k e).same (none h)
sorted_step r n c (some a w) (suc k) e = rw (stays r (under n c) k e).same (some a (bound_beside a r (stays r (under n c) k e).place w))

pub sorted_final : (calls : List (Numbered Call)) (r : Record) → Sorted r → Sorted (final r calls)
unfolding final
sorted_final [] r s = s
sorted_final (under n c ∷ calls) r s = sorted_final calls (called r (under n c)).after (sorted_step r n c s (called r (under n c)).number refl)

pub sorted_empty : Sorted empty_record
sorted_empty = none holds_nothing

after_number : (n : ℕ) (r : Record) (c : Call) → n ≡ r.algorithm → (after_call n r c 0).algorithm ≡ r.algorithm
unfolding after_call kept_record holding
after_number n r (offer id time size root path) e = e
after_number n r (ask place page path) e = refl

pub first_number : (H : List ℕ → List ℕ) (n : ℕ) (r : Record) (c : Call) → paper_number H empty c ≡ 0 → n ≡ (after_call n r c 0).algorithm
unfolding paper_number page_number after_call kept_record holding
first_number H n r (offer id time size root path) e = refl
first_number H n r (ask place page path) e = absurd (omega (arith, e))

-- of a record r and the record e at the end: every accepted call has the number of e
Numbers : ℕ → Record → List (Numbered Entry) → Type 0
Numbers h e es = AllUnder h es × (e.algorithm ≡ h)

number_step : (a : Algorithm) (r : Record) (n : ℕ) (c : Call) (calls : List (Numbered Call)) → Bound a r →
    ((s : Record) → Bound a s → Numbers s.algorithm (final s calls) (answers s calls)) → (k : ℕ) → (called r (under n c)).number ≡ k →
    Numbers r.algorithm (final (called r (under n c)).after calls) (under n (answered c k) ∷ answers (called r (under n c)).after calls)
unfolding Numbers AllUnder
number_step a r n c calls w i zero e =
    let g = went r n c e in
    let o = (bound_one a r n w g.by g.chose).0 in
    let t = subst (λ (h : ℕ). Numbers h (final (after_call n r c 0) calls) (answers (after_call n r c 0) calls)) (after_number n r c o) (i (after_call n r c 0) (after_bound a r n c w o)) in
    rw g.next ((o, t.0), t.1)
number_step a r n c calls w i (suc k) e = let s = stays r (under n c) k e in rw s.same (i (beside r s.place) (bound_beside a r s.place w))

bound_numbers : (a : Algorithm) (calls : List (Numbered Call)) (r : Record) → Bound a r → Numbers r.algorithm (final r calls) (answers r calls)
unfolding Numbers AllUnder answers entry final
bound_numbers a [] r w = (tt, refl)
bound_numbers a (under n c ∷ calls) r w = number_step a r n c calls w (λ s v. bound_numbers a calls s v) (called r (under n c)).number refl

number_first : (r : Record) (n : ℕ) (c : Call) (calls : List (Numbered Call)) → r.held ≡ false →
    ((s : Record) → s.held ≡ false → AllUnder (final s calls).algorithm (answers s calls)) →
    (k : ℕ) → (called r (under n c)).number ≡ k →
    AllUnder (final (called r (under n c)).after calls).algorithm (under n (answered c k) ∷ answers (called r (under n c)).after calls)
unfolding AllUnder Numbers
number_first r n c calls h i zero e =
    let g = went r n c e in
    let a = g.by in
    let z = ap (λ (v : Held). paper_number (hash_of a) v c) (sym (view_empty r h)) ∙ g.accepts in
    let s = after_call n r c 0 in
    let t = bound_numbers a calls s (offers_first (hash_of a) n r c a z (sym (free_choice r n h) ∙ g.chose)) in
    let P : Record → Type 0 = λ x. AllUnder (final x calls).algorithm (under n (answered c zero) ∷ answers x calls) in
    subst P (sym g.next) (first_number (hash_of a) n r c z ∙ sym t.1, subst (λ (m : ℕ). AllUnder m (answers s calls)) (sym t.1) t.0)
number_first r n c calls h i (suc k) e = let s = stays r (under n c) k e in rw s.same (i (beside r s.place) h)

pub all_numbered : (calls : List (Numbered Call)) (r : Record) → r.held ≡ false → AllUnder (final r calls).algorithm (answers r calls)
unfolding AllUnder answers entry final
all_numbered [] r h = tt
all_numbered (under n c ∷ calls) r h = number_first r n c calls h (λ s g. all_numbered calls s g) (called r (under n c)).number refl

-- ---- calls that all have the number of a hash, from a record that is free or bound to it

bound_own_number : (a : Algorithm) (n : ℕ) (id : List ℕ) (time size : ℕ) (root : List ℕ) (p : Evidence) → algorithm_of n ≡ By a → choice (holding n id time size root p) n ≡ By a
unfolding choice holding
bound_own_number a n id time size root p e = sym (held_itself n n refl) ∙ e

own_after : (a : Algorithm) (n : ℕ) (r : Record) (c : Call) (k : ℕ) → algorithm_of n ≡ By a → choice r n ≡ By a → choice (after_call n r c k) n ≡ By a
unfolding after_call kept_record
own_after a n r (offer id time size root path) zero e f = bound_own_number a n id time size root r.evidence e
own_after a n r (ask place page path) zero e f = f
own_after a n r c (suc k) e f = let s = refuses n r c k in rw s.same (choice_beside r s.place n ∙ f)

pub all_own : (a : Algorithm) (n : ℕ) → algorithm_of n ≡ By a → (calls : List Call) (r : Record) → choice r n ≡ By a →
    answers r (map (under n) calls) ≡ map (under n) (run (hash_of a) (view r) calls)
unfolding answers entry run
all_own a n e [] r f = refl
all_own a n e (c ∷ calls) r f =
    let k = paper_number (hash_of a) (view r) c in
    let g = called_by_lem a r n c f in
    rw g (ap (λ (l : List (Numbered Entry)). under n (answered c k) ∷ l)
    (all_own a n e calls (after_call n r c k) (own_after a n r c k e f) ∙ ap (λ (v : Held). map (under n) (run (hash_of a) v calls)) (view_after n r c k (hash_of a))))
