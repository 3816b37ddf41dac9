-- Both round trips over the contracts as the source states them: each answer is any that the function's `ensures` allows, so that a weaker `ensures` does
-- not prove them. Assumes nothing.
use mathlib.Core.Path.{◌≡◌, refl, ap, ap₂, sym, subst, ◌∙◌}
use mathlib.Core.List.{List, [], ◌∷◌, ◌++◌}
use mathlib.Core.Bool.{Bool, true, false, cond}
use lib.Dec.{eqb}
use Prim.Native.Nat.{ℕ, ◌≤◌}
use lib.ListN.{length, take, drop}
use contract.Lifetimes.{Lfts}
use denote.Ref.{Bor}
use denote.MutBor.{MutBor}
use Rattle.fields.specs.declared.layout.Part.{Part}
use Rattle.item.specs.declared.reader.Item.{Item}
use Rattle.item.specs.declared.reader.Item.TheVariants.{Entry, Receipt, SignedHead, Consistency, Inclusion, Page}
use Rattle.item.specs.declared.reader.ItemRefused.{ItemRefused}
use Rattle.item.specs.declared.writer.Numbers.{Numbers}
use Rattle.item.specs.declared.writer.Vectors.{Vectors as Slices}
use Rattle.item.specs.declared.table.Case.{Case}
use Rattle.std.specs.Prelude.{Result, Ok, Err}
use Rattle.octets.specs.Numbers.{be}
use Rattle.octets.specs.declared.refusal.Refusal.TheVariants.{UnknownType}
use Rattle.fields.specs.declared.layout.RefusedAt.{RefusedAt}
use Rattle.fields.specs.Checked.{Checked, good, bad, checked, then}
use Rattle.fields.specs.Write.{join, write}
use Rattle.item.specs.Table.{TypeRow, names_of, types, find}
use Rattle.octets.specs.Bytes.{Bytes}
use Rattle.item.specs.declared.table.Met.{Met}
use Rattle.item.specs.Item.{read_item, Meets, met_by, Vectors, lent, filled, write_item}
use Rattle.fields.specs.Effect.{Effect}
use Rattle.item.specs.Claims.{Sized, Taken, Copied, TakenThenWritten, WrittenThenTaken}
use Rattle.item.proofs.Items as Items
use Rattle.item.proofs.Naming.{reads_meets}
use Rattle.item.proofs.Trips.{taken_then_written, written_then_taken}
use Rattle.item.proofs.reader.read.Reads as read-reads
use Rattle.fields.proofs.Every.{Through, Comes, written_length, through_copied, copied_comes, ref, mut_ref, copied_through, comes_copied}
use Rattle.fields.proofs.Numbered.{Numbered, told_by, answer_of, answer_is, join_numbered, write_numbered, effect_numbered}
use Rattle.item.proofs.writer.write.Reads as write-reads

-- what each function may answer, by its contract: the reader; the writer, with the lent bytes before and after
pub record Reads (s : Bor (List ℕ)) (i : Result Item ItemRefused) : Type 0 where
  pub lives : Lfts 1
  pub learnt : read-reads.Learnt lives (s, tt) i (s, tt)

pub record Writes (k : ℕ) (n : Numbers) (v : Slices) (out out' : MutBor (List ℕ)) (a : Result ℕ RefusedAt) : Type 0 where
  pub lives : Lfts 2
  pub learnt : write-reads.Learnt lives (k, (n, (v, (out, tt)))) a (k, (n, (v, (out', tt))))

-- what is asked of a path may be exchanged
taken_by : (P Q : Part → List ℕ → Type 0) (s : List ℕ) (i : Result Item ItemRefused) (k : ℕ) (n : Numbers) (t : Vectors) → ((p : Part) (w : List ℕ) → P p w → Q p w) → Taken P s i k n t → Taken Q s i k n t
taken_by P Q s (Ok (Entry k' a b c d)) k n t f h = h
taken_by P Q s (Ok (Receipt k' a b c d)) k n t f h = h
taken_by P Q s (Ok (SignedHead k' a b c d e g)) k n t f h = h
taken_by P Q s (Ok (Consistency k' a b c p)) k n t f (x, y, z, u, h) = (x, y, z, u, f p t.path h)
taken_by P Q s (Ok (Inclusion k' a b c p)) k n t f (x, y, z, u, h) = (x, y, z, u, f p t.path h)
taken_by P Q s (Ok (Page k' a b c d)) k n t f h = h
taken_by P Q s (Err w) k n t f h = h

-- what was taken of an answer is of an item that was read
taken_meets : (P : Part → List ℕ → Type 0) (s : List ℕ) (i : Result Item ItemRefused) (k : ℕ) (n : Numbers) (t : Vectors) (m : Met) → Taken P s i k n t → Meets i m
taken_meets P s (Ok i) k n t m h = tt
taken_meets P s (Err w) k n t m h = absurd h

-- what is read, taken field by field and written again is the same bytes
pub read_then_written :
    (s : Bor (List ℕ)) (out after : MutBor (List ℕ)) (i : Result Item ItemRefused) (k : ℕ) (n : Numbers) (v : Slices) (a : Result ℕ RefusedAt) → Bytes s.now → Reads s i → Taken (Through s) s.now i k n (lent v)
    → length s.now ≤ length out.now → Writes k n v out after a → (a ≡ Ok (length s.now)) × (after.now ≡ s.now ++ drop (length s.now) out.now)
read_then_written s out after i k n v a bs r h fit w =
    let q = taken_then_written s.now out.now i k n (lent v) bs r.learnt.0 (taken_by (Through s) (Copied s.now) s.now i k n (lent v) (through_copied s) h) fit in
    (written_length a (length s.now) (w.learnt.0 ∙ ap (λ (o : Effect). o.answer) q), w.learnt.1 ∙ ap (λ (o : Effect). o.bytes) q)

-- what was written, read again, answers the same fields
pub written_then_read :
    (k : ℕ) (n : Numbers) (v : Slices) (out after : MutBor (List ℕ)) (m : ℕ) (s : Bor (List ℕ)) (i : Result Item ItemRefused) → Sized k n → Writes k n v out after (Ok m)
    → s.now ≡ take m after.now → Reads s i → Taken (Comes s) s.now i k n (lent v)
written_then_read k n v out after m s i z w e r =
    let b = (write_item k n (lent v) out.now).bytes in
    let f : s.now ≡ take m b = e ∙ ap (take m) w.learnt.1 in
    let q = written_then_taken k n (lent v) out.now m i z (sym w.learnt.0) (r.learnt.0 ∙ ap read_item f) in
    taken_by (Copied s.now) (Comes s) s.now i k n (lent v) (copied_comes s) (subst (λ (x : List ℕ). Taken (Copied x) x i k n (lent v)) (sym f) q)

-- The claims follow from these: any bytes can stand behind a reference, and what a definition says is one of the answers that the contracts allow.
slices : Vectors → Slices
slices t =
    record {
      log_id = ref t.log_id;
      issuer_key_hash = ref t.issuer_key_hash;
      certificate = ref t.certificate;
      root_hash = ref t.root_hash;
      extensions = ref t.extensions;
      signature = ref t.signature;
      path = ref t.path;
      body = ref t.body;
    }

-- and every refusal of the writer has a number of the code's
find_numbered : (rs : List TypeRow) (k : ℕ) → Numbered (find rs k)
unfolding find
find_numbered [] k = told_by UnknownType
find_numbered (r ∷ rs) k = go (eqb k r.kind) (find_numbered rs k)
  where
    go : (b : Bool) → Numbered (find rs k) → Numbered (cond b (good r.case) (find rs k))
    go true h = tt
    go false h = h

writes_numbered : (k : ℕ) (n : Numbers) (t : Vectors) (out : List ℕ) → Numbered (write_item k n t out).answer
unfolding write_item
writes_numbered k n t out = effect_numbered out _ (go (find types k) (find_numbered types k))
  where
    go : (a : Checked Case) → Numbered a → Numbered (then a (λ c. join (be 2 k) (write (filled n t (names_of c)) 2)))
    go (good c) h = join_numbered (be 2 k) _ (write_numbered (filled n t (names_of c)) 2)
    go (bad x y) h = h

pub written_claimed : TakenThenWritten
unfolding ref mut_ref slices
written_claimed s out i k n t bs e h fit =
    let o = write_item k n t out in
    let d = writes_numbered k n t out in
    let r = read_then_written (ref s) (mut_ref out) (mut_ref o.bytes) i k n (slices t) (answer_of o.answer d) bs (record { lives = ([], tt); learnt = (e, taken_meets (Copied s) s i k n t (met_by s) h) }) (taken_by (Copied s) (Through (ref s)) s i k n t (copied_through s) h) fit (record { lives = ([], ([], tt)); learnt = (answer_is o.answer d, refl) }) in
    ap₂ (λ (x : Checked ℕ) (y : List ℕ). record { answer = x; bytes = y }) (sym (answer_is o.answer d) ∙ ap checked r.0) r.1

pub taken_claimed : WrittenThenTaken
unfolding ref mut_ref slices
taken_claimed k n t out m i z e d =
    let o = write_item k n t out in
    let s = take m o.bytes in
    let b = Items.written_then_read k n t out m z e in
    let r = written_then_read k n (slices t) (mut_ref out) (mut_ref o.bytes) m (ref s) i z (record { lives = ([], ([], tt)); learnt = (sym e, refl) }) refl (record { lives = ([], tt); learnt = (d, reads_meets i b.reading (met_by s) (d ∙ b.reads)) }) in
    taken_by (Comes (ref s)) (Copied s) s i k n t (comes_copied s) r
