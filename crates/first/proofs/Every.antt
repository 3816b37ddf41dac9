-- Both round trips over the contracts as the source states them: each answer is any that the function's `ensures` allows, so that a weaker `ensures` does
-- not prove them. Assumes nothing.
use mathlib.Core.Path.{◌≡◌, refl, ap, ap₂, sym, subst, ◌∙◌}
use mathlib.Core.List.{List, [], ◌++◌}
use mathlib.Core.Bool.{Bool, true, false, cond}
use lib.Dec.{eqb}
use Prim.Native.Nat.{ℕ, ◌≤◌}
use lib.ListN.{length, take, drop}
use contract.Lifetimes.{Lfts}
use denote.Ref.{Bor}
use denote.MutBor.{MutBor}
use Rattle.octets.specs.Bytes.{Bytes}
use Rattle.std.specs.Prelude.{Result, Ok}
use Rattle.octets.specs.declared.refusal.Refusal.TheVariants.{UnknownType}
use Rattle.fields.specs.declared.layout.RefusedAt.{RefusedAt}
use Rattle.fields.specs.Checked.{Checked, good, bad, checked, then}
use Rattle.fields.specs.Write.{write}
use Rattle.fields.specs.Effect.{Effect}
use Rattle.fields.proofs.Numbered.{Numbered, told_by, answer_of, answer_is, write_numbered, effect_numbered}
use Rattle.fields.proofs.Every.{written_length, ref, mut_ref}
use Rattle.first.specs.declared.table.Line.{Line}
use Rattle.first.specs.declared.table.Line.TheVariants.{CertificateTimestamp, TreeHead}
use Rattle.first.specs.declared.writer.Vectors.{Vectors as Slices}
use Rattle.first.specs.Table.{leaf_line, line_of}
use Rattle.first.specs.declared.reader.First.{First}
use Rattle.first.specs.declared.writer.Numbers.{Numbers}
use Rattle.first.specs.First.{read_first, Vectors, lent, filled, write_first}
use Rattle.first.specs.Claims.{Taken, Sized, ReadThenWritten, WrittenThenRead}
use Rattle.first.proofs.Trips as Trips
use Rattle.first.proofs.reader.read.Reads as read-reads
use Rattle.first.proofs.writer.write.Reads as write-reads

-- what each function may answer, by its contract: the reader; the writer, with the lent bytes before and after
pub record Reads (e w : ℕ) (s : Bor (List ℕ)) (i : Result First RefusedAt) : Type 0 where
  pub lives : Lfts 1
  pub learnt : read-reads.Learnt lives (e, (w, (s, tt))) i (e, (w, (s, tt)))

pub record Writes (e w : ℕ) (n : Numbers) (v : Slices) (out out' : MutBor (List ℕ)) (a : Result ℕ RefusedAt) : Type 0 where
  pub lives : Lfts 2
  pub learnt : write-reads.Learnt lives (e, (w, (n, (v, (out, tt))))) a (e, (w, (n, (v, (out', tt)))))

-- what is read, taken field by field and written again is the same bytes
pub read_then_written :
    (e w : ℕ) (s : Bor (List ℕ)) (out after : MutBor (List ℕ)) (i : Result First RefusedAt) (n : Numbers) (v : Slices) (a : Result ℕ RefusedAt) → Bytes s.now → Reads e w s i → Taken s.now i n (lent v)
    → length s.now ≤ length out.now → Writes e w n v out after a → (a ≡ Ok (length s.now)) × (after.now ≡ s.now ++ drop (length s.now) out.now)
read_then_written e w s out after i n v a bs r h fit k =
    let q = Trips.read_then_written e w s.now out.now i n (lent v) bs r.learnt h fit in
    (written_length a (length s.now) (k.learnt.0 ∙ ap (λ (o : Effect). o.answer) q), k.learnt.1 ∙ ap (λ (o : Effect). o.bytes) q)

-- what was written, read again, answers the same fields
pub written_then_read :
    (e w : ℕ) (n : Numbers) (v : Slices) (out after : MutBor (List ℕ)) (m : ℕ) (s : Bor (List ℕ)) (i : Result First RefusedAt) → Sized n → Writes e w n v out after (Ok m)
    → s.now ≡ take m after.now → Reads e w s i → Taken s.now i n (lent v)
written_then_read e w n v out after m s i z k q r =
    let f : s.now ≡ take m (write_first e w n (lent v) out.now).bytes = q ∙ ap (take m) k.learnt.1 in
    subst (λ (x : List ℕ). Taken x i n (lent v)) (sym f) (Trips.written_then_read e w n (lent v) out.now m i z (sym k.learnt.0) (r.learnt ∙ ap (read_first e w) f))

-- The claims follow from these: any bytes can stand behind a reference, and what a definition says is one of the answers that the contracts allow.
slices : Vectors → Slices
slices t =
    record {
      log_id = ref t.log_id;
      issuer_key_hash = ref t.issuer_key_hash;
      certificate = ref t.certificate;
      extensions = ref t.extensions;
      signature = ref t.signature;
      root_hash = ref t.root_hash;
    }

-- and every refusal of the writer has a number of the code's
line_numbered : (e w k : ℕ) → Numbered (line_of e w k)
unfolding line_of
line_numbered e w k = go (eqb e 1) (eqb w 1) (eqb w 2) (eqb w 3)
  where
    go : (a b c d : Bool) → Numbered (cond a (cond b (good (leaf_line k)) (cond c (good CertificateTimestamp) (cond d (good TreeHead) (bad 4 0)))) (bad 4 0))
    go false b c d = told_by UnknownType
    go true true c d = tt
    go true false true d = tt
    go true false false true = tt
    go true false false false = told_by UnknownType

writes_numbered : (e w : ℕ) (n : Numbers) (t : Vectors) (out : List ℕ) → Numbered (write_first e w n t out).answer
unfolding write_first
writes_numbered e w n t out = effect_numbered out _ (go (line_of e w n.entry_type) (line_numbered e w n.entry_type))
  where
    go : (a : Checked Line) → Numbered a → Numbered (then a (λ l. write (filled n t l) 0))
    go (good l) h = write_numbered (filled n t l) 0
    go (bad x y) h = h

pub read_claimed : ReadThenWritten
unfolding ref mut_ref slices
read_claimed e w s out i n t bs d h fit =
    let o = write_first e w n t out in
    let k = writes_numbered e w n t out in
    let r = read_then_written e w (ref s) (mut_ref out) (mut_ref o.bytes) i n (slices t) (answer_of o.answer k) bs (record { lives = ([], tt); learnt = d }) h fit (record { lives = ([], ([], tt)); learnt = (answer_is o.answer k, refl) }) in
    ap₂ (λ (x : Checked ℕ) (y : List ℕ). record { answer = x; bytes = y }) (sym (answer_is o.answer k) ∙ ap checked r.0) r.1

pub written_claimed : WrittenThenRead
unfolding ref mut_ref slices
written_claimed e w n t out m i z q d =
    let o = write_first e w n t out in
    written_then_read e w n (slices t) (mut_ref out) (mut_ref o.bytes) m (ref (take m o.bytes)) i z (record { lives = ([], ([], tt)); learnt = (sym q, refl) }) refl (record { lives = ([], tt); learnt = d })
