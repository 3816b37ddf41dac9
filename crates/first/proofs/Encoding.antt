-- What is read and what is written are the structures as RFC 6962 writes them. Assumes nothing.
use mathlib.Core.Path.{◌≡◌, refl, ap, sym, subst, ◌∙◌}
use mathlib.Core.List.{List, []}
use mathlib.Core.Bool.{false}
use lib.Dec.{eqb}
use borrow.Author.Tests.{eq-eqb, ne_eqb}
use Prim.Native.Nat.{ℕ, ◌^◌, ◌≤◌, ◌<◌}
use native.Mathlib.Omega.{arith}
use lib.ListN.{length, get_or}
use Rattle.octets.specs.Bytes.{Bytes, joined}
use Rattle.std.specs.Prelude.{Ok}
use Rattle.fields.specs.declared.layout.Part.{Part}
use Rattle.fields.specs.declared.layout.Inner.TheVariants.{Opaque}
use Rattle.fields.specs.declared.layout.Field.TheVariants.{OneOf, Fixed}
use Rattle.octets.specs.Numbers.{be}
use Rattle.fields.specs.Checked.{Checked, good, bad}
use Rattle.fields.specs.Layout.{read, bytes_at}
use Rattle.fields.specs.Write.{body_size, wrap, vector_filled, one_of_filled, uint, bytes, fill, write}
use Rattle.fields.specs.Claims.{Each}
use Rattle.fields.specs.Answers.{no_part}
use Rattle.fields.specs.Extensions.{all_laid}
use Rattle.fields.proofs.Fills.{filled_vector, filled_one_of, filled_fixed}
use Rattle.fields.proofs.Laid.{write_laid, TakesIt, laid_write, opaque_takes, allowed_within, Numeric, found_numeric}
use Rattle.fields.proofs.Resuming.{firsts, all_firsts}
use Rattle.fields.proofs.Vectors.{one_of_judged, fixed_as_is}
use Rattle.fields.proofs.Within.{Both, parts_all, read_count}
use Rattle.octets.specs.declared.number.Width.TheVariants.{One, Two}
use Rattle.first.specs.declared.table.Line.{Line}
use Rattle.first.specs.declared.table.Line.TheVariants.{X509Entry, PrecertEntry, CertificateTimestamp, TreeHead}
use Rattle.first.specs.declared.reader.First.{First}
use Rattle.first.specs.declared.reader.First.TheVariants.{X509Entry as x509_entry, PrecertEntry as precert_entry}
use Rattle.first.specs.declared.reader.First.TheVariants.{CertificateTimestamp as certificate_timestamp, TreeHead as tree_head}
use Rattle.first.specs.declared.writer.Numbers.{Numbers}
use Rattle.first.specs.Structures.{Structure, leaf, certificate_timestamp as timestamp_of, tree_head as head_of, x509, precert, encoded, Fits, name_of}
use Rattle.first.specs.Table.{layout_of}
use Rattle.first.specs.First.{Reading, reading, read_first, Vectors, vectors, filled}
use Rattle.first.specs.Claims.{Taken, Sized, Encodes, IsRead, ReadIsEncoded, asked, Wrote, WrittenIsEncoded}
use Rattle.first.proofs.Wholes.{LineIs, x509 as is_x509, precert as is_precert, timestamp as is_timestamp, head as is_head, was_read}
use Rattle.first.proofs.Trips.{written_again, reads_back, was_written}

-- the structure that a line is filled with
abbrev pub structure_of : Line → Numbers → Vectors → Structure
structure_of X509Entry n t = leaf n.timestamp (x509 t.certificate) t.extensions
structure_of PrecertEntry n t = leaf n.timestamp (precert t.issuer_key_hash t.certificate) t.extensions
structure_of CertificateTimestamp n t = timestamp_of t.log_id n.timestamp t.extensions n.algorithms t.signature
structure_of TreeHead n t = head_of n.timestamp n.size t.root_hash

abbrev pub EntryIs : Line → ℕ → Type 0
EntryIs X509Entry k = k ≡ 0
EntryIs PrecertEntry k = k ≡ 1
EntryIs CertificateTimestamp k = Unit
EntryIs TreeHead k = Unit

laid_encoded : (l : Line) (n : Numbers) (t : Vectors) → EntryIs l n.entry_type → all_laid (filled n t l) ≡ encoded (structure_of l n t)
unfolding joined wrap
laid_encoded X509Entry n t e = rw e
laid_encoded PrecertEntry n t e = rw e
laid_encoded CertificateTimestamp n t e = refl
laid_encoded TreeHead n t e = refl

-- a vector that was filled is within its range, and bytes of fixed length have that length
opaque_range : (w least most : ℕ) (v : List ℕ) (at : ℕ) (b : List ℕ) → vector_filled w least most Opaque v at ≡ good b → (least ≤ length v) × (length v ≤ most)
unfolding body_size
opaque_range w least most v at b e = let h = filled_vector w least most Opaque v at b e in (h.low, h.high)

entry_one : (n at : ℕ) (b : List ℕ) → one_of_filled 2 0 1 n at ≡ good b → n ≤ 1
entry_one n at b e = (allowed_within 0 1 n (filled_one_of 2 0 1 n at b e).0).1

-- the entry type that a line has, where all of it is written
pub entry_is : (e w : ℕ) (n : Numbers) (t : Vectors) (l : Line) (b : List ℕ) → LineIs e w n.entry_type l → write (filled n t l) 0 ≡ good b → EntryIs l n.entry_type
entry_is e w n t X509Entry b (is_x509 x y k) q =
    let h = write_laid (filled n t X509Entry) 0 b q in omega (arith, entry_one n.entry_type _ _ h.0.1.1.1.0.fine)
entry_is e w n t PrecertEntry b (is_precert x y k) q = k
entry_is e w n t CertificateTimestamp b i q = tt
entry_is e w n t TreeHead b i q = tt

-- what is written of a line is its structure
pub line_encoded : (e w : ℕ) (n : Numbers) (t : Vectors) (l : Line) (b : List ℕ) → LineIs e w n.entry_type l → write (filled n t l) 0 ≡ good b → b ≡ encoded (structure_of l n t)
line_encoded e w n t l b i q = (write_laid (filled n t l) 0 b q).1 ∙ laid_encoded l n t (entry_is e w n t l b i q)

-- whose name is the one that was given
line_named : (e w k : ℕ) (n : Numbers) (t : Vectors) (l : Line) → LineIs e w k l → (e ≡ 1) × (w ≡ name_of (structure_of l n t))
line_named e w k n t X509Entry (is_x509 x y z) = (x, y)
line_named e w k n t PrecertEntry (is_precert x y z) = (x, y)
line_named e w k n t CertificateTimestamp (is_timestamp x y) = (x, y)
line_named e w k n t TreeHead (is_head x y) = (x, y)

-- and whose fields are in their ranges
line_fits : (n : Numbers) (t : Vectors) (l : Line) (b : List ℕ) → Sized n → write (filled n t l) 0 ≡ good b → Fits (structure_of l n t)
line_fits n t X509Entry b z q =
    let h = (write_laid (filled n t X509Entry) 0 b q).0 in
    let c = opaque_range 3 1 16777215 t.certificate _ _ h.1.1.1.1.0.fine in
    let g = opaque_range 2 0 65535 t.extensions _ _ h.1.1.1.1.1.0.fine in
    (z.timestamp, (c.0, omega (arith, c.1)), omega (arith, g.1))
line_fits n t PrecertEntry b z q =
    let h = (write_laid (filled n t PrecertEntry) 0 b q).0 in
    let i = (filled_fixed 32 t.issuer_key_hash _ _ h.1.1.1.1.0.fine).0 in
    let c = opaque_range 3 1 16777215 t.certificate _ _ h.1.1.1.1.1.0.fine in
    let g = opaque_range 2 0 65535 t.extensions _ _ h.1.1.1.1.1.1.0.fine in
    (z.timestamp, (i, c.0, omega (arith, c.1)), omega (arith, g.1))
line_fits n t CertificateTimestamp b z q =
    let h = (write_laid (filled n t CertificateTimestamp) 0 b q).0 in
    let i = (filled_fixed 32 t.log_id _ _ h.1.0.fine).0 in
    let g = opaque_range 2 0 65535 t.extensions _ _ h.1.1.1.0.fine in
    let c = opaque_range 2 0 65535 t.signature _ _ h.1.1.1.1.1.0.fine in
    (i, z.timestamp, omega (arith, g.1), z.algorithms, omega (arith, c.1))
line_fits n t TreeHead b z q =
    let h = (write_laid (filled n t TreeHead) 0 b q).0 in
    let i = (filled_fixed 32 t.root_hash _ _ h.1.1.1.1.0.fine).0 in
    (z.timestamp, z.size, i)

pub encodes : (e w : ℕ) (n : Numbers) (t : Vectors) (l : Line) (b : List ℕ) → Sized n → LineIs e w n.entry_type l → write (filled n t l) 0 ≡ good b → Encodes e w b
encodes e w n t l b z i q =
    let m = line_named e w n.entry_type n t l i in
    record { is = structure_of l n t; fits = line_fits n t l b z q; edition = m.0; named = m.1; bytes = line_encoded e w n t l b i q }

-- it is the one that was asked for
asked_is : (e w : ℕ) (n : Numbers) (t : Vectors) (l : Line) → LineIs e w n.entry_type l → asked w n t ≡ structure_of l n t
asked_is e w n t X509Entry (is_x509 x y k) = rw (eq-eqb _ _ y, ne_eqb _ _ k)
asked_is e w n t PrecertEntry (is_precert x y k) = rw (eq-eqb _ _ y, eq-eqb _ _ k)
asked_is e w n t CertificateTimestamp (is_timestamp x y) = let m : eqb w 1 ≡ false = ne_eqb w 1 (λ z. omega arith) in rw (m, eq-eqb _ _ y)
asked_is e w n t TreeHead (is_head x y) =
    let m : eqb w 1 ≡ false = ne_eqb w 1 (λ z. omega arith) in
    let o : eqb w 2 ≡ false = ne_eqb w 2 (λ z. omega arith) in
    rw (m, o)

pub written_is_encoded : WrittenIsEncoded
written_is_encoded e w n t out m z q =
    let h = was_written e w n t out m q in
    let a = sym (asked_is e w n t h.line h.is) in
    let k = line_named e w n.entry_type n t h.line h.is in
    subst (Wrote e w n t) (sym h.bytes)
    (record {
      fits = subst Fits a (line_fits n t h.line h.body z h.fields);
      edition = k.0;
      named = k.1 ∙ ap name_of a;
      bytes = line_encoded e w n t h.line h.body h.is h.fields ∙ ap encoded a;
    })

abbrev pub numbers : ℕ → ℕ → ℕ → ℕ → Numbers
numbers time size entry algorithms = record { timestamp = time; size = size; entry_type = entry; algorithms = algorithms }

-- what was read, as an answer and as a caller takes it
record Answered (e w : ℕ) (s : List ℕ) (r : Reading) : Type 0 where
  answer : First
  says : reading (Ok answer) ≡ good r
  given : Numbers
  bytes : Vectors
  sized : Sized given
  taken : Taken s (Ok answer) given bytes

module _ (e w : ℕ) (s : List ℕ) (bs : Bytes s) where
  module _ (l : Line) (ps : List Part) (q : read (layout_of l) s 0 ≡ good ps) where
    pub all_parts : firsts (length (layout_of l)) ps ≡ ps
    all_parts = all_firsts (length (layout_of l)) ps (read_count (layout_of l) s 0 ps q)

    pub numeric : Both (Numeric s) (layout_of l) (firsts (length (layout_of l)) ps)
    numeric = parts_all s (Numeric s) (found_numeric s bs) (layout_of l) 0 (firsts (length (layout_of l)) ps) (omega arith) (rw all_parts q)

  answered : (l : Line) (ps : List Part) → read (layout_of l) s 0 ≡ good ps → Answered e w s (record { line = l; fields = ps })
  answered X509Entry ps q =
      let p : ℕ → Part = λ i. get_or ps i no_part in
      let b = numeric X509Entry ps q in
      subst (λ (x : List Part). Answered e w s (record { line = X509Entry; fields = x })) (all_parts X509Entry ps q)
      (record {
        answer = x509_entry (p 0) (p 1) (p 2) (p 3) (p 4) (p 5);
        says = refl;
        given = numbers (p 2).value 0 (p 3).value 0;
        bytes = vectors [] [] (bytes_at s (p 4)) (bytes_at s (p 5)) [] [];
        sized = record { timestamp = b.1.1.0; size = omega arith; entry_type_of = b.1.1.1.0.0; algorithms = omega arith };
        taken = (refl, refl, refl, refl);
      })
  answered PrecertEntry ps q =
      let p : ℕ → Part = λ i. get_or ps i no_part in
      let b = numeric PrecertEntry ps q in
      subst (λ (x : List Part). Answered e w s (record { line = PrecertEntry; fields = x })) (all_parts PrecertEntry ps q)
      (record {
        answer = precert_entry (p 0) (p 1) (p 2) (p 3) (p 4) (p 5) (p 6);
        says = refl;
        given = numbers (p 2).value 0 (p 3).value 0;
        bytes = vectors [] (bytes_at s (p 4)) (bytes_at s (p 5)) (bytes_at s (p 6)) [] [];
        sized = record { timestamp = b.1.1.0; size = omega arith; entry_type_of = b.1.1.1.0.0; algorithms = omega arith };
        taken = (refl, refl, refl, refl, refl);
      })
  answered CertificateTimestamp ps q =
      let p : ℕ → Part = λ i. get_or ps i no_part in
      let b = numeric CertificateTimestamp ps q in
      subst (λ (x : List Part). Answered e w s (record { line = CertificateTimestamp; fields = x })) (all_parts CertificateTimestamp ps q)
      (record {
        answer = certificate_timestamp (p 0) (p 1) (p 2) (p 3) (p 4) (p 5);
        says = refl;
        given = numbers (p 2).value 0 0 (p 4).value;
        bytes = vectors (bytes_at s (p 1)) [] [] (bytes_at s (p 3)) (bytes_at s (p 5)) [];
        sized = record { timestamp = b.1.1.0; size = omega arith; entry_type_of = omega arith; algorithms = b.1.1.1.1.0 };
        taken = (refl, refl, refl, refl, refl);
      })
  answered TreeHead ps q =
      let p : ℕ → Part = λ i. get_or ps i no_part in
      let b = numeric TreeHead ps q in
      subst (λ (x : List Part). Answered e w s (record { line = TreeHead; fields = x })) (all_parts TreeHead ps q)
      (record {
        answer = tree_head (p 0) (p 1) (p 2) (p 3) (p 4);
        says = refl;
        given = numbers (p 2).value (p 3).value 0 0;
        bytes = vectors [] [] [] [] [] (bytes_at s (p 4));
        sized = record { timestamp = b.1.1.0; size = b.1.1.1.0; entry_type_of = omega arith; algorithms = omega arith };
        taken = (refl, refl, refl);
      })

  forth : (a : Checked Reading) → read_first e w s ≡ a → IsRead a → Encodes e w s
  forth (bad x y) q h = absurd h
  forth (good r) q h =
      let a = answered r.line r.fields (was_read e w s r q).fields in
      let g = written_again e w s (Ok a.answer) r a.given a.bytes bs a.says q a.taken in
      encodes e w a.given a.bytes r.line s a.sized g.0 g.1

-- the fields of a structure take their values
pub zero_takes : (m : ℕ) → fill (OneOf One 0 0) (uint 0) m ≡ good (be 1 0)
zero_takes m = ((one_of_judged One 0 0 0 [] m).0 (omega arith) (omega arith)).0

pub tree_hash_takes : (m : ℕ) → fill (OneOf One 1 1) (uint 1) m ≡ good (be 1 1)
tree_hash_takes m = ((one_of_judged One 1 1 1 [] m).0 (omega arith) (omega arith)).0

pub entry_takes : (k : ℕ) → k ≤ 1 → (m : ℕ) → fill (OneOf Two 0 1) (uint k) m ≡ good (be 2 k)
entry_takes k h m = ((one_of_judged Two 0 1 k [] m).0 (omega arith) h).0

pub hash_takes : (v : List ℕ) → length v ≡ 32 → (m : ℕ) → fill (Fixed 32) (bytes v) m ≡ good v
hash_takes v h m = ((fixed_as_is 32 v [] m).0 h).1

takes : (l : Line) (n : Numbers) (t : Vectors) → EntryIs l n.entry_type → Fits (structure_of l n t) → Each TakesIt (filled n t l)
unfolding wrap
takes X509Entry n t k (h₀, h₁, h₂) =
    (zero_takes, (zero_takes, ((λ m. refl), (entry_takes n.entry_type (omega arith), ((λ m. opaque_takes 3 1 16777215 t.certificate m h₁.0 (omega (arith, h₁.1))), ((λ m. opaque_takes 2 0 65535 t.extensions m (omega arith) (omega arith)), tt))))))
takes PrecertEntry n t k (h₀, h₁, h₂) =
    (zero_takes, (zero_takes, ((λ m. refl), (entry_takes n.entry_type (omega arith), (hash_takes t.issuer_key_hash h₁.0, ((λ m. opaque_takes 3 1 16777215 t.certificate m h₁.1 (omega (arith, h₁.2))), ((λ m. opaque_takes 2 0 65535 t.extensions m (omega arith) (omega arith)), tt)))))))
takes CertificateTimestamp n t k (h₀, h₁, h₂, h₃, h₄) =
    (zero_takes, (hash_takes t.log_id h₀, ((λ m. refl), ((λ m. opaque_takes 2 0 65535 t.extensions m (omega arith) (omega arith)), ((λ m. refl), ((λ m. opaque_takes 2 0 65535 t.signature m (omega arith) (omega arith)), tt))))))
takes TreeHead n t k (h₀, h₁, h₂) =
    (zero_takes, (tree_hash_takes, ((λ m. refl), ((λ m. refl), (hash_takes t.root_hash h₂, tt)))))

-- every structure in its ranges is what some line is filled with
pub record Shape (x : Structure) : Type 0 where
  pub line : Line
  pub given : Numbers
  pub bytes : Vectors
  pub sized : Sized given
  pub is : LineIs 1 (name_of x) given.entry_type line
  pub entry : EntryIs line given.entry_type
  pub same : structure_of line given bytes ≡ x
  pub written : write (filled given bytes line) 0 ≡ good (encoded x)

pub shaped : (l : Line) (n : Numbers) (t : Vectors) → EntryIs l n.entry_type → Fits (structure_of l n t) → write (filled n t l) 0 ≡ good (encoded (structure_of l n t))
shaped l n t k f = laid_write (filled n t l) 0 (takes l n t k f) ∙ ap good (laid_encoded l n t k)

pub small : (time size entry algorithms : ℕ) → time < 2 ^ 64 → size < 2 ^ 64 → entry < 2 ^ 16 → algorithms < 2 ^ 16 → Sized (numbers time size entry algorithms)
small time size entry algorithms a b c d = record { timestamp = a; size = b; entry_type_of = c; algorithms = d }

unfoldable pub shape : (x : Structure) → Fits x → Shape x
shape (leaf time (x509 c) x) f =
    let n = numbers time 0 0 0 in
    let t = vectors [] [] c x [] [] in
    record { line = X509Entry; given = n; bytes = t; sized = small time 0 0 0 f.0 (omega arith) (omega arith) (omega arith); is = is_x509 refl refl (λ z. omega arith); entry = refl; same = refl; written = shaped X509Entry n t refl f }
shape (leaf time (precert h c) x) f =
    let n = numbers time 0 1 0 in
    let t = vectors [] h c x [] [] in
    record { line = PrecertEntry; given = n; bytes = t; sized = small time 0 1 0 f.0 (omega arith) (omega arith) (omega arith); is = is_precert refl refl refl; entry = refl; same = refl; written = shaped PrecertEntry n t refl f }
shape (timestamp_of l time x a g) f =
    let n = numbers time 0 0 a in
    let t = vectors l [] [] x g [] in
    record { line = CertificateTimestamp; given = n; bytes = t; sized = small time 0 0 a f.1 (omega arith) (omega arith) f.3; is = is_timestamp refl refl; entry = tt; same = refl; written = shaped CertificateTimestamp n t tt f }
shape (head_of time m r) f =
    let n = numbers time m 0 0 in
    let t = vectors [] [] [] [] [] r in
    record { line = TreeHead; given = n; bytes = t; sized = small time m 0 0 f.0 f.1 (omega arith) (omega arith); is = is_head refl refl; entry = tt; same = refl; written = shaped TreeHead n t tt f }

pub read_is_encoded : ReadIsEncoded
read_is_encoded e w s bs = (forth e w s bs (read_first e w s) refl, back)
  where
    back : Encodes e w s → IsRead (read_first e w s)
    back h =
        let k = shape h.is h.fits in
        let r = (reads_back 1 (name_of h.is) (encoded h.is) k.given k.bytes k.line k.sized k.is k.written).reads in
        rw (h.edition, h.named, h.bytes, r) tt
