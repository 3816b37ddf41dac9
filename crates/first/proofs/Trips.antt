-- Both round trips of whole structures, from the laws over any layout. Assumes nothing.
use mathlib.Core.Path.{◌≡◌, refl, ap, sym, subst, ◌∙◌}
use mathlib.Core.List.{List, [], ◌∷◌}
use Prim.Native.Nat.{ℕ, ◌≤◌}
use native.Mathlib.Omega.{arith}
use lib.ListN.{length, get_or, take, drop}
use lib.Seq.{take_at}
use borrow.Author.Tests.{le-ltb}
use Rattle.octets.specs.Bytes.{Bytes}
use Rattle.octets.specs.Limits.{most_item}
use Rattle.std.specs.Prelude.{Result, Ok, Err}
use Rattle.octets.specs.Refusals.{refusal_number}
use Rattle.fields.specs.declared.layout.RefusedAt.{RefusedAt}
use Rattle.fields.specs.declared.layout.Part.{Part}
use Rattle.fields.specs.declared.layout.Field.{Field}
use Rattle.fields.specs.declared.layout.Field.TheVariants.{OneOf}
use Rattle.octets.specs.declared.number.Width.TheVariants.{One}
use Rattle.fields.specs.Checked.{Checked, good, bad, then}
use Rattle.fields.specs.Layout.{read}
use Rattle.fields.specs.Write.{number_in, bytes_in, unwrap, Filled, write, opened, values}
use Rattle.fields.specs.Effect.{wrote}
use Rattle.fields.specs.Claims.{Typed, AllTyped, no_fields, one_field, layout, Each}
use Rattle.fields.specs.Answers.{no_part}
use Rattle.fields.proofs.Answers.{bad_good, good_bad, same_good}
use Rattle.fields.proofs.Filling.{nothing}
use Rattle.fields.proofs.Lent.{was_put}
use Rattle.fields.proofs.Laid.{allowed_within, is_number, one_of_number, read_head}
use Rattle.fields.proofs.Reaching.{most_all, write_short}
use Rattle.fields.proofs.Resuming.{all_firsts}
use Rattle.fields.proofs.Rounds.{write_again, read_back}
use Rattle.fields.proofs.Within.{read_count}
use Rattle.first.specs.declared.table.Line.{Line}
use Rattle.first.specs.declared.table.Line.TheVariants.{X509Entry, PrecertEntry, CertificateTimestamp, TreeHead}
use Rattle.first.specs.declared.reader.First.{First}
use Rattle.first.specs.declared.reader.First.TheVariants.{X509Entry as x509_entry, PrecertEntry as precert_entry}
use Rattle.first.specs.declared.reader.First.TheVariants.{CertificateTimestamp as certificate_timestamp, TreeHead as tree_head}
use Rattle.first.specs.declared.writer.Numbers.{Numbers}
use Rattle.first.specs.Table.{version, leaf_type, entry_type_of, timestamp, layout_of, line_of}
use Rattle.first.specs.First.{Reading, reading, entry_at, read_first, Vectors, filled, write_first}
use Rattle.first.specs.Claims.{Taken, ReadThenWritten, Sized, WrittenThenRead}
use Rattle.first.proofs.Lines.{most_small}
use Rattle.first.proofs.Wholes.{LineIs, timestamp as is_timestamp, head as is_head, lines, is_line, WasRead, was_read, reads}

-- a version that was read is 0
pub version_read : (fs : List Field) (s : List ℕ) (a : Part) (ps : List Part) → read (version ∷ fs) s 0 ≡ good (a ∷ ps) → (a.value ≡ 0) × (read fs s 1 ≡ good ps)
version_read fs s a ps e =
    let h = read_head version fs s 0 a ps e in
    let n = one_of_number 1 0 0 s 0 a h.0 in
    (omega (arith, (allowed_within 0 0 a.value n.1).1), rw n.0.end at h.1)

-- the type behind it has the one value that is allowed
pub type_read : (fs : List Field) (s : List ℕ) (x : ℕ) (b : Part) (ps : List Part) → read (OneOf One x x ∷ fs) s 1 ≡ good (b ∷ ps) → (b.value ≡ x) × (read fs s 2 ≡ good ps)
type_read fs s x b ps e =
    let h = read_head (OneOf One x x) fs s 1 b ps e in
    let n = one_of_number 1 x x s 1 b h.0 in
    let a = allowed_within x x b.value n.1 in
    (omega (arith, a.0, a.1), rw n.0.end at h.1)

-- of a leaf, the entry type is the number that stands in its bytes
pub leaf_read : (fs : List Field) (s : List ℕ) (a b c d : Part) (ps : List Part) → read (version ∷ leaf_type ∷ timestamp ∷ entry_type_of ∷ fs) s 0 ≡ good (a ∷ b ∷ c ∷ d ∷ ps) → (a.value ≡ 0) × (b.value ≡ 0) × (d.value ≡ entry_at s)
leaf_read fs s a b c d ps e =
    let v = version_read _ s a _ e in
    let t = type_read _ s 0 b _ v.1 in
    let h = read_head timestamp _ s 2 c _ t.1 in
    let g = read_head entry_type_of fs s 10 d ps (rw (is_number 8 s 2 c h.0).end at h.1) in
    (v.0, t.0, (one_of_number 2 0 1 s 10 d g.0).0.is)

-- what was taken of an answer is what the line's fields were found to be, and names the same line
abbrev Given : ℕ → ℕ → List ℕ → Numbers → Vectors → Reading → Type 0
Given e w s n t r = (filled n t r.line ≡ values (layout_of r.line) r.fields s) × LineIs e w n.entry_type r.line

taken_filled : (e w : ℕ) (s : List ℕ) (i : Result First RefusedAt) (r : Reading) (n : Numbers) (t : Vectors) → reading i ≡ good r → WasRead e w s r → Taken s i n t → Given e w s n t r
unfolding values opened unwrap
taken_filled e w s i r n t q h k = go i q k
  where
    is : (r' : Reading) → good r' ≡ good r → (WasRead e w s r' → Given e w s n t r') → Given e w s n t r
    is r' q f = let z = same_good r' r q in subst (Given e w s n t) z (f (subst (WasRead e w s) (sym z) h))

    go : (i : Result First RefusedAt) → reading i ≡ good r → Taken s i n t → Given e w s n t r
    go (Err u) q k = absurd k
    go (Ok (x509_entry a b c d f g)) q (h₀, h₁, h₂, h₃) =
        is _ q (λ u. let l = leaf_read _ s a b c d _ u.fields in (rw (l.0, l.1, h₀, h₁, h₂, h₃), subst (λ (j : ℕ). LineIs e w j X509Entry) (sym (h₁ ∙ l.2)) u.line))
    go (Ok (precert_entry a b c d f g j)) q (h₀, h₁, h₂, h₃, h₄) =
        is _ q (λ u. let l = leaf_read _ s a b c d _ u.fields in (rw (l.0, l.1, h₀, h₁, h₂, h₃, h₄), subst (λ (j : ℕ). LineIs e w j PrecertEntry) (sym (h₁ ∙ l.2)) u.line))
    go (Ok (certificate_timestamp a b c d f g)) q (h₀, h₁, h₂, h₃, h₄) =
        is _ q (λ u. let v = version_read _ s a _ u.fields in (rw (v.0, h₀, h₁, h₂, h₃, h₄), other u.line))
      where
        other : LineIs e w (entry_at s) CertificateTimestamp → LineIs e w n.entry_type CertificateTimestamp
        other (is_timestamp x y) = is_timestamp x y
    go (Ok (tree_head a b c d f)) q (h₀, h₁, h₂) =
        is _ q (λ u. let v = version_read _ s a _ u.fields in let y = type_read _ s 1 b _ v.1 in (rw (v.0, y.0, h₀, h₁, h₂), other u.line))
      where
        other : LineIs e w (entry_at s) TreeHead → LineIs e w n.entry_type TreeHead
        other (is_head x y) = is_head x y

-- what is read, written again, is the same bytes
pub written_again : (e w : ℕ) (s : List ℕ) (i : Result First RefusedAt) (r : Reading) (n : Numbers) (t : Vectors) → Bytes s → reading i ≡ good r → read_first e w s ≡ good r → Taken s i n t → LineIs e w n.entry_type r.line × (write (filled n t r.line) 0 ≡ good s)
written_again e w s i r n t bs q d k =
    let h = was_read e w s r d in
    let g = taken_filled e w s i r n t q h k in
    (g.1, ap (λ (l : List Filled). write l 0) g.0 ∙ write_again (layout_of r.line) s 0 r.fields bs (omega arith) h.fields)

pub read_then_written : ReadThenWritten
unfolding write_first
read_then_written e w s out i n t bs d k fit = go (reading i) refl d
  where
    go : (a : Checked Reading) → reading i ≡ a → a ≡ read_first e w s → write_first e w n t out ≡ wrote s out
    go (good r) ha d =
        let g = written_again e w s i r n t bs ha (sym d) k in
        rw (is_line e w n.entry_type r.line g.0, g.1, le-ltb _ _ fit)
    go (bad x y) ha d = absurd (not_taken i ha k)
      where
        not_taken : (i : Result First RefusedAt) → reading i ≡ bad x y → Taken s i n t → ⊥
        not_taken (Err u) e k = k
        not_taken (Ok (x509_entry a b c d f g)) e k = good_bad x y _ e
        not_taken (Ok (precert_entry a b c d f g j)) e k = good_bad x y _ e
        not_taken (Ok (certificate_timestamp a b c d f g)) e k = good_bad x y _ e
        not_taken (Ok (tree_head a b c d f)) e k = good_bad x y _ e

-- every field of a line can hold what the writer is given for it
pub all_typed : (fs : List Filled) → Each (λ (f : Filled). Typed f.field f.value) fs → AllTyped fs
all_typed [] h = no_fields
all_typed (f ∷ fs) h = one_field h.0 (all_typed fs h.1)

pub typed : (n : Numbers) (t : Vectors) → Sized n → (l : Line) → AllTyped (filled n t l)
typed n t z X509Entry =
    all_typed (filled n t X509Entry) (omega arith, (omega arith, (z.timestamp, (z.entry_type_of, (omega arith, (omega arith, tt))))))
typed n t z PrecertEntry =
    all_typed (filled n t PrecertEntry) (omega arith, (omega arith, (z.timestamp, (z.entry_type_of, (tt, (omega arith, (omega arith, tt)))))))
typed n t z CertificateTimestamp =
    all_typed (filled n t CertificateTimestamp) (omega arith, (tt, (z.timestamp, (omega arith, (z.algorithms, (omega arith, tt))))))
typed n t z TreeHead = all_typed (filled n t TreeHead) (omega arith, (omega arith, (z.timestamp, (z.size, (tt, tt)))))

pub filled_layout : (n : Numbers) (t : Vectors) (l : Line) → layout (filled n t l) ≡ layout_of l
filled_layout n t X509Entry = refl
filled_layout n t PrecertEntry = refl
filled_layout n t CertificateTimestamp = refl
filled_layout n t TreeHead = refl

number : ℕ → List Filled → ℕ
number j l = number_in (get_or l j nothing).value

vector : ℕ → List Filled → List ℕ
vector j l = bytes_in (get_or l j nothing).value

-- a leaf's line is chosen by the bytes as it was by the number that they were written from
same_line : (e w : ℕ) (b : List ℕ) (n : Numbers) (t : Vectors) (l : Line) (ps : List Part) → read (layout_of l) b 0 ≡ good ps → values (layout_of l) ps b ≡ filled n t l → LineIs e w n.entry_type l → LineIs e w (entry_at b) l
unfolding values opened number
same_line e w b n t X509Entry ps r v i =
    let z = all_firsts 6 ps (read_count (layout_of X509Entry) b 0 ps r) in
    let l = leaf_read _ b (get_or ps 0 no_part) (get_or ps 1 no_part) (get_or ps 2 no_part) (get_or ps 3 no_part) _ (subst (λ (q : List Part). read (layout_of X509Entry) b 0 ≡ good q) (sym z) r) in
    let k = ap (number 3) (subst (λ (q : List Part). values (layout_of X509Entry) q b ≡ filled n t X509Entry) (sym z) v) in
    subst (λ (j : ℕ). LineIs e w j X509Entry) (sym k ∙ l.2) i
same_line e w b n t PrecertEntry ps r v i =
    let z = all_firsts 7 ps (read_count (layout_of PrecertEntry) b 0 ps r) in
    let l = leaf_read _ b (get_or ps 0 no_part) (get_or ps 1 no_part) (get_or ps 2 no_part) (get_or ps 3 no_part) _ (subst (λ (q : List Part). read (layout_of PrecertEntry) b 0 ≡ good q) (sym z) r) in
    let k = ap (number 3) (subst (λ (q : List Part). values (layout_of PrecertEntry) q b ≡ filled n t PrecertEntry) (sym z) v) in
    subst (λ (j : ℕ). LineIs e w j PrecertEntry) (sym k ∙ l.2) i
same_line e w b n t CertificateTimestamp ps r v (is_timestamp x y) = is_timestamp x y
same_line e w b n t TreeHead ps r v (is_head x y) = is_head x y

-- what was written is read
pub record ReadsBack (e w : ℕ) (b : List ℕ) (n : Numbers) (t : Vectors) (l : Line) : Type 0 where
  pub parts : List Part
  pub reads : read_first e w b ≡ good (record { line = l; fields = parts })
  pub same : values (layout_of l) parts b ≡ filled n t l

pub reads_back : (e w : ℕ) (b : List ℕ) (n : Numbers) (t : Vectors) (l : Line) → Sized n → LineIs e w n.entry_type l → write (filled n t l) 0 ≡ good b → ReadsBack e w b n t l
reads_back e w b n t l z i q =
    let y = filled_layout n t l in
    let k = read_back (filled n t l) [] b (typed n t z l) q in
    let r : read (layout_of l) b 0 ≡ good k.parts = rw y at k.read in
    let v : values (layout_of l) k.parts b ≡ filled n t l = rw y at k.same in
    let short : length b ≤ most_item = omega (arith, write_short (filled n t l) 0 b q, ap most_all y, most_small l) in
    record { parts = k.parts; reads = reads e w b l short (same_line e w b n t l k.parts r v i) ∙ rw r; same = v }

-- a structure that was written
pub record WasWritten (e w : ℕ) (n : Numbers) (t : Vectors) (out : List ℕ) (m : ℕ) : Type 0 where
  pub line : Line
  pub is : LineIs e w n.entry_type line
  pub body : List ℕ
  pub fields : write (filled n t line) 0 ≡ good body
  pub bytes : take m (write_first e w n t out).bytes ≡ body

pub was_written : (e w : ℕ) (n : Numbers) (t : Vectors) (out : List ℕ) (m : ℕ) → (write_first e w n t out).answer ≡ good m → WasWritten e w n t out m
unfolding write_first
was_written e w n t out m q =
    let p = was_put (then (line_of e w n.entry_type) (λ l. write (filled n t l) 0)) out m q in
    let s : take m (write_first e w n t out).bytes ≡ p.bytes = ap (take m) p.after ∙ take_at p.bytes (drop m out) m (sym p.size) in
    lines e w n.entry_type (λ a. then a (λ l. write (filled n t l) 0) ≡ good p.bytes → WasWritten e w n t out m)
    (λ l i f. record { line = l; is = i; body = p.bytes; fields = f; bytes = s })
    (λ u f. bad_good 4 0 p.bytes f) p.is

-- what is found of a structure's fields is what a caller takes
taken_back : (s : List ℕ) (i : Result First RefusedAt) (r : Reading) (n : Numbers) (t : Vectors) → reading i ≡ good r → values (layout_of r.line) r.fields s ≡ filled n t r.line → Taken s i n t
unfolding values opened unwrap number vector
taken_back s i r n t q v = go i q
  where
    is : (r' : Reading) → good r' ≡ good r → filled n t r'.line ≡ values (layout_of r'.line) r'.fields s
    is r' q = subst (λ (x : Reading). filled n t x.line ≡ values (layout_of x.line) x.fields s) (sym (same_good r' r q)) (sym v)

    go : (i : Result First RefusedAt) → reading i ≡ good r → Taken s i n t
    go (Err u) q = bad_good (refusal_number u.refusal) u.place r q
    go (Ok (x509_entry a b c d f g)) q = let h = is _ q in (ap (number 2) h, ap (number 3) h, ap (vector 4) h, ap (vector 5) h)
    go (Ok (precert_entry a b c d f g j)) q = let h = is _ q in (ap (number 2) h, ap (number 3) h, ap (vector 4) h, ap (vector 5) h, ap (vector 6) h)
    go (Ok (certificate_timestamp a b c d f g)) q = let h = is _ q in (ap (vector 1) h, ap (number 2) h, ap (vector 3) h, ap (number 4) h, ap (vector 5) h)
    go (Ok (tree_head a b c d f)) q = let h = is _ q in (ap (number 2) h, ap (number 3) h, ap (vector 4) h)

pub written_then_read : WrittenThenRead
written_then_read e w n t out m i z q d =
    let h = was_written e w n t out m q in
    let k = reads_back e w h.body n t h.line z h.is h.fields in
    subst (λ (s : List ℕ). Taken s i n t) (sym h.bytes) (taken_back h.body i _ n t (d ∙ ap (read_first e w) h.bytes ∙ k.reads) k.same)
