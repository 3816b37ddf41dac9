-- A version, leaf type, signature type or entry type that is not allowed. Assumes nothing.
use mathlib.Core.Path.{◌≡◌, refl, ap}
use mathlib.Core.List.{List, [], ◌∷◌, ◌++◌}
use Prim.Native.Nat.{ℕ, ◌+◌, ◌^◌, ◌≤◌, ◌<◌}
use native.Mathlib.Omega.{arith}
use lib.ListN.{length}
use borrow.Author.Tests.{le-ltb}
use Rattle.octets.specs.Limits.{most_item}
use Rattle.octets.specs.Numbers.{be}
use Rattle.octets.specs.declared.number.Width.TheVariants.{One, Two}
use Rattle.fields.specs.declared.layout.Field.{Field}
use Rattle.fields.specs.declared.layout.Field.TheVariants.{OneOf}
use Rattle.fields.specs.declared.layout.Part.{Part}
use Rattle.fields.specs.Checked.{Checked, bad, then, good}
use Rattle.fields.specs.Layout.{field, read}
use Rattle.fields.specs.Write.{uint, bytes, fill, Filled, write}
use Rattle.fields.proofs.Laid.{opaque_refuses, read_stops, read_goes, write_stops, write_goes}
use Rattle.fields.proofs.Vectors.{number_there, one_of_judged, fixed_as_is}
use Rattle.first.specs.declared.table.Line.{Line}
use Rattle.first.specs.declared.table.Line.TheVariants.{X509Entry, PrecertEntry, CertificateTimestamp, TreeHead}
use Rattle.first.specs.declared.writer.Numbers.{Numbers}
use Rattle.first.specs.Table.{version, leaf_type, entry_type_of, timestamp, certificate, layout_of}
use Rattle.first.specs.First.{structure, entry_at, read_first, Vectors, filled, write_first}
use Rattle.first.specs.Claims.{Named, FourThere, FiveThere}
use Rattle.first.proofs.Wholes.{LineIs, x509, precert, timestamp as is_timestamp, head as is_head, lines, is_line}
use Rattle.first.proofs.Encoding.{zero_takes, entry_takes, tree_hash_takes, hash_takes}

-- whatever line a name has, its fields refuse
refuses : (w : ℕ) (s : List ℕ) (y : ℕ) → length s ≤ most_item → Named 1 w → ((l : Line) → LineIs 1 w (entry_at s) l → read (layout_of l) s 0 ≡ bad 4 y) → read_first 1 w s ≡ bad 4 y
unfolding read_first
refuses w s y fit n h =
    rw (le-ltb _ _ fit)
    (lines 1 w (entry_at s) (λ a. then a (λ l. then (read (layout_of l) s 0) (structure l)) ≡ bad 4 y)
    (λ l i. ap (λ (x : Checked (List Part)). then x (structure l)) (h l i)) (λ u. absurd (u n)))

-- a byte that is not the one that is allowed, and one that is
other_byte : (x b : ℕ) (r : List ℕ) (at : ℕ) → b < 256 → (b ≡ x → ⊥) → field (OneOf One x x) (be 1 b ++ r) at ≡ bad 4 at
other_byte x b r at fit h = ((one_of_judged One x x b r at).1 (λ low high. h (omega arith))).1 fit

zero_byte : (r : List ℕ) (at : ℕ) → field (OneOf One 0 0) (be 1 0 ++ r) at ≡ good (record { start = at; len = 1; value = 0 })
zero_byte r at = ((one_of_judged One 0 0 0 r at).0 (omega arith) (omega arith)).1 (omega arith)

version_stops : (l : Line) (b : ℕ) (r : List ℕ) → b < 256 → (b ≡ 0 → ⊥) → read (layout_of l) (be 1 b ++ r) 0 ≡ bad 4 0
version_stops X509Entry b r fit h = read_stops version _ (be 1 b ++ r) 0 4 0 (other_byte 0 b r 0 fit h)
version_stops PrecertEntry b r fit h = read_stops version _ (be 1 b ++ r) 0 4 0 (other_byte 0 b r 0 fit h)
version_stops CertificateTimestamp b r fit h = read_stops version _ (be 1 b ++ r) 0 4 0 (other_byte 0 b r 0 fit h)
version_stops TreeHead b r fit h = read_stops version _ (be 1 b ++ r) 0 4 0 (other_byte 0 b r 0 fit h)

-- behind a version that is fine
type_stops : (fs : List Field) (x b : ℕ) (r : List ℕ) → b < 256 → (b ≡ x → ⊥) → read (version ∷ OneOf One x x ∷ fs) (be 1 0 ++ (be 1 b ++ r)) 0 ≡ bad 4 1
unfolding be
type_stops fs x b r fit h = read_goes version _ (be 1 0 ++ (be 1 b ++ r)) 0 4 1 _ (zero_byte (be 1 b ++ r) 0) (read_stops (OneOf One x x) fs (be 1 0 ++ (be 1 b ++ r)) 1 4 1 (other_byte x b r 1 fit h))

-- behind version, leaf type and timestamp
pub behind_three : (time : ℕ) (gs : List Field) (rest : List ℕ) (x y : ℕ) → time < 2 ^ 64 → read gs (be 1 0 ++ (be 1 0 ++ (be 8 time ++ rest))) 10 ≡ bad x y → read (version ∷ leaf_type ∷ timestamp ∷ gs) (be 1 0 ++ (be 1 0 ++ (be 8 time ++ rest))) 0 ≡ bad x y
unfolding be
behind_three time gs rest x y ht h =
    let s = be 1 0 ++ (be 1 0 ++ (be 8 time ++ rest)) in
    read_goes version _ s 0 x y _ (zero_byte (be 1 0 ++ (be 8 time ++ rest)) 0)
    (read_goes leaf_type _ s 1 x y _ (zero_byte (be 8 time ++ rest) 1)
    (read_goes timestamp gs s 2 x y _ (number_there 8 time rest 2 ht) h))

entry_stops : (fs : List Field) (time k : ℕ) (r : List ℕ) → time < 2 ^ 64 → 1 < k → k < 2 ^ 16 → read (version ∷ leaf_type ∷ timestamp ∷ entry_type_of ∷ fs) (be 1 0 ++ (be 1 0 ++ (be 8 time ++ (be 2 k ++ r)))) 0 ≡ bad 4 10
unfolding be
entry_stops fs time k r ht low fit =
    let s = be 1 0 ++ (be 1 0 ++ (be 8 time ++ (be 2 k ++ r))) in
    let e : field entry_type_of (be 2 k ++ r) 10 ≡ bad 4 10 = ((one_of_judged Two 0 1 k r 10).1 (λ u v. omega arith)).1 fit in
    behind_three time (entry_type_of ∷ fs) (be 2 k ++ r) 4 10 ht (read_stops entry_type_of fs s 10 4 10 e)

-- what the fields of a line refuse, the writer does
line_refuses : (w x y : ℕ) (l : Line) (n : Numbers) (t : Vectors) (out : List ℕ) → LineIs 1 w n.entry_type l → write (filled n t l) 0 ≡ bad x y → (write_first 1 w n t out).answer ≡ bad x y
unfolding write_first
line_refuses w x y l n t out i h = rw (is_line 1 w n.entry_type l i, h)

module _ (n : Numbers) (t : Vectors) (out : List ℕ) where
  -- behind version, leaf type and timestamp
  written_three : (fs : List Filled) (x y : ℕ) → write fs 10 ≡ bad x y → write (record { field = version; value = uint 0 } ∷ record { field = leaf_type; value = uint 0 } ∷ record { field = timestamp; value = uint n.timestamp } ∷ fs) 0 ≡ bad x y
  unfolding be
  written_three fs x y e =
      write_goes _ _ 0 x y (be 1 0) (zero_takes 0)
      (write_goes _ _ 1 x y (be 1 0) (zero_takes 1)
      (write_goes _ _ 2 x y (be 8 n.timestamp) refl e))

  entry_refused : 1 < n.entry_type → (write_first 1 1 n t out).answer ≡ bad 4 10
  unfolding be
  entry_refused low =
      line_refuses 1 4 10 X509Entry n t out (x509 refl refl (λ z. omega arith))
      (written_three _ 4 10 (write_stops _ _ 10 4 10 ((one_of_judged Two 0 1 n.entry_type [] 10).1 (λ u v. omega arith)).0))

  -- behind the entry type
  behind : (fs : List Filled) (k x y : ℕ) → k ≤ 1 → write fs 12 ≡ bad x y → write (record { field = version; value = uint 0 } ∷ record { field = leaf_type; value = uint 0 } ∷ record { field = timestamp; value = uint n.timestamp } ∷ record { field = entry_type_of; value = uint k } ∷ fs) 0 ≡ bad x y
  unfolding be
  behind fs k x y h e =
      written_three _ x y (write_goes _ _ 10 x y (be 2 k) (entry_takes k h 10) e)

  log_refused : (length t.log_id ≡ 32 → ⊥) → (write_first 1 2 n t out).answer ≡ bad 5 1
  unfolding be
  log_refused h =
      line_refuses 2 5 1 CertificateTimestamp n t out (is_timestamp refl refl)
      (write_goes _ _ 0 5 1 (be 1 0) (zero_takes 0) (write_stops _ _ 1 5 1 ((fixed_as_is 32 t.log_id [] 1).1 h)))

  root_refused : (length t.root_hash ≡ 32 → ⊥) → (write_first 1 3 n t out).answer ≡ bad 5 18
  unfolding be
  root_refused h =
      line_refuses 3 5 18 TreeHead n t out (is_head refl refl)
      (write_goes _ _ 0 5 18 (be 1 0) (zero_takes 0)
      (write_goes _ _ 1 5 18 (be 1 1) (tree_hash_takes 1)
      (write_goes _ _ 2 5 18 (be 8 n.timestamp) refl
      (write_goes _ _ 10 5 18 (be 8 n.size) refl
      (write_stops _ _ 18 5 18 ((fixed_as_is 32 t.root_hash [] 18).1 h))))))

  issuer_refused : n.entry_type ≡ 1 → (length t.issuer_key_hash ≡ 32 → ⊥) → (write_first 1 1 n t out).answer ≡ bad 5 12
  issuer_refused k h =
      line_refuses 1 5 12 PrecertEntry n t out (precert refl refl k)
      (behind _ n.entry_type 5 12 (omega arith) (write_stops _ _ 12 5 12 ((fixed_as_is 32 t.issuer_key_hash [] 12).1 h)))

  module _ (h : 1 ≤ length t.certificate → length t.certificate < 2 ^ 24 → ⊥) where
    out_of_range : (m : ℕ) → fill certificate (bytes t.certificate) m ≡ bad 5 m
    out_of_range m = opaque_refuses 3 1 16777215 t.certificate m (λ u v. h u (omega arith))

    certificate_refused : n.entry_type ≡ 0 → (write_first 1 1 n t out).answer ≡ bad 5 12
    certificate_refused k =
        line_refuses 1 5 12 X509Entry n t out (x509 refl refl (λ z. omega arith))
        (behind _ n.entry_type 5 12 (omega arith) (write_stops _ _ 12 5 12 (out_of_range 12)))

    tbs_refused : n.entry_type ≡ 1 → length t.issuer_key_hash ≡ 32 → (write_first 1 1 n t out).answer ≡ bad 5 44
    tbs_refused k i =
        let l : 12 + length t.issuer_key_hash ≡ 44 = omega arith in
        line_refuses 1 5 44 PrecertEntry n t out (precert refl refl k)
        (behind _ n.entry_type 5 44 (omega arith)
        (write_goes _ _ 12 5 44 t.issuer_key_hash (hash_takes t.issuer_key_hash i 12) (rw l (write_stops _ _ 44 5 44 (out_of_range 44)))))

pub five_there : FiveThere
five_there n t out =
    (log_refused n t out, root_refused n t out, issuer_refused n t out, (λ h. (certificate_refused n t out h, tbs_refused n t out h)))

pub four_there : FourThere
four_there w b r n fit = (
  (λ l h. refuses w (be 1 b ++ r) 0 l n (λ m i. version_stops m b r fit h)),
  (λ l h. refuses 1 (be 1 0 ++ (be 1 b ++ r)) 1 l (refl, omega arith, omega arith) (leaf h)),
  (λ l h. refuses 3 (be 1 0 ++ (be 1 b ++ r)) 1 l (refl, omega arith, omega arith) (head h)),
  (λ time k l ht low high. refuses 1 (be 1 0 ++ (be 1 0 ++ (be 8 time ++ (be 2 k ++ r)))) 10 l (refl, omega arith, omega arith) (entry time k ht low high)),
  entry_refused,
)
  where
    leaf : (b ≡ 0 → ⊥) → (l : Line) → LineIs 1 1 (entry_at (be 1 0 ++ (be 1 b ++ r))) l → read (layout_of l) (be 1 0 ++ (be 1 b ++ r)) 0 ≡ bad 4 1
    leaf h X509Entry i = type_stops _ 0 b r fit h
    leaf h PrecertEntry i = type_stops _ 0 b r fit h
    leaf h CertificateTimestamp (is_timestamp x y) = absurd (omega arith)
    leaf h TreeHead (is_head x y) = absurd (omega arith)

    head : (b ≡ 1 → ⊥) → (l : Line) → LineIs 1 3 (entry_at (be 1 0 ++ (be 1 b ++ r))) l → read (layout_of l) (be 1 0 ++ (be 1 b ++ r)) 0 ≡ bad 4 1
    head h X509Entry (x509 x y z) = absurd (omega arith)
    head h PrecertEntry (precert x y z) = absurd (omega arith)
    head h CertificateTimestamp (is_timestamp x y) = absurd (omega arith)
    head h TreeHead i = type_stops _ 1 b r fit h

    entry : (time k : ℕ) → time < 2 ^ 64 → 1 < k → k < 2 ^ 16 → (l : Line) → LineIs 1 1 (entry_at (be 1 0 ++ (be 1 0 ++ (be 8 time ++ (be 2 k ++ r))))) l → read (layout_of l) (be 1 0 ++ (be 1 0 ++ (be 8 time ++ (be 2 k ++ r)))) 0 ≡ bad 4 10
    entry time k ht low high X509Entry i = entry_stops _ time k r ht low high
    entry time k ht low high PrecertEntry i = entry_stops _ time k r ht low high
    entry time k ht low high CertificateTimestamp (is_timestamp x y) = absurd (omega arith)
    entry time k ht low high TreeHead (is_head x y) = absurd (omega arith)
