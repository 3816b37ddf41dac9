-- What the reader's answer says of the bytes, and where a structure is refused that is cut or has bytes behind it. Assumes nothing.
use mathlib.Core.Path.{◌≡◌, refl, ap, sym, ◌∙◌}
use mathlib.Core.Logic.{⊎_elim}
use mathlib.Core.List.{List, [], ◌∷◌, ◌++◌, append-nil}
use mathlib.Core.Bool.{Bool, true, false, cond}
use Prim.Native.Nat.{ℕ, ◌+◌, ◌-◌, ◌^◌, ◌≤◌, ◌<◌}
use native.Mathlib.Omega.{arith}
use native.Mathlib.Nat.{zero-add}
use lib.ListN.{length, take, drop, length-append}
use lib.Dec.{ltb}
use lib.Seq.{drop_at, take-append-le, take-append-add, length-take-le}
use borrow.Author.Tests.{le-ltb, ltb-false}
use Rattle.octets.specs.Bytes.{joined}
use Rattle.octets.specs.Limits.{most_item}
use Rattle.octets.specs.declared.number.Width.TheVariants.{Two}
use Rattle.octets.specs.Numbers.{be}
use Rattle.octets.proofs.Numbers.{unbe_be}
use Rattle.octets.proofs.Order.{lt_or_ge}
use Rattle.std.specs.Prelude.{Result, Ok, Err}
use Rattle.fields.specs.declared.layout.RefusedAt.{RefusedAt}
use Rattle.fields.specs.declared.layout.Part.{Part}
use Rattle.fields.specs.declared.layout.Inner.TheVariants.{Opaque}
use Rattle.fields.specs.declared.layout.Field.{Field}
use Rattle.fields.specs.Checked.{Checked, good, bad, then}
use Rattle.fields.specs.Layout.{field, read, bytes_at}
use Rattle.fields.specs.Write.{uint, wrap, Filled, write}
use Rattle.fields.specs.Claims.{layout, start_of, pieces}
use Rattle.fields.proofs.Cutting as Cutting
use Rattle.fields.proofs.Laid.{laid_write, read_in_a_row, read_stops, read_goes}
use Rattle.fields.proofs.Vectors.{vector_there, one_of_judged, fixed_as_is}
use Rattle.fields.proofs.Reaching.{most_all, write_short}
use Rattle.first.specs.declared.table.Line.{Line}
use Rattle.first.specs.declared.table.Line.TheVariants.{X509Entry, PrecertEntry, CertificateTimestamp, TreeHead}
use Rattle.first.specs.declared.reader.First.{First}
use Rattle.first.specs.declared.reader.First.TheVariants.{X509Entry as x509_entry, PrecertEntry as precert_entry}
use Rattle.first.specs.declared.reader.First.TheVariants.{CertificateTimestamp as certificate_timestamp, TreeHead as tree_head}
use Rattle.first.specs.declared.writer.Numbers.{Numbers}
use Rattle.first.specs.Structures.{Structure, leaf, certificate_timestamp as timestamp_of, tree_head as head_of, x509, precert, opaque, field_bytes, encoded, Fits, name_of}
use Rattle.first.specs.Table.{version, leaf_type, entry_type_of, timestamp, hash, certificate, extensions, layout_of}
use Rattle.first.specs.First.{structure, reading, entry_at, read_first, Vectors, vectors, filled}
use Rattle.first.specs.Claims.{ByHand, CutThere, OverThere, Says, ReadSays, FiveRead}
use Rattle.first.proofs.Lines.{most_small}
use Rattle.first.proofs.Wholes.{LineIs, x509 as is_x509, precert as is_precert, timestamp as is_timestamp, head as is_head, lines, reads, was_read}
use Rattle.first.proofs.Trips.{leaf_read, version_read, type_read, written_again, all_typed, typed, filled_layout}
use Rattle.first.proofs.Refusals.{behind_three}
use Rattle.first.proofs.Encoding.{structure_of, EntryIs, numbers, entry_is, line_encoded, Shape, shape, zero_takes, entry_takes}

-- some structures, computed
pub by_hand : ByHand
unfolding joined be
by_hand = (refl, refl, refl, refl)

-- what the answer says
pub read_says : ReadSays
read_says e w s i bs q = go i q
  where
    go : (i : Result First RefusedAt) → reading i ≡ read_first e w s → Says s i
    go (Err u) q = tt
    go (Ok (x509_entry a b c d f g)) q =
        let u = (was_read e w s _ (sym q)).fields in
        let l = leaf_read _ s a b c d _ u in
        let r = read_in_a_row (layout_of X509Entry) s 0 _ (omega arith) u in
        let n = numbers c.value 0 d.value 0 in
        let t = vectors [] [] (bytes_at s f) (bytes_at s g) [] [] in
        let h = written_again e w s (Ok (x509_entry a b c d f g)) _ n t bs refl (sym q) (refl, refl, refl, refl) in
        let k = entry_is e w n t X509Entry s h.0 h.1 in
        let c₁ : c.start ≡ 2 = omega (arith, r.0, r.1, r.2.0, r.2.1, r.2.2.0) in
        let d₁ : d.start ≡ 10 = omega (arith, r.2.2.1, r.2.2.2.0) in
        let f₁ : f.start ≡ 15 = omega (arith, r.2.2.2.1, r.2.2.2.2.0) in
        let g₁ : g.start ≡ 17 + f.len = omega (arith, r.2.2.2.2.2.0) in (
          line_encoded e w n t X509Entry s h.0 h.1,
          (r.0, r.1),
          l.0,
          (omega (arith, r.0, r.1, r.2.0), r.2.1),
          l.1,
          (c₁, r.2.2.1),
          (d₁, r.2.2.2.1),
          k,
          f₁,
          g₁,
        )
    go (Ok (precert_entry a b c d f g j)) q =
        let u = (was_read e w s _ (sym q)).fields in
        let l = leaf_read _ s a b c d _ u in
        let r = read_in_a_row (layout_of PrecertEntry) s 0 _ (omega arith) u in
        let n = numbers c.value 0 d.value 0 in
        let t = vectors [] (bytes_at s f) (bytes_at s g) (bytes_at s j) [] [] in
        let h = written_again e w s (Ok (precert_entry a b c d f g j)) _ n t bs refl (sym q) (refl, refl, refl, refl, refl) in
        let k = entry_is e w n t PrecertEntry s h.0 h.1 in
        let c₁ : c.start ≡ 2 = omega (arith, r.0, r.1, r.2.0, r.2.1, r.2.2.0) in
        let d₁ : d.start ≡ 10 = omega (arith, r.2.2.1, r.2.2.2.0) in
        let f₁ : f.start ≡ 12 = omega (arith, r.2.2.2.1, r.2.2.2.2.0) in
        let g₁ : g.start ≡ 47 = omega (arith, r.2.2.2.2.1, r.2.2.2.2.2.0) in
        let j₁ : j.start ≡ 49 + g.len = omega (arith, r.2.2.2.2.2.2.0) in (
          line_encoded e w n t PrecertEntry s h.0 h.1,
          (r.0, r.1),
          l.0,
          (omega (arith, r.0, r.1, r.2.0), r.2.1),
          l.1,
          (c₁, r.2.2.1),
          (d₁, r.2.2.2.1),
          k,
          (f₁, r.2.2.2.2.1),
          g₁,
          j₁,
        )
    go (Ok (certificate_timestamp a b c d f g)) q =
        let u = (was_read e w s _ (sym q)).fields in
        let v = version_read _ s a _ u in
        let r = read_in_a_row (layout_of CertificateTimestamp) s 0 _ (omega arith) u in
        let n = numbers c.value 0 0 f.value in
        let t = vectors (bytes_at s b) [] [] (bytes_at s d) (bytes_at s g) [] in
        let h = written_again e w s (Ok (certificate_timestamp a b c d f g)) _ n t bs refl (sym q) (refl, refl, refl, refl, refl) in
        let b₁ : b.start ≡ 1 = omega (arith, r.0, r.1, r.2.0) in
        let c₁ : c.start ≡ 33 = omega (arith, r.2.1, r.2.2.0) in
        let d₁ : d.start ≡ 43 = omega (arith, r.2.2.1, r.2.2.2.0) in
        let f₁ : f.start ≡ 43 + d.len = omega (arith, r.2.2.2.2.0) in
        let g₁ : g.start ≡ 47 + d.len = omega (arith, r.2.2.2.2.1, r.2.2.2.2.2.0) in (
          line_encoded e w n t CertificateTimestamp s h.0 h.1,
          (r.0, r.1),
          v.0,
          (b₁, r.2.1),
          (c₁, r.2.2.1),
          d₁,
          (f₁, r.2.2.2.2.1),
          g₁,
        )
    go (Ok (tree_head a b c d f)) q =
        let u = (was_read e w s _ (sym q)).fields in
        let v = version_read _ s a _ u in
        let y = type_read _ s 1 b _ v.1 in
        let r = read_in_a_row (layout_of TreeHead) s 0 _ (omega arith) u in
        let n = numbers c.value d.value 0 0 in
        let t = vectors [] [] [] [] [] (bytes_at s f) in
        let h = written_again e w s (Ok (tree_head a b c d f)) _ n t bs refl (sym q) (refl, refl, refl) in
        let b₁ : b.start ≡ 1 = omega (arith, r.0, r.1, r.2.0) in
        let c₁ : c.start ≡ 2 = omega (arith, r.2.1, r.2.2.0) in
        let d₁ : d.start ≡ 10 = omega (arith, r.2.2.1, r.2.2.2.0) in
        let f₁ : f.start ≡ 18 = omega (arith, r.2.2.2.1, r.2.2.2.2.0) in (
          line_encoded e w n t TreeHead s h.0 h.1,
          (r.0, r.1),
          v.0,
          (b₁, r.2.1),
          y.0,
          (c₁, r.2.2.1),
          (d₁, r.2.2.2.1),
          (f₁, r.2.2.2.2.1),
        )

-- a line's fields, as they are laid out, are the structure's
pieces_are : (l : Line) (n : Numbers) (t : Vectors) → EntryIs l n.entry_type → pieces (filled n t l) ≡ field_bytes (structure_of l n t)
unfolding wrap
pieces_are X509Entry n t e = rw e
pieces_are PrecertEntry n t e = rw e
pieces_are CertificateTimestamp n t e = refl
pieces_are TreeHead n t e = refl

-- a leaf's first four fields, and the number that stands at the fourth
module _ (time j : ℕ) where
  abbrev header : List ℕ
  header = be 1 0 ++ (be 1 0 ++ (be 8 time ++ be 2 j))

  entry_there : (rest : List ℕ) → j < 2 ^ 16 → entry_at (be 1 0 ++ (be 1 0 ++ (be 8 time ++ (be 2 j ++ rest)))) ≡ j
  unfolding be
  entry_there rest h = unbe_be 2 j h

  cut_behind : (rest : List ℕ) (k : ℕ) → 12 ≤ k → take k (be 1 0 ++ (be 1 0 ++ (be 8 time ++ (be 2 j ++ rest)))) ≡ be 1 0 ++ (be 1 0 ++ (be 8 time ++ (be 2 j ++ take (k - 12) rest)))
  unfolding be
  cut_behind rest k h = let z : 12 + (k - 12) ≡ k = omega arith in ap (λ (i : ℕ). take i (header ++ rest)) (sym z) ∙ take-append-add header rest (k - 12)

  abbrev four : List Filled
  four = record { field = version; value = uint 0 } ∷ record { field = leaf_type; value = uint 0 } ∷ record { field = timestamp; value = uint time } ∷ record { field = entry_type_of; value = uint j } ∷ []

  module _ (small : time < 2 ^ 64) (one : j ≤ 1) where
    cut_within : (gs : List Field) (rest : List ℕ) (k : ℕ) → k < 12 → read (version ∷ leaf_type ∷ timestamp ∷ entry_type_of ∷ gs) (take k (be 1 0 ++ (be 1 0 ++ (be 8 time ++ (be 2 j ++ rest))))) 0 ≡ bad 2 (start_of (be 1 0 ∷ be 1 0 ∷ be 8 time ∷ be 2 j ∷ []) k)
    unfolding be
    cut_within gs rest k h =
        let w : write four 0 ≡ good header = laid_write four 0 (zero_takes, (zero_takes, ((λ m. refl), (entry_takes j one, tt)))) in
        let t = all_typed four (omega arith, (omega arith, (small, (omega arith, tt)))) in
        let p : take k (header ++ rest) ≡ take k header = take-append-le k header rest (omega arith) in
        let c = Cutting.cut_there four gs [] header k t w h in
        ap (λ (x : List ℕ). read (version ∷ leaf_type ∷ timestamp ∷ entry_type_of ∷ gs) x 0) p ∙ c ∙ ap (bad 2) (zero-add (start_of (pieces four) k))

-- where the piece starts that holds a byte goes by the pieces up to it
start_first : (ps qs : List (List ℕ)) (k : ℕ) → k < length (joined ps) → start_of (ps ++ qs) k ≡ start_of ps k
unfolding joined
start_first [] qs k h = absurd (omega arith)
start_first (p ∷ ps) qs k h = go (ltb k (length p)) refl (start_first ps qs (k - length p))
  where
    go : (b : Bool) → ltb k (length p) ≡ b → (k - length p < length (joined ps) → start_of (ps ++ qs) (k - length p) ≡ start_of ps (k - length p)) → cond b 0 (length p + start_of (ps ++ qs) (k - length p)) ≡ cond b 0 (length p + start_of ps (k - length p))
    go true hb less = refl
    go false hb less = ap (λ (i : ℕ). length p + i) (less (omega (arith, h, length-append p (joined ps), ltb-false k (length p) hb)))

-- the fields of a structure's own line, cut, and with bytes behind them
module _ (x : Structure) (f : Fits x) where
  abbrev of : Shape x
  of = shape x f

  fields_cut : (k : ℕ) → k < length (encoded x) → read (layout_of of.line) (take k (encoded x)) 0 ≡ bad 2 (start_of (field_bytes x) k)
  fields_cut k h =
      let n = of.given in
      let t = of.bytes in
      let l = of.line in
      let c = Cutting.cut_there (filled n t l) [] [] (encoded x) k (typed n t of.sized l) of.written h in
      let y : layout (filled n t l) ++ [] ≡ layout_of l = append-nil (layout (filled n t l)) ∙ filled_layout n t l in
      let p : pieces (filled n t l) ≡ field_bytes x = pieces_are l n t of.entry ∙ ap field_bytes of.same in
      rw y at c ∙ ap (bad 2) (zero-add (start_of (pieces (filled n t l)) k) ∙ ap (λ (ps : List (List ℕ)). start_of ps k) p)

  fields_over : (b : ℕ) (r : List ℕ) → read (layout_of of.line) (encoded x ++ (b ∷ r)) 0 ≡ bad 3 (length (encoded x))
  fields_over b r =
      let n = of.given in
      let t = of.bytes in
      let l = of.line in
      let c = Cutting.over_there (filled n t l) [] (encoded x) b r (typed n t of.sized l) of.written in
      rw (filled_layout n t l) at c ∙ ap (bad 3) (zero-add (length (encoded x)))

  short : length (encoded x) ≤ most_item
  short =
      let n = of.given in
      let t = of.bytes in
      let l = of.line in
      omega (arith, write_short (filled n t l) 0 (encoded x) of.written, ap most_all (filled_layout n t l), most_small l)

  shorter : (k : ℕ) → k < length (encoded x) → length (take k (encoded x)) ≤ most_item
  shorter k h = let l = length-take-le k (encoded x) (omega arith) in omega (arith, short)

  -- as the reader chooses that line
  cut_read : (k : ℕ) → k < length (encoded x) → LineIs 1 (name_of x) (entry_at (take k (encoded x))) of.line → read_first 1 (name_of x) (take k (encoded x)) ≡ bad 2 (start_of (field_bytes x) k)
  cut_read k h i = reads 1 (name_of x) (take k (encoded x)) of.line (shorter k h) i ∙ ap (λ (a : Checked (List Part)). then a (structure of.line)) (fields_cut k h)

  over_read : (b : ℕ) (r : List ℕ) → length (encoded x ++ (b ∷ r)) ≤ most_item → LineIs 1 (name_of x) (entry_at (encoded x ++ (b ∷ r))) of.line → read_first 1 (name_of x) (encoded x ++ (b ∷ r)) ≡ bad 3 (length (encoded x))
  over_read b r h i = reads 1 (name_of x) (encoded x ++ (b ∷ r)) of.line h i ∙ ap (λ (a : Checked (List Part)). then a (structure of.line)) (fields_over b r)

-- a leaf that is cut before its entry type ends is refused alike by both lines
leaf_cut : (time j : ℕ) (rest : List ℕ) (k y : ℕ) → time < 2 ^ 64 → j ≤ 1 → k < 12 → length (take k (be 1 0 ++ (be 1 0 ++ (be 8 time ++ (be 2 j ++ rest))))) ≤ most_item → start_of (be 1 0 ∷ be 1 0 ∷ be 8 time ∷ be 2 j ∷ []) k ≡ y → read_first 1 1 (take k (be 1 0 ++ (be 1 0 ++ (be 8 time ++ (be 2 j ++ rest))))) ≡ bad 2 y
unfolding read_first
leaf_cut time j rest k y ht one h fit is =
    rw (le-ltb _ _ fit)
    (lines 1 1 (entry_at s) (λ a. then a (λ l. then (read (layout_of l) s 0) (structure l)) ≡ bad 2 y) found (λ u. absurd (u (refl, omega arith, omega arith))))
  where
    s : List ℕ
    s = take k (be 1 0 ++ (be 1 0 ++ (be 8 time ++ (be 2 j ++ rest))))

    found : (l : Line) → LineIs 1 1 (entry_at s) l → then (read (layout_of l) s 0) (structure l) ≡ bad 2 y
    found X509Entry i = ap (λ (a : Checked (List Part)). then a (structure X509Entry)) (cut_within time j ht one _ rest k h ∙ ap (bad 2) is)
    found PrecertEntry i = ap (λ (a : Checked (List Part)). then a (structure PrecertEntry)) (cut_within time j ht one _ rest k h ∙ ap (bad 2) is)
    found CertificateTimestamp (is_timestamp x y) = absurd (omega arith)
    found TreeHead (is_head x y) = absurd (omega arith)

-- where a leaf is cut in its first four fields
cut_early : (time j : ℕ) (ps : List (List ℕ)) (k : ℕ) → k < 12 → start_of (be 1 0 ∷ be 1 0 ∷ be 8 time ∷ be 2 j ∷ []) k ≡ start_of (be 1 0 ∷ be 1 0 ∷ be 8 time ∷ be 2 j ∷ ps) k
unfolding joined be
cut_early time j ps k h = sym (start_first (be 1 0 ∷ be 1 0 ∷ be 8 time ∷ be 2 j ∷ []) ps k h)

not_one : (k : ℕ) → k ≡ 0 → k ≡ 1 → ⊥
not_one k e z = omega arith

pub cut_there : CutThere
unfolding joined shape
cut_there (leaf time (x509 c) x) k f h =
    ⊎_elim (λ l. leaf_cut time 0 _ k _ f.0 (omega arith) l (shorter (leaf time (x509 c) x) f k h) (cut_early time 0 (opaque 3 c ∷ opaque 2 x ∷ []) k l))
    (λ l. cut_read (leaf time (x509 c) x) f k h (is_x509 refl refl (not_one _ (ap entry_at (cut_behind time 0 _ k l) ∙ entry_there time 0 _ (omega arith)))))
    (lt_or_ge k 12)
cut_there (leaf time (precert i c) x) k f h =
    ⊎_elim (λ l. leaf_cut time 1 _ k _ f.0 (omega arith) l (shorter (leaf time (precert i c) x) f k h) (cut_early time 1 (i ∷ opaque 3 c ∷ opaque 2 x ∷ []) k l))
    (λ l. cut_read (leaf time (precert i c) x) f k h (is_precert refl refl (ap entry_at (cut_behind time 1 _ k l) ∙ entry_there time 1 _ (omega arith))))
    (lt_or_ge k 12)
cut_there (timestamp_of l time x a g) k f h = cut_read (timestamp_of l time x a g) f k h (is_timestamp refl refl)
cut_there (head_of time m r) k f h = cut_read (head_of time m r) f k h (is_head refl refl)

-- bytes behind a leaf stand behind its entry type
entry_over : (time j : ℕ) (rest more : List ℕ) → j < 2 ^ 16 → entry_at ((be 1 0 ++ (be 1 0 ++ (be 8 time ++ (be 2 j ++ rest)))) ++ more) ≡ j
unfolding be
entry_over time j rest more h = entry_there time j (rest ++ more) h

pub over_there : OverThere
unfolding joined shape
over_there (leaf time (x509 c) x) b r f h =
    over_read (leaf time (x509 c) x) f b r h (is_x509 refl refl (not_one _ (entry_over time 0 _ (b ∷ r) (omega arith))))
over_there (leaf time (precert i c) x) b r f h = over_read (leaf time (precert i c) x) f b r h (is_precert refl refl (entry_over time 1 _ (b ∷ r) (omega arith)))
over_there (timestamp_of l time x a g) b r f h = over_read (timestamp_of l time x a g) f b r h (is_timestamp refl refl)
over_there (head_of time m s) b r f h = over_read (head_of time m s) f b r h (is_head refl refl)

-- a certificate without a byte
empty_refused : (r : List ℕ) (at : ℕ) → field certificate (be 3 0 ++ r) at ≡ bad 5 at
unfolding be
empty_refused r at = vector_there 3 [] r (omega arith) 1 16777215 Opaque at

-- behind the first four fields of a leaf
behind_four : (time j : ℕ) (gs : List Field) (rest : List ℕ) (x y : ℕ) → time < 2 ^ 64 → j ≤ 1 → read gs (be 1 0 ++ (be 1 0 ++ (be 8 time ++ (be 2 j ++ rest)))) 12 ≡ bad x y → read (version ∷ leaf_type ∷ timestamp ∷ entry_type_of ∷ gs) (be 1 0 ++ (be 1 0 ++ (be 8 time ++ (be 2 j ++ rest)))) 0 ≡ bad x y
unfolding be
behind_four time j gs rest x y ht one h =
    let s = be 1 0 ++ (be 1 0 ++ (be 8 time ++ (be 2 j ++ rest))) in
    behind_three time (entry_type_of ∷ gs) (be 2 j ++ rest) x y ht (read_goes entry_type_of gs s 10 x y _ (((one_of_judged Two 0 1 j rest 10).0 (omega arith) one).1 (omega arith)) h)

pub five_read : FiveRead
unfolding be
five_read time h r ht = (certificate_read, tbs_read)
  where
    certificate_read : length (be 1 0 ++ (be 1 0 ++ (be 8 time ++ (be 2 0 ++ (be 3 0 ++ r))))) ≤ most_item → read_first 1 1 (be 1 0 ++ (be 1 0 ++ (be 8 time ++ (be 2 0 ++ (be 3 0 ++ r))))) ≡ bad 5 12
    certificate_read fit =
        let s = be 1 0 ++ (be 1 0 ++ (be 8 time ++ (be 2 0 ++ (be 3 0 ++ r)))) in
        reads 1 1 s X509Entry fit (is_x509 refl refl (not_one (entry_at s) (entry_there time 0 (be 3 0 ++ r) (omega arith))))
        ∙ ap (λ (a : Checked (List Part)). then a (structure X509Entry)) (behind_four time 0 (certificate ∷ extensions ∷ []) (be 3 0 ++ r) 5 12 ht (omega arith) (read_stops certificate (extensions ∷ []) s 12 5 12 (empty_refused r 12)))

    tbs_read : length h ≡ 32 → length (be 1 0 ++ (be 1 0 ++ (be 8 time ++ (be 2 1 ++ (h ++ (be 3 0 ++ r)))))) ≤ most_item → read_first 1 1 (be 1 0 ++ (be 1 0 ++ (be 8 time ++ (be 2 1 ++ (h ++ (be 3 0 ++ r)))))) ≡ bad 5 44
    tbs_read l fit =
        let s = be 1 0 ++ (be 1 0 ++ (be 8 time ++ (be 2 1 ++ (h ++ (be 3 0 ++ r))))) in
        let d : drop 32 (h ++ (be 3 0 ++ r)) ≡ be 3 0 ++ r = drop_at h (be 3 0 ++ r) 32 l in
        reads 1 1 s PrecertEntry fit (is_precert refl refl (entry_there time 1 (h ++ (be 3 0 ++ r)) (omega arith)))
        ∙ ap (λ (a : Checked (List Part)). then a (structure PrecertEntry)) (behind_four time 1 (hash ∷ certificate ∷ extensions ∷ []) (h ++ (be 3 0 ++ r)) 5 44 ht (omega arith) (read_goes hash (certificate ∷ extensions ∷ []) s 12 5 44 (record { start = 12; len = 32; value = 32 }) ((fixed_as_is 32 h (be 3 0 ++ r) 12).0 l).0 (read_stops certificate (extensions ∷ []) s 44 5 44 (rw d (empty_refused r 44)))))
