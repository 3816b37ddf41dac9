-- Whole structures, read and refused: the line, then its fields. Assumes nothing.
use mathlib.Core.Path.{◌≡◌, refl, subst, ◌∙◌}
use mathlib.Core.List.{List, map}
use mathlib.Core.Bool.{Bool, true, false, cond}
use Prim.Native.Nat.{ℕ, ◌≤◌, ◌<◌}
use native.Mathlib.Omega.{arith}
use lib.ListN.{length}
use lib.Dec.{ltb, eqb}
use borrow.Author.Tests.{lt-ltb, le-ltb, ltb-false, eqb-true, eqb-false, eq-eqb, ne_eqb}
use Rattle.octets.specs.Limits.{most_item}
use Rattle.fields.specs.declared.layout.Part.{Part}
use Rattle.fields.specs.Checked.{Checked, good, bad, then}
use Rattle.fields.specs.Layout.{read}
use Rattle.fields.specs.Write.{write}
use Rattle.fields.specs.Effect.{Effect, unwritten, wrote, effect}
use Rattle.fields.specs.Extensions.{unordered}
use Rattle.fields.proofs.Answers.{bad_good, good_bad, same_good, same_place, same_number}
use Rattle.fields.proofs.Within.{parts_within, place_within}
use Rattle.fields.proofs.Ordering.{refused_by_order}
use Rattle.fields.proofs.Lent.{was_put, refused_keeps, past_keeps, room_last_lem as room_last}
use Rattle.first.specs.declared.table.Line.{Line}
use Rattle.first.specs.declared.table.Line.TheVariants.{X509Entry, PrecertEntry, CertificateTimestamp, TreeHead}
use Rattle.first.specs.Table.{layout_of, leaf_line, line_of}
use Rattle.first.specs.First.{Reading, structure, entry_at, read_first, filled, write_first}
use Rattle.first.specs.Claims.{WriterKeeps, RefusedWithin, FieldsWithin, LongFirst, Named, NameNext, RoomLast, NoFifteen}

-- what the line of a name says of it
pub data LineIs (e w k : ℕ) : Line → Type 0 where
  x509 : e ≡ 1 → w ≡ 1 → (k ≡ 1 → ⊥) → LineIs e w k X509Entry
  precert : e ≡ 1 → w ≡ 1 → k ≡ 1 → LineIs e w k PrecertEntry
  timestamp : e ≡ 1 → w ≡ 2 → LineIs e w k CertificateTimestamp
  head : e ≡ 1 → w ≡ 3 → LineIs e w k TreeHead

module _ (e w k : ℕ) where
  -- the search, by what it asks
  pub lines : (P : Checked Line → Type 0) → ((l : Line) → LineIs e w k l → P (good l)) → ((Named e w → ⊥) → P (bad 4 0)) → P (line_of e w k)
  unfolding line_of
  lines P found none = go (eqb e 1) (eqb w 1) (eqb w 2) (eqb w 3) refl refl refl refl
    where
      leaf : (b : Bool) → eqb k 1 ≡ b → e ≡ 1 → w ≡ 1 → P (good (cond b PrecertEntry X509Entry))
      leaf true h he hw = found PrecertEntry (precert he hw (eqb-true k 1 h))
      leaf false h he hw = found X509Entry (x509 he hw (eqb-false k 1 h))

      go : (a b c d : Bool) → eqb e 1 ≡ a → eqb w 1 ≡ b → eqb w 2 ≡ c → eqb w 3 ≡ d → P (cond a (cond b (good (leaf_line k)) (cond c (good CertificateTimestamp) (cond d (good TreeHead) (bad 4 0)))) (bad 4 0))
      go false b c d ha hb hc hd = none (λ n. eqb-false e 1 ha n.0)
      go true true c d ha hb hc hd = leaf (eqb k 1) refl (eqb-true e 1 ha) (eqb-true w 1 hb)
      go true false true d ha hb hc hd = found CertificateTimestamp (timestamp (eqb-true e 1 ha) (eqb-true w 2 hc))
      go true false false true ha hb hc hd = found TreeHead (head (eqb-true e 1 ha) (eqb-true w 3 hd))
      go true false false false ha hb hc hd = none (λ n. omega (arith, n.1, n.2, eqb-false w 1 hb, eqb-false w 2 hc, eqb-false w 3 hd))

  pub line_is : (l : Line) → line_of e w k ≡ good l → LineIs e w k l
  line_is l = lines (λ a. a ≡ good l → LineIs e w k l) (λ m h q. subst (λ (x : Line). LineIs e w k x) (same_good m l q) h) (λ n e. bad_good 4 0 l e)

  pub line_bad : (x y : ℕ) → line_of e w k ≡ bad x y → (x ≡ 4) × (y ≡ 0)
  line_bad x y = lines (λ a. a ≡ bad x y → (x ≡ 4) × (y ≡ 0)) (λ m h e. good_bad x y m e) (λ n e. (same_number 4 x 0 y e, same_place 4 x 0 y e))

  pub not_named : (Named e w → ⊥) → line_of e w k ≡ bad 4 0
  not_named h = lines (λ a. a ≡ bad 4 0) (λ l i. absurd (h (named i))) (λ n. refl)
    where
      named : {l : Line} → LineIs e w k l → Named e w
      named (x509 a b c) = (a, omega arith, omega arith)
      named (precert a b c) = (a, omega arith, omega arith)
      named (timestamp a b) = (a, omega arith, omega arith)
      named (head a b) = (a, omega arith, omega arith)

  pub is_line : (l : Line) → LineIs e w k l → line_of e w k ≡ good l
  unfolding line_of
  is_line X509Entry (x509 a b c) = rw (eq-eqb _ _ a, eq-eqb _ _ b, ne_eqb _ _ c)
  is_line PrecertEntry (precert a b c) = rw (eq-eqb _ _ a, eq-eqb _ _ b, eq-eqb _ _ c)
  is_line CertificateTimestamp (timestamp a b) = let n : eqb w 1 ≡ false = ne_eqb w 1 (λ z. omega arith) in rw (eq-eqb _ _ a, n, eq-eqb _ _ b)
  is_line TreeHead (head a b) =
      let n : eqb w 1 ≡ false = ne_eqb w 1 (λ z. omega arith) in
      let m : eqb w 2 ≡ false = ne_eqb w 2 (λ z. omega arith) in
      rw (eq-eqb _ _ a, n, m, eq-eqb _ _ b)

-- a structure that was read
pub record WasRead (e w : ℕ) (s : List ℕ) (r : Reading) : Type 0 where
  pub short : length s ≤ most_item
  pub line : LineIs e w (entry_at s) r.line
  pub fields : read (layout_of r.line) s 0 ≡ good r.fields

-- and one that was refused
pub data WasRefused (e w : ℕ) (s : List ℕ) (x y : ℕ) : Type 0 where
  long : x ≡ 1 → y ≡ 0 → WasRefused e w s x y
  unnamed : x ≡ 4 → y ≡ 0 → WasRefused e w s x y
  within : (l : Line) → read (layout_of l) s 0 ≡ bad x y → WasRefused e w s x y

module _ (e w : ℕ) (s : List ℕ) where
  was_fields : (l : Line) (r : Reading) (a : Checked (List Part)) → read (layout_of l) s 0 ≡ a → length s ≤ most_item → LineIs e w (entry_at s) l → then a (structure l) ≡ good r → WasRead e w s r
  was_fields l r (bad x y) ha h i q = bad_good x y r q
  was_fields l r (good ps) ha h i q = subst (WasRead e w s) (same_good _ r q) (record { short = h; line = i; fields = ha })

  pub was_read : (r : Reading) → read_first e w s ≡ good r → WasRead e w s r
  unfolding read_first
  was_read r q = go (ltb most_item (length s)) refl q
    where
      go : (b : Bool) → ltb most_item (length s) ≡ b → cond b (bad 1 0) (then (line_of e w (entry_at s)) (λ l. then (read (layout_of l) s 0) (structure l))) ≡ good r → WasRead e w s r
      go true hb q = bad_good 1 0 r q
      go false hb q =
          lines e w (entry_at s) (λ a. then a (λ l. then (read (layout_of l) s 0) (structure l)) ≡ good r → WasRead e w s r)
          (λ l i q. was_fields l r (read (layout_of l) s 0) refl (ltb-false most_item (length s) hb) i q)
          (λ n q. bad_good 4 0 r q) q

  refused_fields : (l : Line) (x y : ℕ) (a : Checked (List Part)) → read (layout_of l) s 0 ≡ a → then a (structure l) ≡ bad x y → WasRefused e w s x y
  refused_fields l x y (good ps) ha q = good_bad x y _ q
  refused_fields l x y (bad u v) ha q = within l (ha ∙ again q)
    where
      again : ◌≡◌ {A = Checked Reading} (bad u v) (bad x y) → ◌≡◌ {A = Checked (List Part)} (bad u v) (bad x y)
      again q = let p : u ≡ x = cc in let o : v ≡ y = cc in rw (p, o)

  pub was_refused : (x y : ℕ) → read_first e w s ≡ bad x y → WasRefused e w s x y
  unfolding read_first
  was_refused x y q = go (ltb most_item (length s)) q
    where
      go : (b : Bool) → cond b (bad 1 0) (then (line_of e w (entry_at s)) (λ l. then (read (layout_of l) s 0) (structure l))) ≡ bad x y → WasRefused e w s x y
      go true q = long (same_number 1 x 0 y q) (same_place 1 x 0 y q)
      go false q =
          lines e w (entry_at s) (λ a. then a (λ l. then (read (layout_of l) s 0) (structure l)) ≡ bad x y → WasRefused e w s x y)
          (λ l i q. refused_fields l x y (read (layout_of l) s 0) refl q)
          (λ n q. unnamed (same_number 4 x 0 y q) (same_place 4 x 0 y q)) q

  -- the line and its fields say what is read
  pub reads : (l : Line) → length s ≤ most_item → LineIs e w (entry_at s) l → read_first e w s ≡ then (read (layout_of l) s 0) (structure l)
  unfolding read_first
  reads l h i = rw (le-ltb _ _ h, is_line e w (entry_at s) l i)

pub fields_within : FieldsWithin
fields_within e w s r q = parts_within s (layout_of r.line) 0 r.fields (omega arith) (was_read e w s r q).fields

pub refused_within : RefusedWithin
refused_within e w s x y q = go (was_refused e w s x y q)
  where
    go : WasRefused e w s x y → y ≤ length s
    go (long a b) = omega arith
    go (unnamed a b) = omega arith
    go (within l h) = place_within s (layout_of l) 0 x y (omega arith) h

-- no line asks for an order
all_unordered : (l : Line) → map unordered (layout_of l) ≡ layout_of l
all_unordered X509Entry = refl
all_unordered PrecertEntry = refl
all_unordered CertificateTimestamp = refl
all_unordered TreeHead = refl

pub no_fifteen : NoFifteen
no_fifteen e w s y q = go (was_refused e w s 15 y q)
  where
    go : WasRefused e w s 15 y → ⊥
    go (long a b) = omega arith
    go (unnamed a b) = omega arith
    go (within l h) =
        let o : read (map unordered (layout_of l)) s 0 ≡ bad 15 y = rw (all_unordered l) h in
        let g = rw o at ((refused_by_order (layout_of l) s 0 15 y h).0 refl) in
        omega (arith, g)

pub long_first : LongFirst
unfolding read_first
long_first e w s h = rw (lt-ltb _ _ h)

pub name_next : NameNext
unfolding read_first write_first
name_next e w h =
    ((λ s l. let n = not_named e w (entry_at s) h in rw (le-ltb _ _ l, n)), λ n t out. let m = not_named e w n.entry_type h in rw m)

pub writer_keeps : WriterKeeps
unfolding write_first
writer_keeps e w n t out =
    let a = then (line_of e w n.entry_type) (λ l. write (filled n t l) 0) in (refused_keeps a out, past_keeps a out)

pub room_last_lem : RoomLast
unfolding write_first
room_last_lem e w n t out other = (refused (then (line_of e w n.entry_type) (λ l. write (filled n t l) 0)), fits (then (line_of e w n.entry_type) (λ l. write (filled n t l) 0)))
  where
    refused : (a : Checked (List ℕ)) (x y : ℕ) → (x ≡ 9 → ⊥) → (effect other a).answer ≡ bad x y → (effect out a).answer ≡ bad x y
    refused (bad u v) x y h q = q
    refused (good b) x y h q = go (ltb (length other) (length b)) q
      where
        go : (c : Bool) → ◌≡◌ {A = Checked ℕ} (cond {A = Effect} c (unwritten 9 0 other) (wrote b other)).answer (bad x y) → (effect out (good b)).answer ≡ bad x y
        go true q = absurd (h (same_number 9 x 0 y q))
        go false q = good_bad x y _ q

    fits : (a : Checked (List ℕ)) (m : ℕ) → (effect other a).answer ≡ good m → length out < m → (effect out a).answer ≡ bad 9 0
    fits a m q l = let p = was_put a other m q in (room_last a out).1 p.bytes p.is (omega (arith, p.size))
