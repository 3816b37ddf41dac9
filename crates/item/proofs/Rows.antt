-- The table's fields: how much each takes, and where it stands in a layout. Assumes nothing.
use mathlib.Core.Path.{◌≡◌, refl, ap, sym, ◌∙◌}
use mathlib.Core.List.{List, [], ◌∷◌, map}
use Prim.Native.Nat.{ℕ, zero, suc, ◌≤◌, ◌<◌}
use native.Mathlib.Omega.{arith}
use lib.ListN.{length, get_or, take}
use lib.Seq.{get_or-take}
use Rattle.fields.specs.declared.layout.Field.{Field}
use Rattle.octets.specs.declared.number.Width.TheVariants.{One}
use Rattle.fields.proofs.Fills.{most}
use Rattle.fields.specs.declared.layout.Field.TheVariants.{Uint}
use Rattle.item.specs.declared.table.Name.{Name}
use Rattle.item.specs.declared.table.Name.TheVariants.{Timestamp, Size, SizeOne, SizeTwo, Place, Agreement, PageNumber, LogId, IssuerKeyHash, Certificate, RootHash, Extensions, Signature, Path, Body}
use Rattle.item.specs.declared.table.Case.{Case}
use Rattle.item.specs.declared.table.Case.TheVariants.{Entry, Receipt, SignedHead, Consistency, Inclusion, Page}
use Rattle.item.specs.Table.{field_of, names_of, layout_of}
use Rattle.item.specs.declared.writer.Numbers.{Numbers}
use Rattle.fields.specs.Write.{Value, held}
use Rattle.item.specs.Item.{Vectors, value_of, filled}
use Rattle.item.specs.Steps.{number_by, bytes_by}
use Rattle.fields.proofs.Filling.{nothing, Unjudged}

-- the most that a field of the table takes is little beside the largest place, and no number of an item is judged
pub most_small : (n : Name) → (most (field_of n) ≤ 4294967303) × Unjudged (field_of n)
most_small Timestamp = (omega arith, tt)
most_small Size = (omega arith, tt)
most_small SizeOne = (omega arith, tt)
most_small SizeTwo = (omega arith, tt)
most_small Place = (omega arith, tt)
most_small Agreement = (omega arith, tt)
most_small PageNumber = (omega arith, tt)
most_small LogId = (omega arith, tt)
most_small IssuerKeyHash = (omega arith, tt)
most_small Certificate = (omega arith, tt)
most_small RootHash = (omega arith, tt)
most_small Extensions = (omega arith, tt)
most_small Signature = (omega arith, tt)
most_small Path = (omega arith, tt)
most_small Body = (omega arith, tt)

pub layout_length : (c : Case) → length (layout_of c) ≡ length (names_of c)
layout_length c = go (names_of c)
  where
    go : (ns : List Name) → length (map field_of ns) ≡ length ns
    go [] = refl
    go (n ∷ ns) = ap suc (go ns)

field_at : (ns : List Name) (i : ℕ) → i < length ns → field_of (get_or ns i Timestamp) ≡ get_or (map field_of ns) i (Uint One)
field_at [] i h = absurd (omega arith)
field_at (n ∷ ns) zero h = refl
field_at (n ∷ ns) (suc i) h = field_at ns i (omega arith)

-- the name at a place of an array that begins with a line's names
pub name_at : (c : Case) (names : List Name) (i : ℕ) → take (length (names_of c)) names ≡ names_of c → i < length (names_of c) → get_or names i Timestamp ≡ get_or (names_of c) i Timestamp
name_at c names i e h = sym (get_or-take (length (names_of c)) names i Timestamp h) ∙ ap (λ (l : List Name). get_or l i Timestamp) e

pub layout_at : (c : Case) (names : List Name) (i : ℕ) → take (length (names_of c)) names ≡ names_of c → i < length (names_of c) → field_of (get_or names i Timestamp) ≡ get_or (layout_of c) i (Uint One)
layout_at c names i e h = ap field_of (name_at c names i e h) ∙ field_at (names_of c) i h

-- what the writer is given by a name, from its two halves
held_is : (n : Numbers) (t : Vectors) (x : Name) → value_of n t x ≡ held (field_of x) (number_by n x) (bytes_by t x)
held_is n t Timestamp = refl
held_is n t Size = refl
held_is n t SizeOne = refl
held_is n t SizeTwo = refl
held_is n t Place = refl
held_is n t Agreement = refl
held_is n t PageNumber = refl
held_is n t LogId = refl
held_is n t IssuerKeyHash = refl
held_is n t Certificate = refl
held_is n t RootHash = refl
held_is n t Extensions = refl
held_is n t Signature = refl
held_is n t Path = refl
held_is n t Body = refl

pub filled_length : (n : Numbers) (t : Vectors) (ns : List Name) → length (filled n t ns) ≡ length ns
filled_length n t [] = refl
filled_length n t (x ∷ ns) = ap suc (filled_length n t ns)

filled_at : (n : Numbers) (t : Vectors) (ns : List Name) (i : ℕ) → i < length ns → get_or (filled n t ns) i nothing ≡ record { field = field_of (get_or ns i Timestamp); value = value_of n t (get_or ns i Timestamp) }
filled_at n t [] i h = absurd (omega arith)
filled_at n t (x ∷ ns) zero h = refl
filled_at n t (x ∷ ns) (suc i) h = filled_at n t ns i (omega arith)

-- the field at a place with its value, by what the code has there
pub one_at : (n : Numbers) (t : Vectors) (names : List Name) (i : ℕ) → i < length names → (f : Field) (v : List ℕ) → f ≡ field_of (get_or names i Timestamp) → v ≡ bytes_by t (get_or names i Timestamp) → get_or (filled n t names) i nothing ≡ record { field = f; value = held f (number_by n (get_or names i Timestamp)) v }
one_at n t names i l f v ef ev =
    let x = get_or names i Timestamp in
    filled_at n t names i l
    ∙ ap (λ (w : Value). record { field = field_of x; value = w }) (held_is n t x)
    ∙ rw (ef, ev)

-- a line has at most six fields
pub count_small : (c : Case) → length (names_of c) ≤ 6
count_small Entry = omega arith
count_small Receipt = omega arith
count_small SignedHead = omega arith
count_small Consistency = omega arith
count_small Inclusion = omega arith
count_small Page = omega arith
