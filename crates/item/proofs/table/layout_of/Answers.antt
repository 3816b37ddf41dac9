use mathlib.Core.Path.{◌≡◌, refl, ap, ap₂, sym, ◌∙◌}
use mathlib.Core.List.{List, [], ◌∷◌, ◌++◌, map}
use Prim.Native.Nat.{ℕ, zero, suc, ◌+◌, ◌<◌}
use native.Mathlib.Omega.{arith}
use native.Mathlib.Numerals.{add-one}
use lib.ListN.{length, get_or, take, set, length-set}
use lib.Seq.{take-suc-set}
use borrow.Author.Rules.{rules}
use Rattle.fields.specs.declared.layout.Field.{Field}
use Rattle.item.specs.declared.table.Name.{Name}
use Rattle.item.specs.declared.table.Name.TheVariants.{Timestamp}
use Rattle.item.specs.Table.{field_of, names_of}
use Rattle.item.proofs.Rows.{count_small}
use Rattle.item.proofs.table.layout_of.Goals as goal

-- one more name
fields_more : (names : List Name) (i : ℕ) → i < length names → map field_of (take (suc i) names) ≡ map field_of (take i names) ++ (field_of (get_or names i Timestamp) ∷ [])
fields_more [] i h = absurd (omega arith)
fields_more (x ∷ names) zero h = refl
fields_more (x ∷ names) (suc i) h = ap (λ (l : List Field). field_of x ∷ l) (fields_more names i (omega arith))

more : (names : List Name) (layout : List Field) (i : ℕ) (f : Field) → i < length names → i < length layout → f ≡ field_of (get_or names i Timestamp) → take i layout ≡ map field_of (take i names) → take (i + 1) (set layout i f) ≡ map field_of (take (i + 1) names)
more names layout i f h g e t =
    rw (add-one, take-suc-set layout i f g) (ap₂ (λ (l : List Field) (x : Field). l ++ (x ∷ [])) t e ∙ sym (fields_more names i h))

pub loop-i-preserved : goal.loop-i-preserved
loop-i-preserved c =
    let l = c.loop-i in
    let names = c.names_of-name-items.result.now in (
      simp length-set l.invariant.0,
      more names l.layout l.i c.field_of.result (omega arith) (omega (arith, l.invariant.0, ap length c.names_of-name-items.ensures, count_small c.args.case)) c.field_of.ensures l.invariant.1,
    )
