use mathlib.Core.Path.{◌≡◌, refl, ap, sym, ◌∙◌}
use mathlib.Core.List.{List}
use Prim.Native.Nat.{ℕ}
use Rattle.fields.specs.Checked.{good, bad}
use Rattle.fields.specs.Write.{write}
use Rattle.fields.specs.Effect.{Effect, unwritten, effect}
use Rattle.first.specs.declared.table.Line.{Line}
use Rattle.first.specs.declared.writer.Numbers.{Numbers}
use Rattle.first.specs.Table.{line_of}
use Rattle.first.specs.First.{Vectors, lent, filled, write_first}
use Rattle.first.proofs.writer.write.Goals as goal

-- the cases of a structure, over plain lists
module _ (e w : ℕ) (n : Numbers) (t : Vectors) (out : List ℕ) where
  unknown : line_of e w n.entry_type ≡ bad 4 0 → write_first e w n t out ≡ unwritten 4 0 out
  unfolding write_first
  unknown h = rw h

  known : (l : Line) → line_of e w n.entry_type ≡ good l → effect out (write (filled n t l) 0) ≡ write_first e w n t out
  unfolding write_first
  known l h = rw h

pub returns-in_default : goal.returns-in_default
returns-in_default c =
    let s = c.args in
    rw (unknown s.edition s.which s.numbers (lent s.vectors) s.out.now (sym c.in_default.ensures)) (refl, refl)

pub returns : goal.returns
returns c =
    let s = c.args in
    let r = c.write_line.ensures in
    let q = known s.edition s.which s.numbers (lent s.vectors) s.out.now _ (sym c.in-Some.ensures) in
    (r.0 ∙ ap (λ (o : Effect). o.answer) q, r.1 ∙ ap (λ (o : Effect). o.bytes) q)
