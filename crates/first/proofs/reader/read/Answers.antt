use mathlib.Core.Path.{◌≡◌, sym, ◌∙◌}
use mathlib.Core.List.{List}
use Prim.Native.Nat.{ℕ, ◌≤◌, ◌<◌}
use native.Mathlib.Omega.{arith}
use lib.ListN.{length}
use borrow.Author.Tests.{lt-ltb, le-ltb}
use Rattle.octets.specs.Limits.{most_item}
use Rattle.fields.specs.Checked.{good, bad, then}
use Rattle.fields.specs.Layout.{read}
use Rattle.first.specs.declared.table.Line.{Line}
use Rattle.first.specs.Table.{layout_of, line_of}
use Rattle.first.specs.First.{structure, entry_at, read_first}
use Rattle.first.proofs.reader.read.Goals as goal

-- the cases of a structure, over plain lists
module _ (e w : ℕ) (s : List ℕ) where
  long : most_item < length s → bad 1 0 ≡ read_first e w s
  unfolding read_first
  long h = rw (lt-ltb _ _ h)

  module _ (fit : length s ≤ most_item) (k : ℕ) (is : k ≡ entry_at s) where
    unknown : line_of e w k ≡ bad 4 0 → bad 4 0 ≡ read_first e w s
    unfolding read_first
    unknown h = rw (le-ltb _ _ fit, ← is, h)

    known : (l : Line) → line_of e w k ≡ good l → then (read (layout_of l) s 0) (structure l) ≡ read_first e w s
    unfolding read_first
    known l h = rw (le-ltb _ _ fit, ← is, h)

pub returns-then-s-gt-MOST_ITEM : goal.returns-then-s-gt-MOST_ITEM
returns-then-s-gt-MOST_ITEM c = let a = c.args in long a.edition a.which a.s.now (omega arith)

pub returns-in_default : goal.returns-in_default
returns-in_default c =
    let a = c.args in
    unknown a.edition a.which a.s.now (omega arith) c.number_at-entry.result c.number_at-entry.ensures.0 (sym c.in_default.ensures)

pub returns : goal.returns
returns c =
    let a = c.args in
    c.read_fields.ensures
    ∙ known a.edition a.which a.s.now (omega arith) c.number_at-entry.result c.number_at-entry.ensures.0 _ (sym c.in-Some.ensures)
