use mathlib.Core.Path.{◌≡◌, ap, sym, subst, ◌∙◌}
use mathlib.Core.List.{List}
use Prim.Native.Nat.{ℕ}
use lib.ListN.{length, take}
use Rattle.std.specs.Prelude.{Result, Ok, Err}
use Rattle.fields.specs.declared.layout.Part.{Part}
use Rattle.fields.specs.declared.layout.Field.{Field}
use Rattle.fields.specs.declared.reading.LayoutRefused.{LayoutRefused}
use Rattle.fields.specs.Checked.{Checked, then}
use Rattle.fields.specs.Layout.{read, parts_found}
use Rattle.fields.specs.Answers.{layout_read, told_of}
use Rattle.fields.proofs.Telling.{told_refused, told_read}
use Rattle.first.specs.declared.table.Line.{Line}
use Rattle.first.specs.Table.{layout_of}
use Rattle.first.specs.First.{structure}
use Rattle.first.proofs.reader.read_fields.Goals as goal

-- what is said of the fields of an array that the line has is said of the line's own layout
said : (l : Line) (n : ℕ) (fs : List Field) (s : List ℕ) (r : Result (List Part) LayoutRefused) → n ≡ length (layout_of l) → take (length (layout_of l)) fs ≡ layout_of l
    → told_of (length (take n fs)) r ≡ layout_read (parts_found (take n fs) s 0) (read (take n fs) s 0)
    → told_of (length (layout_of l)) r ≡ layout_read (parts_found (layout_of l) s 0) (read (layout_of l) s 0)
said l n fs s r c e q =
    subst (λ (gs : List Field). told_of (length gs) r ≡ layout_read (parts_found gs s 0) (read gs s 0)) (ap (λ (k : ℕ). take k fs) c ∙ e) q

pub returns-in-Err : goal.returns-in-Err
returns-in-Err c =
    let a = c.args in
    let r = c.in-Err.e in
    let t = said a.line c.count_of-n.result c.layout_of-layout.result a.s.now (Err r) c.count_of-n.ensures c.layout_of-layout.ensures c.in-Err.ensures in
    sym (ap (λ (x : Checked (List Part)). then x (structure a.line)) (told_refused (layout_of a.line) a.s.now 0 r t))

pub returns-in-Ok : goal.returns-in-Ok
returns-in-Ok c =
    let a = c.args in
    let ps = c.in-Ok.parts in
    let t = said a.line c.count_of-n.result c.layout_of-layout.result a.s.now (Ok ps) c.count_of-n.ensures c.layout_of-layout.ensures c.in-Ok.ensures in
    c.named.ensures ∙ sym (ap (λ (x : Checked (List Part)). then x (structure a.line)) (told_read (layout_of a.line) a.s.now 0 ps t))
