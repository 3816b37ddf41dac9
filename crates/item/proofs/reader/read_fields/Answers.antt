use mathlib.Core.Path.{◌≡◌, ap, sym, subst, ◌∙◌}
use mathlib.Core.List.{List}
use Prim.Native.Nat.{ℕ}
use lib.ListN.{length, take}
use Rattle.std.specs.Prelude.{Result, Ok, Err}
use Rattle.fields.specs.declared.layout.Field.{Field}
use Rattle.fields.specs.declared.layout.Part.{Part}
use Rattle.fields.specs.declared.reading.LayoutRefused.{LayoutRefused}
use Rattle.fields.specs.Checked.{Checked, then}
use Rattle.fields.specs.Layout.{read, parts_found}
use Rattle.fields.specs.Answers.{layout_read, told_of}
use Rattle.fields.proofs.Telling.{told_met, told_refused, told_read}
use Rattle.item.specs.declared.table.Case.{Case}
use Rattle.item.specs.declared.table.Name.{Name}
use Rattle.item.specs.Table.{names_of, layout_of, met_in}
use Rattle.item.specs.Item.{item}
use Rattle.item.proofs.Rows.{layout_length}
use Rattle.item.proofs.reader.read_fields.Goals as goal

-- what is said of the fields of an array that the line has is said of the line's own layout
said : (c : Case) (ns : List Name) (fs : List Field) (s : List ℕ) (r : Result (List Part) LayoutRefused) → ns ≡ names_of c → take (length (names_of c)) fs ≡ layout_of c
    → told_of (length (take (length ns) fs)) r ≡ layout_read (parts_found (take (length ns) fs) s 2) (read (take (length ns) fs) s 2)
    → told_of (length (layout_of c)) r ≡ layout_read (parts_found (layout_of c) s 2) (read (layout_of c) s 2)
said c ns fs s r n l e =
    subst (λ (gs : List Field). told_of (length gs) r ≡ layout_read (parts_found gs s 2) (read gs s 2)) (ap (λ (ms : List Name). take (length ms) fs) n ∙ l) e

pub returns-in-Err : goal.returns-in-Err
returns-in-Err c =
    let a = c.args in
    let r = c.in-Err.e in
    let t = said a.case c.names_of-n.result.now c.layout_of-layout.result a.s.now (Err r) c.names_of-n.ensures c.layout_of-layout.ensures c.in-Err.ensures in (
      sym (ap (λ (x : Checked (List Part)). then x (item a.case a.kind)) (told_refused (layout_of a.case) a.s.now 2 r t)),
      c.met_behind.ensures ∙ ap (met_in a.case) (told_met (layout_of a.case) a.s.now 2 r t),
    )

pub returns-in-Ok : goal.returns-in-Ok
returns-in-Ok c =
    let a = c.args in
    let ps = c.in-Ok.parts in
    let t = said a.case c.names_of-n.result.now c.layout_of-layout.result a.s.now (Ok ps) c.names_of-n.ensures c.layout_of-layout.ensures c.in-Ok.ensures in (
      c.named.ensures ∙ sym (ap (λ (x : Checked (List Part)). then x (item a.case a.kind)) (told_read (layout_of a.case) a.s.now 2 ps t) ∙ ap (λ (k : ℕ). item a.case a.kind (take k ps)) (layout_length a.case)),
      tt,
    )
