use mathlib.Core.Path.{ap, sym, ◌∙◌}
use Rattle.std.specs.Prelude.{Ok}
use Rattle.item.specs.declared.reader.Item.{Item}
use Rattle.item.specs.Item.{reading}
use Rattle.item.specs.Newer.{head_of}
use Rattle.item.proofs.Items.{fields_within}
use Rattle.item.proofs.heads.head_of.Goals as goal

pub returns-in-Ok-SignedHead : goal.returns-in-Ok-SignedHead
returns-in-Ok-SignedHead c =
    let h = c.in-Ok-SignedHead in
    let e = ap (λ (i : Item). reading (Ok i)) (sym h.field-0-is) ∙ h.ensures.0 in
    (ap head_of e, (fields_within c.args.s.now _ (sym e)).0)
