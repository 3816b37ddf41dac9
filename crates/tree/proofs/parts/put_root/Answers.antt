-- `tree::parts::put_root` meets its contract. Assumes nothing.
use mathlib.Core.Path.{refl, ap, ◌∙◌}
use mathlib.Core.List.{List}
use Prim.Native.Nat.{ℕ}
use lib.Seq.{paste}
use Rattle.tree.proofs.parts.put_root.Goals as goal

pub returns : goal.returns
returns c = record {
  value = refl;
  out_after = c.put_node.ensures ∙ ap (λ (x : List ℕ). paste c.args.out.now c.args.at x 32) c.part_root.ensures;
}
