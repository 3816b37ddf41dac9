-- `carry::level::above` meets its contract: two pairs that are the same, and two that differ. Assumes nothing.
use mathlib.Core.Path.{sym, ap, ◌∙◌}
use Rattle.hash.specs.Digest.{hash_of}
use Rattle.octets.proofs.Sameness.{same_true}
use Rattle.carry.specs.Inner.{difference_of}
use Rattle.carry.proofs.Pairing.{top_same, top_apart}
use Rattle.carry.proofs.level.above.Goals as goal

pub returns-then-pairs : goal.returns-then-pairs
unfolding difference_of
returns-then-pairs c =
    let e = sym c.pairs.ensures ∙ c.if-pairs.true in
    let n = c.node-root.ensures in
    record {
      bytes_value = (n, n ∙ ap (hash_of _) (same_true _ _ e));
      result_value = sym (top_same _ _ _ e);
    }

pub returns : goal.returns
unfolding difference_of
returns c =
    let e = sym c.pairs.ensures ∙ c.if-pairs.false in
    record {
      bytes_value = (c.node-root.ensures, c.node.ensures);
      result_value = sym (top_apart _ _ _ e);
    }
