use mathlib.Core.Path.{sym, ◌∙◌}
use Rattle.hash.proofs.Algorithms.{by_known, by_unknown}
use Rattle.mta.proofs.mta_node.Goals as goal

pub returns-in-By : goal.returns-in-By
returns-in-By c =
    let named = c in
    let e = sym named.in-By.is ∙ named.algorithm_of-named.ensures in
    let done = c.node_into.ensures in
    record {
      value = done.value ∙ by_known _ _ _ _ e;
      out_after = done.out_after ∙ by_known _ _ _ _ e;
    }

pub returns-in-Unknown : goal.returns-in-Unknown
returns-in-Unknown c = let e = sym c.in-Unknown.is ∙ c.algorithm_of-named.ensures in record {
  value = by_unknown _ _ _ e;
  out_after = by_unknown _ _ _ e;
}
