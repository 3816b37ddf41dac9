use mathlib.Core.Path.{sym, ◌∙◌}
use Rattle.hash.proofs.Algorithms.{by_known, by_unknown}
use Rattle.hash.proofs.by_number.leaf.Goals as goal

pub returns-in-By : goal.returns-in-By
returns-in-By c =
    let named = c in
    let e = sym named.in-By.is ∙ named.algorithm_of-named.ensures in
    let done = c.leaf.ensures in
    record {
      number_value = done.number_value ∙ by_known _ _ _ _ e;
      bytes_value = done.bytes_value ∙ by_known _ _ _ _ e;
    }

pub returns-in-Unknown : goal.returns-in-Unknown
returns-in-Unknown c =
    let told = c in
    let e = sym told.in-Unknown.is ∙ told.algorithm_of-named.ensures in
    record {
      number_value = c.unknown.ensures.0 ∙ by_unknown _ _ _ e;
      bytes_value = c.unknown.ensures.1 ∙ by_unknown _ _ _ e;
    }
