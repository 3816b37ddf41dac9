use borrow.Author.Rules.{rules}
use borrow.Author.Count.{below_none}
use mathlib.Core.Path.{◌≡◌, refl, sym, ◌∙◌}
use native.Mathlib.Omega.{arith}
use Rattle.sm3.proofs.Expansion.{word_first, pair_more}
use Rattle.sm3.proofs.pair_up.Goals as goal

pub loop-j-init : goal.loop-j-init
loop-j-init c = (search rules, search rules, (λ x k. ((λ j h. k j h ∙ sym (word_first x j h)), below_none _)))

pub loop-j-preserved : goal.loop-j-preserved
loop-j-preserved c =
    let l = c.loop-j in (
      search rules,
      search rules,
      (λ x k. pair_more l.w l.invariant.1 x l.j 16 _ (omega arith) (omega arith) (l.invariant.2 x k) refl),
    )

pub returns : goal.returns
returns c =
    let l = c.loop-j in
    let e : l.j ≡ 12 = omega arith in
    rw e at l.invariant.2
