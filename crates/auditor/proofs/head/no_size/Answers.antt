-- `auditor::head::no_size` meets its contract: no number of 64 bits is above the largest size. Assumes nothing.
use mathlib.Core.Path.{◌≡◌, refl}
use mathlib.Core.Bool.{Bool, true, false, ◌||◌}
use native.Mathlib.Omega.{arith}
use borrow.Author.Tests.{le-ltb}
use Rattle.tree.specs.Limits.{largest_size}
use Rattle.auditor.specs.Offer.{outside}
use Rattle.auditor.proofs.head.no_size.Goals as goal

or-never : (b : Bool) → b ≡ (b || false)
or-never true = refl
or-never false = refl

pub returns : goal.returns
unfolding outside
returns c = rw (le-ltb largest_size c.args.size (omega arith)) (or-never _)
