-- `carry::bytes::put_string` meets its contract: three pieces, one behind the other. Assumes nothing.
use mathlib.Core.Path.{◌≡◌}
use native.Mathlib.Omega.{arith}
use lib.ListN.{length}
use borrow.Author.Rules.{rules}
use Rattle.carry.proofs.Writing.{string_put}
use Rattle.carry.proofs.bytes.put_string.Goals as goal

-- UNMATCHED slice-aggregate-copy-3 : tie.Need-slice-aggregate-copy-3
pub returns : goal.returns
returns c =
    let start = c in
    let a = start.args.a.bytes in
    let b = start.args.b.bytes in
    let u : length a ≡ 32 = search rules in
    let v : length b ≡ 32 = search rules in
    let one = c.copy in
    let two = c.copy-2 in
    let three = c.copy-3 in
    string_put start.args.at a b start.args.out.now one.new.out two.new.out three.new.out u v (omega (arith, start.requires)) one.auto.out two.auto.out one.ensures two.ensures three.ensures
