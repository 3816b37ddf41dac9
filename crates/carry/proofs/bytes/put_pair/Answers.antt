-- `carry::bytes::put_pair` meets its contract: two strings, one behind the other. Assumes nothing.
use mathlib.Core.Path.{◌≡◌, refl}
use mathlib.Core.List.{◌++◌}
use native.Mathlib.Omega.{arith}
use lib.ListN.{length, length-append}
use borrow.Author.Rules.{rules}
use Rattle.carry.specs.Strings.{string}
use Rattle.carry.proofs.Writing.{then, written}
use Rattle.carry.proofs.bytes.put_pair.Goals as goal

pub returns : goal.returns
returns c =
    let start = c in
    let a = start.args.a.bytes in
    let b = start.args.b.bytes in
    let u : length a ≡ 32 = search rules in
    let v : length b ≡ 32 = search rules in
    let l : length (string a b) ≡ 65 = simp length-append (omega arith) in
    let o = start.args.out.now in
    let one = c.put_string in
    let two = c.put_string-2 in
    let x = one.new.out in
    let y = two.new.out in
    let w = string start.args.c.bytes start.args.d.bytes in
    written (string a b ++ w) o y (then 0 65 65 (string a b) w o x y refl one.ensures l two.ensures)
