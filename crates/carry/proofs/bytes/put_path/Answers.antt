-- `carry::bytes::put_path` meets its contract: three pieces, one behind the other. Assumes nothing.
use mathlib.Core.Path.{◌≡◌, refl}
use mathlib.Core.List.{◌++◌}
use Prim.Native.Nat.{◌+◌, ◌-◌, ◌*◌}
use native.Mathlib.Omega.{arith}
use lib.ListN.{length, take, drop, length-append, length-take, length-drop}
use lib.Seq.{take_all}
use borrow.Author.Rules.{rules}
use Rattle.octets.proofs.Putting.{copied_fits}
use Rattle.carry.proofs.Writing.{pasted, then, written}
use Rattle.carry.proofs.bytes.put_path.Goals as goal

pub returns : goal.returns
returns c =
    let start = c in
    let pre = start.requires in
    let path = start.args.path.now in
    let s = start.args.sibling.bytes in
    let proof = start.args.proof.now in
    let p = 32 * start.args.low in
    let e = 32 * start.args.hashed in
    let q = 32 * start.args.high in
    let r = length proof - q in
    let k : length s ≡ 32 = search rules in
    let t : take r (drop q proof) ≡ drop q proof = take_all r (drop q proof) (simp length-drop (omega arith)) in
    let l₁ : length (take p path) ≡ p = simp length-take (omega (arith, pre)) in
    let l₂ : length (take e s) ≡ e = simp length-take (omega (arith, pre)) in
    let o₁ = start.args.out.now in
    let one = c.copy in
    let two = c.copy-2 in
    let three = c.copy-3 in
    let x = one.new.out in
    let y = two.new.out in
    let z = three.new.out in
    let lx = one.auto.out in
    let ly = two.auto.out in
    let a = pasted 0 p path o₁ x (omega (arith, pre)) (copied_fits path 0 p o₁ 0 (omega (arith, pre)) (omega (arith, pre)) one.ensures) in
    let b = pasted p e s x y (omega (arith, pre)) (copied_fits s 0 e x p (omega (arith, pre, k)) (omega (arith, pre, lx)) two.ensures) in
    let d = rw t at (pasted (p + e) r (drop q proof) y z (simp length-drop (omega (arith, pre))) (copied_fits proof q r y (p + e) (omega (arith, pre)) (omega (arith, pre, lx, ly)) three.ensures)) in
    (simp (length-append, length-take, length-drop) (omega (arith, pre)), written (take p path ++ (take e s ++ drop q proof)) o₁ z (then 0 p p (take p path) (take e s ++ drop q proof) o₁ x z (omega arith) a l₁ (then p e (p + e) (take e s) (drop q proof) x y z refl b l₂ d)))
