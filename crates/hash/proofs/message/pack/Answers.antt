use mathlib.Core.Path.{◌≡◌, sym, ap, ◌∙◌}
use mathlib.Core.List.{List, ◌++◌}
use Prim.Native.Nat.{ℕ, ◌+◌, ◌-◌, ◌*◌}
use native.Mathlib.Omega.{arith}
use lib.ListN.{length, set, replicate, length-append, length-set}
use lib.Seq.{paste}
use Rattle.octets.proofs.Numbers.{be_length}
use Rattle.octets.proofs.Putting.{pasted}
use Rattle.hash.proofs.Padding.{packed}
use Rattle.hash.proofs.message.pack.Goals as goal

pub join-requires : goal.join-requires
join-requires c = (omega arith, c.requires.end_value.1)

pub shape_of-a : goal.shape_of-a
shape_of-a c = c.put.auto.out ∙ simp length-set c.join.auto.a

pub returns : goal.returns
returns c =
    let joined = c in
    let made = joined in
    let start = made in
    let a = start.args in
    let p = start.requires in
    let x : List ℕ = a.head.now ++ a.rest.now in
    let b : List ℕ = made.be8-b.result in
    let l : length x ≡ length a.head.now + length a.rest.now = length-append a.head.now a.rest.now in
    let d : List ℕ = joined.join.new.a in
    let e : d ≡ x ++ replicate (128 - length x) 0 = rw (sym p.end_value.2, l) joined.join.ensures in
    let k : length b ≡ 8 = ap length made.be8-b.ensures ∙ be_length 8 (8 * a.n) in
    let m : length (set d (length x) 0x80) ≡ 128 = length-set d (length x) 0x80 ∙ joined.join.auto.a ∙ p.end_value.2 in
    let f : c.put.new.out ≡ paste (set d (length x) 0x80) (a.end - 8) b (length b) =
    pasted (set d (length x) 0x80) b (a.end - 8) (omega (arith, p.rest_len_bound.0, p.end_value.0, k, m)) (rw l c.put.ensures) in
    packed x d b c.put.new.out a.n a.end (omega arith) (rw l p.rest_len_bound.2) (rw l p.end_value.0) e made.be8-b.ensures f
