use mathlib.Core.Path.{◌≡◌, ap, ◌∙◌}
use Prim.Native.Nat.{◌*◌, ◌+◌}
use native.Mathlib.Omega.{arith}
use lib.ListN.{length, take, drop, length-drop}
use lib.Seq.{length-take-le}
use borrow.Author.Rules.{rules}
use Rattle.fields.specs.Write.{stripped}
use Rattle.octets.specs.Bytes.{put}
use Rattle.octets.proofs.Putting.{put_all, put_in}
use Rattle.fields.proofs.Stripping.{stripped_length, one_more}
use Rattle.fields.proofs.path.join_nodes.Goals as goal

pub loop-k-preserved : goal.loop-k-preserved
loop-k-preserved c =
    let a = c.args in
    let l = c.loop-k in
    let k = l.k in
    let long : length l.out ≡ length a.out.now = search rules in
    let o = one_more a.out.now l.out a.s.now a.start a.n k (omega arith) (omega arith) (omega arith) l.invariant in
    let i : c.hash_at-h.result ≡ take 32 (drop (a.start + k * 33 + 1) a.s.now) = c.hash_at-h.ensures in
    let m : length (take 32 (drop (a.start + k * 33 + 1) a.s.now)) ≡ 32 = length-take-le 32 (drop (a.start + k * 33 + 1) a.s.now) (rw (length-drop (a.start + k * 33 + 1) a.s.now) (omega arith)) in
    c.put.ensures ∙ put_in l.out _ (k * 32) (omega (arith, ap length i, long)) ∙ ap (put l.out (k * 32)) i ∙ o

pub returns : goal.returns
returns c =
    let a = c.args in
    let b = drop a.start a.s.now in
    let q = stripped_length a.n b (rw length-drop (omega arith)) in
    c.loop-k.invariant ∙ put_all a.out.now (stripped a.n b) 0 (c.loop-k.k * 32) (omega arith)
