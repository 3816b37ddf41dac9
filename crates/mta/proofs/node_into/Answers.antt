use mathlib.Core.Path.{◌≡◌, ap, ap₂, ◌∙◌}
use native.Mathlib.Omega.{arith}
use lib.ListN.{length}
use Rattle.octets.proofs.Putting.{put_over}
use Rattle.octets.specs.Bytes.{over}
use Rattle.hash.specs.Digest.{hash_of, node_hash}
use Rattle.hash.proofs.Promises.{hash_length}
use Rattle.mta.proofs.Outcomes.{node_left, node_right, node_short, node_done}
use Rattle.mta.proofs.node_into.Goals as goal

pub returns-then-left-ne32 : goal.returns-then-left-ne32
returns-then-left-ne32 c = let a = c.args in let all = node_left (hash_of a.alg) a.left.now a.right.now a.out.now c.if-left-ne32.true in
    record {
      value = all.0;
      out_after = all.1;
    }

pub returns-then-right-ne32 : goal.returns-then-right-ne32
returns-then-right-ne32 c = let a = c.args in let all = node_right (hash_of a.alg) a.left.now a.right.now a.out.now c.if-left-ne32.false c.if-right-ne32.true in
    record {
      value = all.0;
      out_after = all.1;
    }

pub returns-then-out-lt32 : goal.returns-then-out-lt32
returns-then-out-lt32 c = let a = c.args in let all = node_short (hash_of a.alg) a.left.now a.right.now a.out.now c.if-left-ne32.false c.if-right-ne32.false c.if-out-lt32.true in
    record {
      value = all.0;
      out_after = all.1;
    }

pub returns : goal.returns
unfolding over
returns c =
    let i = c in
    let a = i.args in
    let l = a.left.now in
    let r = a.right.now in
    let o = a.out.now in
    let h = c in
    let b = h.node-d.result.bytes in
    let e : b ≡ node_hash a.alg l r = h.node-d.ensures ∙ ap₂ (node_hash a.alg) h.digest_from.ensures h.digest_from-2.ensures in
    let n : length b ≡ 32 = ap length e ∙ hash_length a.alg _ in
    let d = node_done (hash_of a.alg) l r o i.if-left-ne32.false i.if-right-ne32.false i.if-out-lt32.false in
    record {
      value = d.0;
      out_after = c.put.ensures ∙ put_over o b (omega (arith, n)) ∙ rw (n, e) d.1;
    }
