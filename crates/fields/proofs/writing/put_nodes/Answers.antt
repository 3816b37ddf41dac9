use mathlib.Core.Path.{◌≡◌, ap, ◌∙◌}
use mathlib.Core.List.{List, [], ◌∷◌}
use Prim.Native.Nat.{ℕ, ◌+◌, ◌*◌, ◌/◌, ◌≤◌, ◌<◌}
use native.Mathlib.Omega.{arith}
use lib.ListN.{length, take, drop, set, length-set, length-drop}
use lib.Seq.{length-take-le}
use borrow.Author.Rules.{rules}
use Rattle.fields.specs.Write.{prefixed}
use Rattle.octets.specs.Bytes.{put, put_within}
use Rattle.fields.proofs.Bodies.{prefixed_length}
use Rattle.octets.proofs.Putting.{put_then, set_put, put_more, put_all, put_in}
use Rattle.fields.proofs.Putting.{next_hash}
use Rattle.fields.proofs.writing.put_nodes.Goals as goal

-- one more hash: the store of its length, and the copy
one_more : (out₀ out v : List ℕ) (at n k : ℕ) → 32 * n ≤ length v → at + n * 33 ≤ length out₀ → k < n → out ≡ put out₀ at (take (k * 33) (prefixed n v)) → length out ≡ length out₀ → (x : List ℕ) → x ≡ take 32 (drop (k * 32) v) → put_within (set out (at + k * 33) 32) (at + k * 33 + 1) x ≡ put out₀ at (take ((k + 1) * 33) (prefixed n v))
one_more out₀ out v at n k g r h e s x is =
    let l : length (take 32 (drop (k * 32) v)) ≡ 32 = length-take-le 32 (drop (k * 32) v) (rw length-drop (omega arith)) in
    let a : set out (at + k * 33) 32 ≡ put out (at + k * 33) (32 ∷ []) = set_put out (at + k * 33) 32 (omega arith) in
    let b : put (put out (at + k * 33) (32 ∷ [])) (at + k * 33 + 1) (take 32 (drop (k * 32) v)) ≡ put out (at + k * 33) (32 ∷ take 32 (drop (k * 32) v)) = put_then out (32 ∷ []) (take 32 (drop (k * 32) v)) (at + k * 33) (omega arith) in
    let q = prefixed_length n v g in
    let t = put_more out₀ (prefixed n v) (32 ∷ take 32 (drop (k * 32) v)) _ at (k * 33) (omega arith) (omega arith) (next_hash k n v h g) in
    let m : k * 33 + length (32 ∷ take 32 (drop (k * 32) v)) ≡ (k + 1) * 33 = omega arith in
    let y : at + k * 33 + 1 + length x ≤ length (set out (at + k * 33) 32) = simp length-set (omega (arith, ap length is)) in
    put_in (set out (at + k * 33) 32) x (at + k * 33 + 1) y ∙ ap (put (set out (at + k * 33) 32) (at + k * 33 + 1)) is ∙ rw a (b ∙ ap (λ (o : List ℕ). put o (at + k * 33) (32 ∷ take 32 (drop (k * 32) v))) e ∙ t ∙ ap (λ (j : ℕ). put out₀ at (take j (prefixed n v))) m)

pub loop-k-preserved : goal.loop-k-preserved
loop-k-preserved c =
    let a = c.args in
    let l = c.loop-k in
    let long : length l.out ≡ length a.out.now = search rules in
    c.put.ensures ∙ one_more a.out.now l.out a.v.now a.at (length a.v.now / 32) l.k (omega arith) (omega arith) (omega arith) l.invariant long _ c.hash_at-h.ensures

pub returns : goal.returns
returns c =
    let a = c.args in
    let q = prefixed_length (length a.v.now / 32) a.v.now (omega arith) in
    c.loop-k.invariant ∙ put_all a.out.now (prefixed (length a.v.now / 32) a.v.now) a.at (c.loop-k.k * 33) (omega arith)
