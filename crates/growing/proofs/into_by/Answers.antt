-- `growing::into_by` meets its contract. Assumes nothing.
use mathlib.Core.Path.{◌≡◌, sym, ap, ◌∙◌}
use mathlib.Core.List.{List}
use Prim.Native.Nat.{ℕ}
use native.Mathlib.Omega.{arith}
use borrow.Author.Rules.{rules}
use lib.ListN.{length}
use lib.Seq.{paste}
use Rattle.hash.specs.Digest.{hash_of}
use Rattle.octets.proofs.Putting.{copied_fits}
use Rattle.tree.proofs.Building.{short, long, reports_refused, reports_wrote, over_whole}
use Rattle.growing.specs.Hashes.{root_now}
use Rattle.growing.proofs.Stepping.{root_into_of}
use Rattle.growing.proofs.into_by.Goals as goal

pub returns-then-out-lt32 : goal.returns-then-out-lt32
returns-then-out-lt32 c =
    let a = c.args in
    let r = length a.out.now in
    let m = c.root_of-made in
    let w : length m.result.bytes ≡ 32 = search rules in
    let v : length (root_now (hash_of a.alg) a.g) ≡ 32 = ap length (sym m.ensures) ∙ w in
    reports_refused a.out.now (root_into_of (hash_of a.alg) a.g r ∙ short r (root_now (hash_of a.alg) a.g) (omega arith))

pub returns : goal.returns
returns c =
    let a = c.args in
    let o = a.out.now in
    let m = c.root_of-made in
    let w : length m.result.bytes ≡ 32 = search rules in
    let v : length (root_now (hash_of a.alg) a.g) ≡ 32 = ap length (sym m.ensures) ∙ w in
    let y = copied_fits m.result.bytes 0 32 o 0 (omega arith) (omega arith) c.copy.ensures ∙ ap (λ (h : List ℕ). paste o 0 h 32) m.ensures in
    reports_wrote o (root_into_of (hash_of a.alg) a.g (length o) ∙ long (length o) (root_now (hash_of a.alg) a.g) (omega arith)) (sym v) (over_whole (root_now (hash_of a.alg) a.g) o v y)
