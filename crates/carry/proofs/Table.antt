-- The starred cases hold, at any hash. Assumes nothing.
use mathlib.Core.Path.{◌≡◌, refl, sym, ap, ◌∙◌}
use mathlib.Core.List.{List, [], ◌∷◌}
use Prim.Native.Nat.{ℕ, ◌≤◌, ◌<◌}
use native.Mathlib.Omega.{arith}
use lib.ListN.{length, take, get_or}
use Rattle.tree.specs.Limits.{largest_size}
use Rattle.tree.specs.Split.{doubled, split, size, shape_in, shape}
use Rattle.tree.specs.Tree.{root_of, root, path_of, path, subproof_of, subproof, consistency}
use Rattle.tree.specs.Yield.{init, last, consistency_root_of}
use Rattle.octets.specs.Bytes.{joined}
use Rattle.tree.specs.Verdict.{consistency_verdict}
use Rattle.tree.proofs.Joining.{All32}
use Rattle.carry.specs.Forward.{forward_of, forward, carry}
use Rattle.carry.specs.Cases.{CarriedTo, Starred}
use Rattle.carry.proofs.Honest.{honest_list, own_inclusion, own_consistency, own_carried}

-- seven leaf hashes' own proofs
own : (H : List ℕ → List ℕ) (H32 : (s : List ℕ) → length (H s) ≡ 32) (l : List (List ℕ)) → All32 l → length l ≡ 7 → (m x : ℕ) → x < m → m ≤ 7 → CarriedTo H l m x (path H x (take m l)) (path H x l)
own H H32 l all e m x xm le =
    let k : m ≤ length l = omega arith in
    let most : length l ≤ largest_size = omega arith in
    let o = root H (take m l) in
    let q = joined (consistency H m l) in
    record {
      inclusion = own_inclusion H H32 l all m x xm k most;
      consistent = ap (λ (n : ℕ). consistency_verdict H m n o (root H l) q) (sym e) ∙ own_consistency H H32 l all m x xm k most;
      carries = λ room pair fits long.
          ap (λ (n : ℕ). carry H (get_or l x []) x m n o (root H l) (joined (path H x (take m l))) q room pair) (sym e) ∙ own_carried H H32 l all m x xm k most room pair fits long;
    }

pub starred : Starred
unfolding All32 doubled split size shape_in shape root_of root path_of path subproof_of subproof consistency init last consistency_root_of forward_of forward
starred H a b c d e f j =
    let l : List (List ℕ) = a ∷ b ∷ c ∷ d ∷ e ∷ f ∷ j ∷ [] in
    let three = root H (take 3 l) in
    let six = root H (take 6 l) in (
      refl,
      (
        refl,
        (
          refl,
          (
            refl,
            (
              refl,
              (
                refl,
                (
                  refl,
                  (
                    (refl, (honest_list H l 3 0 three (omega arith) (omega arith)).0, refl, λ h32 all. own H h32 l all refl 3 0 (omega arith) (omega arith)),
                    (
                      (refl, (honest_list H l 3 2 three (omega arith) (omega arith)).0, refl, λ h32 all. own H h32 l all refl 3 2 (omega arith) (omega arith)),
                      ((refl, (honest_list H l 6 5 six (omega arith) (omega arith)).0, refl, λ h32 all. own H h32 l all refl 6 5 (omega arith) (omega arith)), tt),
                    ),
                  ),
                ),
              ),
            ),
          ),
        ),
      ),
    )
