-- How many nodes a path has, by the numbers alone. Assumes nothing: these are definitions.
use Rattle.std.specs.Prelude.{Bool, true, false, cond, ℕ, ◌+◌, ◌-◌, leb, ltb, eqb}
use Rattle.tree.specs.Split.{Shape, one, fork, size, shape}

-- the inclusion path of place m
unfoldable pub inclusion_count_of : Shape → ℕ → ℕ
inclusion_count_of one m = 0
inclusion_count_of (fork a b) m = cond (ltb m (size a)) (1 + inclusion_count_of a m) (1 + inclusion_count_of b (m - size a))

unfoldable pub inclusion_count : ℕ → ℕ → ℕ
inclusion_count m n = inclusion_count_of (shape n) m

-- the consistency path from m
unfoldable pub subproof_count_of : Shape → ℕ → Bool → ℕ
subproof_count_of one m known = cond known 0 1
subproof_count_of (fork a b) m known =
    cond (eqb m (size a + size b)) (cond known 0 1)
    (cond (leb m (size a)) (1 + subproof_count_of a m known) (1 + subproof_count_of b (m - size a) false))

unfoldable pub subproof_count : ℕ → ℕ → Bool → ℕ
subproof_count m n known = subproof_count_of (shape n) m known

unfoldable pub consistency_count : ℕ → ℕ → ℕ
consistency_count m n = subproof_count m n true
