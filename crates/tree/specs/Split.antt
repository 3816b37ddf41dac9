-- How a list is split, RFC 9162, section 2.1.1. Assumes nothing: these are definitions.
use Rattle.std.specs.Prelude.{true, false, ℕ, zero, suc, ◌+◌, ◌-◌, ◌*◌, ltb}

-- k doubled for as long as its double is smaller than n, at most f times
unfoldable pub doubled : ℕ → ℕ → ℕ → ℕ
doubled zero k n = k
doubled (suc f) k n = elim (ltb (2 * k) n) [ true ↦ doubled f (2 * k) n | false ↦ k ]

-- for n > 1, the largest power of two smaller than n
unfoldable pub split : ℕ → ℕ
split n = doubled n 1 n

-- a list is a single leaf, or the first k and the rest
pub data Shape : Type 0 where
  one : Shape
  fork : Shape → Shape → Shape

unfoldable pub size : Shape → ℕ
size one = 1
size (fork a b) = size a + size b

-- the shape of n leaves, at most f levels deep
unfoldable pub shape_in : ℕ → ℕ → Shape
shape_in zero n = one
shape_in (suc f) n = elim (ltb 1 n) [ true ↦ fork (shape_in f (split n)) (shape_in f (n - split n)) | false ↦ one ]

unfoldable pub shape : ℕ → Shape
shape n = shape_in n n
