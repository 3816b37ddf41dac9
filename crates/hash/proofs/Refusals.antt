-- What each outcome of a hash answers and leaves, once for every limit and value. Assumes nothing.
use mathlib.Core.Path.{◌≡◌}
use mathlib.Core.List.{List, ◌++◌}
use Prim.Native.Nat.{ℕ, ◌<◌, ◌≤◌}
use lib.ListN.{length, drop, replicate}
use borrow.Author.Tests.{lt-ltb, le-ltb}
use Rattle.hash.specs.Answers.{value_number, value_bytes, into_number, into_bytes}

module _ (most : ℕ) (input v : List ℕ) where
  pub value_long : most < length input → (1 ≡ value_number most input) × (replicate 32 0 ≡ value_bytes most input v)
  unfolding value_number value_bytes
  value_long h = let e = lt-ltb most (length input) h in (simp e, simp e)

  pub value_done : length input ≤ most → (0 ≡ value_number most input) × (v ≡ value_bytes most input v)
  unfolding value_number value_bytes
  value_done h = let e = le-ltb most (length input) h in (simp e, simp e)

module _ (most : ℕ) (input v out : List ℕ) where
  pub into_long : most < length input → (1 ≡ into_number most input out) × (out ≡ into_bytes most input v out)
  unfolding into_number into_bytes
  into_long h = let e = lt-ltb most (length input) h in (simp e, simp e)

  pub into_short : length input ≤ most → length out < 32 → (9 ≡ into_number most input out) × (out ≡ into_bytes most input v out)
  unfolding into_number into_bytes
  into_short h k = let e = le-ltb most (length input) h in let f = lt-ltb (length out) 32 k in (simp (e, f), simp (e, f))

  pub into_done : length input ≤ most → 32 ≤ length out → (0 ≡ into_number most input out) × (v ++ drop 32 out ≡ into_bytes most input v out)
  unfolding into_number into_bytes
  into_done h k = let e = le-ltb most (length input) h in let f = le-ltb (length out) 32 k in (simp (e, f), simp (e, f))
