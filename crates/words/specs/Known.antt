-- Sequences of words, and words that stand in lent memory. Assumes nothing.
use Rattle.std.specs.Prelude.{◌≡◌, ℕ, zero, suc, ◌+◌, ◌<◌, cond, List, [], ◌∷◌, ◌++◌, length, drop, nat_le, slice_index}
use Rattle.words.specs.Words.{word_from}

-- the elements of w below n are those of g
abbrev pub Known : List ℕ → (ℕ → ℕ) → ℕ → Type 0
Known w g n = (j : ℕ) → j < n → slice_index w j ≡ g j

-- the first n of a sequence, each made from the list of those before it and its number
unfoldable pub course : (List ℕ → ℕ → ℕ) → ℕ → List ℕ
course A zero = []
course A (suc n) = course A n ++ (A (course A n) n ∷ [])

-- the one at n
unfoldable pub value : (List ℕ → ℕ → ℕ) → ℕ → ℕ
value A n = A (course A n) n

-- the first n values of a function
unfoldable pub listed : (ℕ → ℕ) → ℕ → List ℕ
listed f = course (λ _ j. f j)

-- w after the sixteen words of the 64 bytes from p on are written over its first; as it was where m has fewer bytes or w fewer words
unfoldable pub loaded : List ℕ → ℕ → List ℕ → List ℕ
loaded m p w = cond (nat_le (p + 64) (length m)) (cond (nat_le 16 (length w)) (listed (word_from m p) 16 ++ drop 16 w) w) w
