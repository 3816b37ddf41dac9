-- Byte strings: equality, and writing over a buffer. Assumes nothing: these are definitions.
use Rattle.std.specs.Prelude.{Bool, true, false, cond, ◌&&◌, List, [], ◌∷◌, ◌++◌, ℕ, ◌+◌, ◌<◌, leb, eqb, length, take, drop}

-- every element is a byte
pub data Bytes : List ℕ → Type 0 where
  no_bytes : Bytes []
  one_byte : {b : ℕ} {bs : List ℕ} → b < 256 → Bytes bs → Bytes (b ∷ bs)

-- whether two byte strings are the same
unfoldable pub same : List ℕ → List ℕ → Bool
same [] [] = true
same [] (y ∷ t) = false
same (x ∷ s) [] = false
same (x ∷ s) (y ∷ t) = eqb x y && same s t

-- byte strings joined, one after the other
unfoldable pub joined : List (List ℕ) → List ℕ
joined [] = []
joined (s ∷ l) = s ++ joined l

-- a buffer whose first bytes are written over
unfoldable pub over : List ℕ → List ℕ → List ℕ
over w out = w ++ drop (length w) out

-- a buffer whose bytes from a place on are written over
abbrev pub put : List ℕ → ℕ → List ℕ → List ℕ
put out at b = take at out ++ (b ++ drop (at + length b) out)

-- the same of any bytes and any place: nothing is written where they do not fit
unfoldable pub put_within : List ℕ → ℕ → List ℕ → List ℕ
put_within out at b = cond (leb (at + length b) (length out)) (put out at b) out

-- `len` bytes of s from a place on, written over a buffer from a place on; nothing is written where either ends before
unfoldable pub copied : List ℕ → ℕ → ℕ → List ℕ → ℕ → List ℕ
copied s from len out at = cond (leb (from + len) (length s)) (put_within out at (take len (drop from s))) out
