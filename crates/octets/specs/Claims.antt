-- What is claimed of byte strings, numbers and refusals: proved in proofs/Sameness, Joining, Putting, Numbers and Refusals. Assumes nothing: these are
-- statements.
use Rattle.std.specs.Prelude.{◌≡◌, ◌↔◌, true, Result, IsOk, List, [], ◌∷◌, ◌++◌, ℕ, ◌+◌, ◌^◌, ◌≤◌, ◌<◌, length, take, drop}
use Rattle.octets.specs.Bytes.{Bytes, same, joined, put_within}
use Rattle.octets.specs.Numbers.{be, unbe}
use Rattle.octets.specs.Answer.{Faithful}
use Rattle.octets.specs.Refusals.{refusal_number, answered, told}
use Rattle.octets.specs.declared.refusal.Refusal.{Refusal}

abbrev pub SameIsEqual : Type 0
SameIsEqual = (s t : List ℕ) → (same s t ≡ true) ↔ (s ≡ t)

-- one string joined is itself, and strings joined in two parts are joined
abbrev pub JoinedIs : Type 0
JoinedIs = ((s : List ℕ) → joined (s ∷ []) ≡ s) × ((a b : List (List ℕ)) → joined (a ++ b) ≡ joined a ++ joined b)

-- what is put stands at its place, the bytes before and after it stay; what does not fit changes nothing
pub record Put (out : List ℕ) (at : ℕ) (b : List ℕ) : Type 0 where
  pub there : at + length b ≤ length out → take (length b) (drop at (put_within out at b)) ≡ b
  pub before : take at (put_within out at b) ≡ take at out
  pub after : drop (at + length b) (put_within out at b) ≡ drop (at + length b) out
  pub unfit : length out < at + length b → put_within out at b ≡ out

abbrev pub PutKeeps : Type 0
PutKeeps = (out : List ℕ) (at : ℕ) (b : List ℕ) → Put out at b

-- a number of w bytes reads back, and bytes that were read are written again
abbrev pub NumberReadsBack : Type 0
NumberReadsBack = (w n : ℕ) → n < 256 ^ w → unbe (be w n) ≡ n

abbrev pub BytesWriteBack : Type 0
BytesWriteBack = (s : List ℕ) → Bytes s → (unbe s < 256 ^ length s) × (be (length s) (unbe s) ≡ s)

-- whatever the number, w bytes are written
abbrev pub NumbersAreBytes : Type 0
NumbersAreBytes = (w n : ℕ) → Bytes (be w n) × (length (be w n) ≡ w)

-- no refusal has the number 0, which is no refusal, and no two have one number
pub record RefusalsTellApart : Type 0 where
  pub refused : (r : Refusal) → 0 < refusal_number r
  pub apart : (r s : Refusal) → refusal_number r ≡ refusal_number s → r ≡ s

-- so that of an answer over them, whatever its values are, its value or number loses nothing, and 0 is told exactly where it is no refusal
pub record AnswersTellApart (A : Type 0) : Type 0 where
  pub lose_nothing : Faithful (answered {A = A})
  pub told_0 : (r : Result A Refusal) → (told r ≡ 0) ↔ IsOk r
