-- What a public function answers: its values, or the number of its refusal (document 01, 'Answers'). Each public enum has one definition that gives this
-- for each of its cases, and contracts use it. Assumes nothing: these are definitions.
use Rattle.std.specs.Prelude.{◌≡◌, ℕ}

pub data Answer (A : Type 0) : Type 0 where
  done : A → Answer A
  refused : ℕ → Answer A

-- document 01's number: 0 where it is no refusal
abbrev pub number : {A : Type 0} → Answer A → ℕ
number (done a) = 0
number (refused n) = n

-- a definition that gives what each case of an enum answers loses nothing
abbrev pub Faithful : {A B : Type 0} → (A → Answer B) → Type 0
Faithful {A} answers = (x y : A) → answers x ≡ answers y → x ≡ y
