-- What a writer answers and leaves: how many bytes it wrote, or its refusal with the place, and what the lent bytes then hold. Assumes nothing.
use Rattle.std.specs.Prelude.{ℕ, List, ◌++◌, cond, length, drop, ltb}
use Rattle.fields.specs.Checked.{Checked, good, bad}

-- how many bytes a field takes
abbrev pub takes : Checked (List ℕ) → Checked ℕ
takes (good b) = good (length b)
takes (bad x at) = bad x at

pub record Effect : Type 0 where
  pub answer : Checked ℕ
  pub bytes : List ℕ

abbrev pub unwritten : ℕ → ℕ → List ℕ → Effect
unwritten x at out = record { answer = bad x at; bytes = out }

abbrev pub wrote : List ℕ → List ℕ → Effect
wrote b out = record { answer = good (length b); bytes = b ++ drop (length b) out }

-- no buffer is longer than this; a place past it is none, as there is no room up to it
abbrev pub longest : ℕ
longest = 9223372036854775807

abbrev pub within : Checked (List ℕ) → Checked (List ℕ)
within (good b) = good b
within (bad x at) = cond (ltb longest at) (bad 9 0) (bad x at)

-- bytes put into the lent ones; 9 at 0 where they do not fit; a refusal leaves the lent bytes as they are
abbrev pub effect : List ℕ → Checked (List ℕ) → Effect
effect out (bad x at) = unwritten x at out
effect out (good b) = cond (ltb (length out) (length b)) (unwritten 9 0 out) (wrote b out)
