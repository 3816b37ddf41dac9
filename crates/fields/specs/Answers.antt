-- What reading a layout answers: the parts that were found, in the layout's order, and the refusal if there is one. Assumes nothing.
use Rattle.std.specs.Prelude.{ℕ, List, [], ◌∷◌, ◌++◌, length, drop, Result, Ok, Err}
use Rattle.octets.specs.Refusals.{refusal_number}
use Rattle.fields.specs.declared.layout.Part.{Part}
use Rattle.fields.specs.declared.reading.LayoutRefused.{LayoutRefused}
use Rattle.fields.specs.Checked.{Checked, good, bad}

abbrev pub no_part : Part
no_part = record { start = 0; len = 0; value = 0 }

abbrev pub no_parts : List Part
no_parts = no_part ∷ no_part ∷ no_part ∷ no_part ∷ no_part ∷ no_part ∷ no_part ∷ no_part ∷ []

-- the parts found, and zeros up to the most that there can be
abbrev pub with_zeros : List Part → List Part
with_zeros ps = ps ++ drop (length ps) no_parts

-- where the fields lie, or the number and the place of a refusal, and how many fields were found; a refusal's number is never 0
pub record LayoutRead : Type 0 where
  pub number : ℕ
  pub place : ℕ
  pub met : ℕ
  pub parts : List Part

-- the parts found and what was read
abbrev pub layout_read : List Part → Checked (List Part) → LayoutRead
layout_read ps (good qs) = record { number = 0; place = 0; met = length ps; parts = with_zeros ps }
layout_read ps (bad x at) = record { number = x; place = at; met = length ps; parts = with_zeros ps }

-- what each case of the code's answer says, of a layout of n fields: where nothing is refused, all of them were found
abbrev pub told_of : ℕ → Result (List Part) LayoutRefused → LayoutRead
told_of n (Ok parts) = record { number = 0; place = 0; met = n; parts = parts }
told_of n (Err e) = record { number = refusal_number e.refusal; place = e.place; met = e.met; parts = e.parts }
