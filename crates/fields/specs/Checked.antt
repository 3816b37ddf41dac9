-- What each function answers: what was asked for, or document 01's number of a refusal and the place that it is given at. Assumes nothing.
use Rattle.std.specs.Prelude.{ℕ, ◌+◌, Result, Ok, Err}
use Rattle.octets.specs.Refusals.{refusal_number}
use Rattle.fields.specs.declared.layout.RefusedAt.{RefusedAt}

pub data Checked (A : Type 0) : Type 0 where
  good : A → Checked A
  bad : (number place : ℕ) → Checked A

-- what each case of the code's answer says
abbrev pub checked : {A : Type 0} → Result A RefusedAt → Checked A
checked (Ok a) = good a
checked (Err e) = bad (refusal_number e.refusal) e.place

-- go on with an answer that is good
abbrev pub then : {A B : Type 0} → Checked A → (A → Checked B) → Checked B
then (good a) go = go a
then (bad x at) go = bad x at

-- a place counted from another start
abbrev pub moved : {A : Type 0} → ℕ → Checked A → Checked A
moved by (good a) = good a
moved by (bad x at) = bad x (by + at)
