-- Refusals by their numbers, and what a function answers that can refuse: document 01, 'Answers'. Assumes nothing: these are definitions.
use Rattle.std.specs.Prelude.{ℕ, Result, Ok, Err}
use Rattle.octets.specs.Answer.{Answer, done, refused, number}
use Rattle.octets.specs.declared.refusal.Refusal.{Refusal}
use Rattle.octets.specs.declared.refusal.Refusal.TheVariants.{TooLong, CutShort, BytesAfter, UnknownType, Length, OutOfRange, NodeCount, RootDisagrees}
use Rattle.octets.specs.declared.refusal.Refusal.TheVariants.{NoRoom, Joined, OtherLog, EarlierTimestamp, OtherRoot, NoHead, OutOfOrder, UnknownHash}

-- the number in the table
abbrev pub refusal_number : Refusal → ℕ
refusal_number TooLong = 1
refusal_number CutShort = 2
refusal_number BytesAfter = 3
refusal_number UnknownType = 4
refusal_number Length = 5
refusal_number OutOfRange = 6
refusal_number NodeCount = 7
refusal_number RootDisagrees = 8
refusal_number NoRoom = 9
refusal_number Joined = 10
refusal_number OtherLog = 11
refusal_number EarlierTimestamp = 12
refusal_number OtherRoot = 13
refusal_number NoHead = 14
refusal_number OutOfOrder = 15
refusal_number UnknownHash = 16

-- what each case of the code's answer says: its value, or the number of its refusal
abbrev pub answered : {A : Type 0} → Result A Refusal → Answer A
answered (Ok a) = done a
answered (Err r) = refused (refusal_number r)

-- 0, or that number
abbrev pub told : {A : Type 0} → Result A Refusal → ℕ
told r = number (answered r)
