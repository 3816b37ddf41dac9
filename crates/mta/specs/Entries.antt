-- What a caller in C is handed through pointers for the answers of the other crates: a refusal leaves what was there (document 01, 'Answers').
-- Assumes nothing.
use Rattle.std.specs.Prelude.{Bool, true, false, List, [], ℕ}
use Rattle.octets.specs.Answer.{Answer, done, refused}
use Rattle.carry.specs.Forward.{Moved}
use Rattle.carry.specs.Compare.{Likeness}
use Rattle.item.specs.declared.writer.Numbers.{Numbers}
use Rattle.fields.specs.Checked.{Checked, good, bad}
use Rattle.fields.specs.Effect.{Effect}
use Rattle.item.specs.Item.{vectors, write_item}

-- carrying: how many bytes of path were written, 0 where two strings were, and whether they were
abbrev pub written_after : Answer Moved → ℕ → ℕ
written_after (done (Moved.of_path n)) was = n
written_after (done Moved.of_strings) was = 0
written_after (refused x) was = was

abbrev pub collided_after : Answer Moved → Bool → Bool
collided_after (done (Moved.of_path n)) was = false
collided_after (done Moved.of_strings) was = true
collided_after (refused x) was = was

-- comparing: whether two strings were written
abbrev pub differed_after : Answer Likeness → Bool → Bool
differed_after (done Likeness.same) was = false
differed_after (done Likeness.of_strings) was = true
differed_after (refused x) was = was

-- the reader or the writer: 0, or the number of its refusal, and the refusal's place, which is set by every call and is 0 where there is none
abbrev pub number_of : {A : Type 0} → Checked A → ℕ
number_of (good a) = 0
number_of (bad x at) = x

abbrev pub place_of : {A : Type 0} → Checked A → ℕ
place_of (good a) = 0
place_of (bad x at) = at

-- the writer: how many bytes it wrote
abbrev pub length_after : Checked ℕ → ℕ → ℕ
length_after (good n) was = n
length_after (bad x at) was = was

abbrev pub sizes_of : ℕ → ℕ → Numbers
sizes_of first second = record { timestamp = 0; size = 0; size_one = first; size_two = second; place = 0; agreement = 0; page = 0 }

-- a consistency item, written from what it has
unfoldable pub consistency_written : List ℕ → ℕ → ℕ → List ℕ → List ℕ → Effect
consistency_written log first second path out = write_item 0x0105 (sizes_of first second) (vectors log [] [] [] [] [] path []) out
