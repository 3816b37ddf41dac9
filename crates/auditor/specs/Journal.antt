-- A journal: accepted heads joined in a lent buffer, one after the other, each by the arguments of its offer. Assumes nothing: these are definitions.
use Rattle.std.specs.Prelude.{cond, not, ◌||◌, List, ℕ, ◌+◌, ◌-◌, ◌*◌, ◌%◌, ltb, eqb, length}
use Rattle.tree.specs.Build.{Outcome, refused, wrote, into}
use Rattle.octets.specs.Bytes.{put}
use Rattle.octets.specs.Answer.{Answer, done}
use Rattle.auditor.specs.declared.journal.Appended.{Appended}
use Rattle.auditor.specs.declared.journal.Appended.TheVariants.{Used, Refused}
use Rattle.auditor.specs.Heads.{end, then, joined_heads}

-- the most nodes that the two bytes of a count hold
abbrev pub most_count : ℕ
most_count = 65535

-- One head joined on in a buffer of `room` bytes, of which so many are used: 5 for a root not of 32 bytes or a path of too many nodes, 10 for a path not of
-- whole nodes, 9 where the head does not fit behind what is used.
unfoldable pub append : ℕ → ℕ → ℕ → List ℕ → List ℕ → Outcome
append room used size root path =
    cond (not (eqb (length root) 32) || ltb (32 * most_count) (length path)) (refused 5)
    (cond (not (eqb (length path % 32) 0)) (refused 10)
    (into (room - used) (joined_heads (then size root path end))))

-- what it reports: the number, or how many bytes are used after it
unfoldable pub append_report : ℕ → Outcome → Answer ℕ
append_report used (refused n) = Answer.refused n
append_report used (wrote w) = done (used + length w)

-- the buffer after it: a refusal changes nothing, and the bytes before and after the head stay
unfoldable pub journal_after : ℕ → Outcome → List ℕ → List ℕ
journal_after used (refused n) b = b
journal_after used (wrote w) b = put b used w

-- what each case of the code's answer reports
abbrev pub appending : Appended → Answer ℕ
appending (Used n) = done n
appending (Refused n) = Answer.refused n
