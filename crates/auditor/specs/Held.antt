-- The auditor's record: document 01, 'Auditor', and document 02, requests 7 and 8. Assumes nothing: these are definitions.
use Rattle.std.specs.Prelude.{true, false, cond, List, ℕ, length, take, replicate}
use Rattle.octets.specs.Bytes.{over}
use Rattle.hash.specs.declared.Named.{Named}
use Rattle.hash.specs.Algorithm.{algorithm_of, held_by}
use Rattle.auditor.specs.declared.Evidence.{Evidence}
use Rattle.auditor.specs.declared.Record.{Record}
use Rattle.auditor.specs.declared.Answered.{Answered}

-- empty, or one head: log id, timestamp, size, root
pub data Held : Type 0 where
  empty : Held
  head : (id : List ℕ) (timestamp size : ℕ) (root : List ℕ) → Held

-- the log id of the code's record: as many of its bytes as the length says
abbrev pub id_of : Record → List ℕ
id_of r = take r.idlen r.id

-- what every value of the code's record stands for
unfoldable pub view : Record → Held
view r = cond r.held (head (id_of r) r.timestamp r.size r.root) empty

-- the hash that a call by the number n goes by: none where no hash has it, or the record holds another
unfoldable pub choice : Record → ℕ → Named
choice r n = cond r.held (held_by r.algorithm n) (algorithm_of n)

-- the code's answer of a call that leaves the record as it was
abbrev pub stayed : ℕ → Record → Answered
stayed n r = record { number = n; after = r }

-- the code's empty second place
unfoldable pub no_evidence : Evidence
no_evidence = record { number = 0; id = replicate 127 0; idlen = 0; timestamp = 0; size = 0; root = replicate 32 0 }

-- the code's empty record
unfoldable pub empty_record : Record
empty_record =
    record { held = false; algorithm = 0; id = replicate 127 0; idlen = 0; timestamp = 0; size = 0; root = replicate 32 0; evidence = no_evidence }

-- the code's record of a head under the number n, with its second place: the log id has zeros after it
unfoldable pub holding : ℕ → List ℕ → ℕ → ℕ → List ℕ → Evidence → Record
holding n id timestamp size root e =
    record { held = true; algorithm = n; id = over id (replicate 127 0); idlen = length id; timestamp = timestamp; size = size; root = root; evidence = e }
