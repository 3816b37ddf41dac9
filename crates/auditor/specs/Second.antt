-- The record's second place: document 02, request 8, 'keep the head that was refused'. Assumes nothing: these are definitions.
use Rattle.std.specs.Prelude.{Bool, false, cond, not, ◌&&◌, ◌||◌, List, ℕ, eqb, length, take, replicate}
use Rattle.octets.specs.Bytes.{same, over}
use Rattle.auditor.specs.declared.Evidence.{Evidence}
use Rattle.auditor.specs.declared.Record.{Record}
use Rattle.auditor.specs.Held.{Held, empty, head}

-- empty, or a refused head with its number
pub data Second : Type 0 where
  none : Second
  refused_head : (number : ℕ) (id : List ℕ) (timestamp size : ℕ) (root : List ℕ) → Second

-- what every value of the code's second place stands for
unfoldable pub stands_for : Evidence → Second
stands_for e = cond (eqb e.number 0) none (refused_head e.number (take e.idlen e.id) e.timestamp e.size e.root)

abbrev pub second : Record → Second
second r = stands_for r.evidence

-- a head of the size held, with another root
unfoldable pub other_root : Held → ℕ → List ℕ → Bool
other_root empty size root = false
other_root (head id₀ time₀ size₀ root₀) size root = eqb size size₀ && not (same root root₀)

-- whether a head that was refused with a number is kept: 8, 13, and 12 where its size is the held one and its root another
unfoldable pub is_evidence : Held → ℕ → ℕ → List ℕ → Bool
is_evidence held number size root = eqb number 8 || (eqb number 13 || (eqb number 12 && other_root held size root))

-- the code's second place of a refused head: the log id has zeros after it
unfoldable pub evidence_of : ℕ → List ℕ → ℕ → ℕ → List ℕ → Evidence
evidence_of number id timestamp size root =
    record { number = number; id = over id (replicate 127 0); idlen = length id; timestamp = timestamp; size = size; root = root }

-- the code's record with this second place
abbrev pub beside : Record → Evidence → Record
beside r e =
    record {
      held = r.held;
      algorithm = r.algorithm;
      id = r.id;
      idlen = r.idlen;
      timestamp = r.timestamp;
      size = r.size;
      root = r.root;
      evidence = e;
    }
