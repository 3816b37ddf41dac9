-- Offering a head: document 01, 'Auditor', over any hash H. Assumes nothing: these are definitions.
use Rattle.std.specs.Prelude.{Bool, cond, not, ◌&&◌, ◌||◌, List, ℕ, zero, suc, ◌%◌, ltb, eqb, length}
use Rattle.hash.specs.Digest.{by_named}
use Rattle.tree.specs.Limits.{largest_size}
use Rattle.octets.specs.Bytes.{same}
use Rattle.tree.specs.Verdict.{consistency_verdict}
use Rattle.auditor.specs.declared.Record.{Record}
use Rattle.auditor.specs.declared.Answered.{Answered}
use Rattle.auditor.specs.Held.{Held, empty, head, view, holding, stayed, choice}
use Rattle.auditor.specs.Second.{is_evidence, evidence_of, beside}

-- a size that no tree has
unfoldable pub outside : ℕ → Bool
outside size = eqb size 0 || ltb largest_size size

-- the first head is taken with an empty path
unfoldable pub first : ℕ → List ℕ → ℕ
first size path = cond (outside size) 6 (cond (eqb (length path) 0) 0 7)

-- no fresh timestamp (RFC 9162, 4.10): earlier than the one held, or equal where the size or the root is another
unfoldable pub stale : ℕ → ℕ → List ℕ → ℕ → ℕ → List ℕ → Bool
stale time₀ size₀ root₀ time size root = ltb time time₀ || (eqb time time₀ && (not (eqb size size₀) || not (same root root₀)))

module _ (H : List ℕ → List ℕ) where
  -- a later head, against the one held (id₀, time₀, size₀, root₀)
  unfoldable pub against : List ℕ → ℕ → ℕ → List ℕ → List ℕ → ℕ → ℕ → List ℕ → List ℕ → ℕ
  against id₀ time₀ size₀ root₀ id time size root path =
      cond (not (same id₀ id)) 11
      (cond (outside size || ltb size size₀) 6
      (cond (stale time₀ size₀ root₀ time size root) 12
      (cond (eqb size size₀ && not (same root root₀)) 13
      (consistency_verdict H size₀ size root₀ root path))))

  unfoldable pub by_record : Held → List ℕ → ℕ → ℕ → List ℕ → List ℕ → ℕ
  by_record empty id time size root path = first size path
  by_record (head id₀ time₀ size₀ root₀) id time size root path = against id₀ time₀ size₀ root₀ id time size root path

  -- 0 where the head is accepted, and else the number of the first refusal
  unfoldable pub offer_number : Held → List ℕ → ℕ → ℕ → List ℕ → List ℕ → ℕ
  offer_number held id time size root path =
      cond (not (eqb (length root) 32)) 5
      (cond (ltb (length id) 2 || ltb 127 (length id)) 5
      (cond (not (eqb (length path % 32) 0)) 10
      (by_record held id time size root path)))

-- the record after an offer that answered a number: an accepted head replaces it
unfoldable pub kept : Held → List ℕ → ℕ → ℕ → List ℕ → ℕ → Held
kept held id time size root zero = head id time size root
kept held id time size root (suc n) = held

-- the same of the code's record: it holds the number of the hash, and a refused head that is evidence goes into its second place
unfoldable pub kept_record : ℕ → Record → List ℕ → ℕ → ℕ → List ℕ → ℕ → Record
kept_record n r id time size root zero = holding n id time size root r.evidence
kept_record n r id time size root (suc k) = cond (is_evidence (view r) (suc k) size root) (beside r (evidence_of (suc k) id time size root)) r

-- what the code answers under the hash H, which has the number n
unfoldable pub offered_over : (List ℕ → List ℕ) → ℕ → Record → List ℕ → ℕ → ℕ → List ℕ → List ℕ → Answered
offered_over H n r id time size root path =
    let k = offer_number H (view r) id time size root path in
    record { number = k; after = kept_record n r id time size root k }

-- what the code answers by a number
unfoldable pub offered : ℕ → Record → List ℕ → ℕ → ℕ → List ℕ → List ℕ → Answered
offered n r id time size root path = by_named (choice r n) (stayed 16 r) (λ H. offered_over H n r id time size root path)
