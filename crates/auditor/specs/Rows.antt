-- The table of request 8, and the offers in a row beside it: what each offer answers and whether its head is kept, computed over the constant hash of carry's
-- examples and in their shape: a hash stands as a number. Root A is 1; B is 0, which every node yields; C is 2, which none does. Assumes nothing: these are
-- statements.
use Rattle.std.specs.Prelude.{◌≡◌, Bool, true, false, List, [], ◌∷◌, ℕ}
use Rattle.carry.specs.Cases.{Every}
use Rattle.carry.specs.Examples.{constant, hash, hashes}
use Rattle.auditor.specs.Held.{Held, empty, head}
use Rattle.auditor.specs.Second.{none, refused_head, is_evidence}
use Rattle.auditor.specs.Offer.{offer_number}
use Rattle.auditor.specs.Calls.{Call, offer, run}
use Rattle.auditor.specs.Claims.{last_head}
use Rattle.auditor.specs.Evidence.{refused_heads, last_or}

abbrev pub log_id : List ℕ
log_id = 42 ∷ 3 ∷ []

-- a head by its timestamp, its size and its root; and its offer with a path
abbrev pub of : ℕ → ℕ → ℕ → Held
of time size root = head log_id time size (hash root)

abbrev pub to : ℕ → ℕ → ℕ → List ℕ → Call
to time size root path = offer log_id time size (hash root) (hashes path)

-- a row: timestamp, size, root and path of an offer, where 5, 2, A is held; its number; and whether it is kept
pub data Row : Type 0 where
  row : ℕ → ℕ → ℕ → List ℕ → ℕ → Bool → Row

abbrev pub RowSays : Row → Type 0
RowSays (row time size root path n kept) =
    (offer_number constant (of 5 2 1) log_id time size (hash root) (hashes path) ≡ n) × (is_evidence (of 5 2 1) n size (hash root) ≡ kept)

abbrev pub table : List Row
table =
    row 5 2 0 [] 12 true ∷
    row 4 2 0 [] 12 true ∷
    row 4 2 1 [] 12 false ∷
    row 5 3 0 (4 ∷ []) 12 false ∷
    row 6 2 0 [] 13 true ∷
    row 6 2 0 (4 ∷ []) 13 true ∷
    row 6 3 2 (4 ∷ []) 8 true ∷
    row 6 3 0 [] 7 false ∷
    row 6 2 1 [] 0 false ∷
    -- the path of the fourth is right: with a later timestamp it is accepted
    row 6 3 0 (4 ∷ []) 0 false ∷
    []

-- 6, 2, B and 7, 3, C with a wrong node and 5, 3, B are refused with 13, 8 and 12, and 6, 2, A is accepted: it is held, and the second is kept
abbrev pub InARow : Type 0
InARow =
    (let entries = run constant empty (to 5 2 1 [] ∷ to 6 2 0 [] ∷ to 7 3 2 (4 ∷ []) ∷ to 5 3 0 (4 ∷ []) ∷ to 6 2 1 [] ∷ []) in
    (last_head empty entries ≡ of 6 2 1) × (last_or none (refused_heads empty entries) ≡ refused_head 8 log_id 7 3 (hash 2)))

abbrev pub RowsHold : Type 0
RowsHold = Every RowSays table × InARow
