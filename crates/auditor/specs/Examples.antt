-- Examples of the dispute with the pair buffer after it, where two strings have one hash: one table with one statement, over the weak hashes of carry's
-- examples and in their shape: a hash stands as a number, and a pair buffer is 130 bytes and more of 9. A page is one byte. The heads are read from the
-- buffer that joins them. Assumes nothing: these are statements.
use Rattle.std.specs.Prelude.{◌≡◌, List, [], ◌∷◌, ℕ, length}
use Rattle.carry.specs.Cases.{Every}
use Rattle.carry.specs.Examples.{constant, few, hash, hashes, pair, child, written}
use Rattle.auditor.specs.Heads.{Heads, end, then, joined_heads, heads_of}
use Rattle.auditor.specs.Dispute.{Finding, alike, nodes, pages, dispute, pair_disputed}

-- a head by its size, its root and its path
abbrev pub to : ℕ → ℕ → List ℕ → Heads → Heads
to size root path hs = then size (hash root) (hashes path) hs

-- what is found: two strings by their children, the pages, or nothing
pub data Found : Type 0 where
  strings : ℕ × ℕ → ℕ × ℕ → Found
  two_pages : Found
  nothing : Found

-- a row: the hash; the place; the first page and its path; size and root of the head then held; the heads since; the second page and its path; how many
-- bytes the pair buffer has past 130; and what is found
pub data DisputeExample : Type 0 where
  example : (List ℕ → List ℕ) → ℕ → ℕ → List ℕ → ℕ → ℕ → Heads → ℕ → List ℕ → ℕ → Found → DisputeExample

-- it is found, with this pair buffer after it
abbrev pub DisputeFinds : Finding → ℕ → Found → Type 0
DisputeFinds d more (strings s t) = (d ≡ nodes (child s) (child t)) × (pair_disputed d (pair more) ≡ written s t more)
DisputeFinds d more two_pages = (d ≡ pages) × (pair_disputed d (pair more) ≡ pair more)
DisputeFinds d more nothing = (d ≡ alike) × (pair_disputed d (pair more) ≡ pair more)

abbrev pub DisputeSays : DisputeExample → Type 0
DisputeSays (example H place page₁ path₁ size root hs page₂ path₂ more f) =
    (let d = dispute H (page₁ ∷ []) place (hashes path₁) size (hash root) (heads_of (joined_heads hs)) (page₂ ∷ []) (hashes path₂) (length (pair more)) in
    DisputeFinds d more f)

abbrev pub table : List DisputeExample
table =
    -- a collision at the second of three heads
    example constant 0 1 (1 ∷ []) 2 0 (to 3 0 (2 ∷ []) (to 5 0 (4 ∷ 3 ∷ 5 ∷ 4 ∷ []) (to 7 0 (0 ∷ 4 ∷ 0 ∷ 3 ∷ []) end)))
    1 (2 ∷ 4 ∷ 1 ∷ []) 10 (strings (0, 2) (5, 4)) ∷
    example few 0 2 (0 ∷ []) 2 2 (to 3 2 (6 ∷ []) (to 5 2 (1 ∷ 1 ∷ 0 ∷ 2 ∷ []) (to 7 2 (4 ∷ 6 ∷ 0 ∷ 2 ∷ []) end)))
    2 (4 ∷ 2 ∷ 6 ∷ []) 10 (strings (2, 6) (0, 1)) ∷
    example few 4 7 (2 ∷ 0 ∷ []) 6 2 (to 7 2 (3 ∷ 5 ∷ 0 ∷ []) (to 11 2 (6 ∷ 2 ∷ 0 ∷ 2 ∷ 4 ∷ []) (to 12 2 (5 ∷ 2 ∷ 7 ∷ 0 ∷ []) end)))
    7 (7 ∷ 5 ∷ 6 ∷ 1 ∷ []) 10 (strings (0, 1) (2, 0)) ∷
    -- at the first of two heads; a pair buffer of just 130 bytes
    example constant 2 0 (3 ∷ []) 3 0 (to 6 0 (1 ∷ 0 ∷ 0 ∷ 2 ∷ []) (to 7 0 (4 ∷ 5 ∷ 2 ∷ []) end)) 5 (2 ∷ 0 ∷ 0 ∷ []) 0 (strings (3, 0) (0, 1)) ∷
    example few 2 5 (5 ∷ []) 3 3 (to 6 3 (3 ∷ 1 ∷ 1 ∷ 6 ∷ []) (to 7 3 (7 ∷ 6 ∷ 5 ∷ []) end)) 3 (5 ∷ 7 ∷ 7 ∷ []) 10 (strings (5, 1) (1, 3)) ∷
    -- carried over two heads, and then against the second proof; with no heads
    example constant 0 5 (2 ∷ []) 2 0 (to 3 0 (0 ∷ []) (to 5 0 (0 ∷ 3 ∷ 0 ∷ 4 ∷ []) end)) 5 (2 ∷ 1 ∷ 1 ∷ []) 10 (strings (0, 4) (0, 1)) ∷
    example few 0 4 (7 ∷ []) 2 2 (to 3 0 (7 ∷ []) (to 5 0 (7 ∷ 7 ∷ 2 ∷ 0 ∷ []) end)) 4 (3 ∷ 3 ∷ 6 ∷ []) 10 (strings (0, 0) (0, 6)) ∷
    example constant 1 1 (1 ∷ []) 2 0 end 3 (2 ∷ []) 0 (strings (1, 0) (2, 0)) ∷
    -- pages that differ under one leaf hash
    example constant 0 0 (0 ∷ []) 2 0 (to 3 0 (4 ∷ []) (to 4 0 (4 ∷ 5 ∷ 0 ∷ []) end)) 4 (0 ∷ 0 ∷ []) 10 two_pages ∷
    example few 0 6 (2 ∷ []) 2 2 (to 3 2 (4 ∷ []) (to 4 2 (4 ∷ 6 ∷ 2 ∷ []) end)) 2 (2 ∷ 0 ∷ []) 10 two_pages ∷
    -- the same page
    example constant 1 3 (4 ∷ []) 2 0 (to 3 0 (2 ∷ []) (to 4 0 (2 ∷ 0 ∷ 0 ∷ []) end)) 3 (4 ∷ 0 ∷ []) 10 nothing ∷
    example few 1 5 (6 ∷ []) 2 0 (to 3 0 (4 ∷ []) (to 4 0 (4 ∷ 3 ∷ 0 ∷ []) end)) 5 (6 ∷ 2 ∷ []) 10 nothing ∷
    []

abbrev pub Disputed : Type 0
Disputed = Every DisputeSays table
