-- The timestamps of accepted heads: request 4, 'two heads, one millisecond'. Assumes nothing: these are statements.
use Rattle.std.specs.Prelude.{◌≡◌, Bool, cond, not, ◌&&◌, ◌||◌, List, ◌∷◌, ◌++◌, ℕ, ◌%◌, ◌≤◌, ltb, eqb, length}
use Rattle.octets.specs.Bytes.{same}
use Rattle.tree.specs.Verdict.{consistency_verdict}
use Rattle.auditor.specs.Held.{empty, head, view, empty_record}
use Rattle.auditor.specs.Offer.{outside, against}
use Rattle.auditor.specs.Calls.{Call, offer, Entry, answered, Numbered, under, plain, called, answers, final, run}

-- two accepted heads with one timestamp have one size and one root
abbrev pub OneHeadEach : List Entry → Type 0
OneHeadEach entries =
    (before between rest : List Entry) (id₁ id₂ : List ℕ) (time size₁ size₂ : ℕ) (root₁ root₂ path₁ path₂ : List ℕ) →
    entries ≡ before ++ (answered (offer id₁ time size₁ root₁ path₁) 0 ∷ (between ++ (answered (offer id₂ time size₂ root₂ path₂) 0 ∷ rest))) →
    (size₁ ≡ size₂) × (root₁ ≡ root₂)

-- whatever an auditor is called with, over any hash; and of the code
abbrev pub OneTimestamp : Type 0
OneTimestamp =
    ((H : List ℕ → List ℕ) (calls : List Call) → OneHeadEach (run H empty calls)) ×
    ((calls : List (Numbered Call)) → OneHeadEach (plain (answers empty_record calls)))

-- the head held, offered again by its number, with its timestamp or a later one: accepted with an empty path, and 7 with any other of whole nodes; by any
-- other number it is 16
abbrev pub HeldAgain : Type 0
HeldAgain =
    (calls : List (Numbered Call)) (id : List ℕ) (time again size : ℕ) (root path : List ℕ) →
    (let end = final empty_record calls in
    view end ≡ head id time size root → time ≤ again → length path % 32 ≡ 0 →
    ((called end (under end.algorithm (offer id again size root path))).number ≡ cond (eqb (length path) 0) 0 7)
    × ((n : ℕ) → (n ≡ end.algorithm → ⊥) → (called end (under n (offer id again size root path))).number ≡ 16))

module _ (H : List ℕ → List ℕ) (id₀ : List ℕ) (time₀ size₀ : ℕ) (root₀ id : List ℕ) (time size : ℕ) (root path : List ℕ) where
  -- the number by the tests in their order, where the one for 12 says this
  unfoldable pub by_time : Bool → ℕ
  by_time refused =
      cond (not (same id₀ id)) 11 (cond (outside size || ltb size size₀) 6 (cond refused 12 (cond (eqb size size₀ && not (same root root₀)) 13
      (consistency_verdict H size₀ size root₀ root path))))

  -- the number that a head got before the request, when 12 stood for an earlier timestamp alone
  abbrev pub older : ℕ
  older = by_time (ltb time time₀)

  -- the number that it gets
  abbrev given : ℕ
  given = against H id₀ time₀ size₀ root₀ id time size root path

  -- A head that is accepted was accepted before. Another head with the timestamp held is 12, after 11 and 6. Every other offer is answered as before.
  pub record Stricter : Type 0 where
    pub accepted_before : given ≡ 0 → older ≡ 0
    pub other_head : time₀ ≡ time → ((size₀ ≡ size) × (root₀ ≡ root) → ⊥) → given ≡ cond (not (same id₀ id)) 11 (cond (outside size || ltb size size₀) 6 12)
    pub as_before : (time₀ ≡ time → (size₀ ≡ size) × (root₀ ≡ root)) → given ≡ older

-- over any hash, any head held and any offer
abbrev pub OnlyStricter : Type 0
OnlyStricter =
    (H : List ℕ → List ℕ) (id₀ : List ℕ) (time₀ size₀ : ℕ) (root₀ id : List ℕ) (time size : ℕ) (root path : List ℕ) →
    Stricter H id₀ time₀ size₀ root₀ id time size root path
