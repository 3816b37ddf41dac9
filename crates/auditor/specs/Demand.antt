-- The third demand: what is proved of every list of calls. Assumes nothing: these are statements.
use Rattle.std.specs.Prelude.{◌≡◌, List, [], ◌∷◌, ◌++◌, ℕ, ◌≤◌, length, take, drop}
use Rattle.hash.specs.declared.Named.{Named}
use Rattle.hash.specs.declared.Named.TheVariants.{By, Unknown}
use Rattle.hash.specs.Algorithm.{algorithm_of}
use Rattle.hash.specs.Digest.{hash_of, by_number}
use Rattle.tree.specs.Collision.{Collision}
use Rattle.tree.specs.Verdict.{consistency_verdict}
use Rattle.octets.specs.Answer.{Answer, done}
use Rattle.auditor.specs.Held.{empty_record}
use Rattle.auditor.specs.Heads.{end, then, last_size, last_root, joined_heads, heads_of}
use Rattle.auditor.specs.Dispute.{Ruling, dispute_by, dispute_report, pair_disputed}
use Rattle.auditor.specs.Calls.{Call, ask, Entry, answered, Numbered, under, plain, answers, heads}
use Rattle.carry.specs.Limits.{pair_bytes}

-- What is owed of what is reported about two pages under a hash H, with the pair buffer after it: 'same' is said of equal bytes alone, and strings that are
-- handed over differ and have one value.
module _ (H : List ℕ → List ℕ) where
  unfoldable pub Sound : List ℕ → List ℕ → Answer Ruling → List ℕ → Type 0
  Sound page₁ page₂ (done Ruling.same_page) pair = page₁ ≡ page₂
  Sound page₁ page₂ (done Ruling.of_nodes) pair = Collision H (take 65 pair) (take 65 (drop 65 pair))
  Sound page₁ page₂ (done Ruling.of_pages) pair = Collision H (0 ∷ page₁) (0 ∷ page₂)
  Sound page₁ page₂ (Answer.refused n) pair = Unit {0}

  -- the same, and it is no refusal
  unfoldable pub Settles : List ℕ → List ℕ → Answer Ruling → List ℕ → Type 0
  Settles page₁ page₂ said pair = Sound page₁ page₂ said pair × ((n : ℕ) → said ≡ Answer.refused n → ⊥)

-- a number names a hash, and of that hash it holds
unfoldable pub OfHash : Named → ((List ℕ → List ℕ) → Type 0) → Type 0
OfHash (By a) P = P (hash_of a)
OfHash Unknown P = ⊥

-- whatever a dispute is given, pages that are the same included: 16 and nothing written where no hash has the number, and else what is owed under its hash
unfoldable pub SoundBy : Named → List ℕ → List ℕ → Answer Ruling → List ℕ → List ℕ → Type 0
SoundBy (By a) page₁ page₂ said pair before = Sound (hash_of a) page₁ page₂ said pair
SoundBy Unknown page₁ page₂ said pair before = (said ≡ Answer.refused 16) × (pair ≡ before)

abbrev pub WhateverGiven : Type 0
WhateverGiven =
    (n : ℕ) (page₁ : List ℕ) (place : ℕ) (path₁ : List ℕ) (size : ℕ) (root between page₂ path₂ pair : List ℕ) →
    (let d = dispute_by n page₁ place path₁ size root (heads_of between) page₂ path₂ (length pair) in
    SoundBy (algorithm_of n) page₁ page₂ (dispute_report d) (pair_disputed d pair) pair)

-- Demand 3. Over every list of calls, each by any number, from the empty record, and any two page calls in it that were accepted at one place: the two name
-- one hash, and the dispute under it, given the arguments of these two, the size and root of the last head accepted before the first, the heads accepted
-- between them, and a pair buffer that is long enough, settles them.
abbrev pub Demand3 : Type 0
Demand3 =
    (calls : List (Numbered Call)) (before between rest : List (Numbered Entry)) (n₁ n₂ place : ℕ) (page₁ path₁ page₂ path₂ pair : List ℕ) →
    answers empty_record calls
    ≡ before ++ (under n₁ (answered (ask place page₁ path₁) 0) ∷ (between ++ (under n₂ (answered (ask place page₂ path₂) 0) ∷ rest))) →
    pair_bytes ≤ length pair →
    (let m = last_size 0 (heads (plain before)) in
    let r = last_root [] (heads (plain before)) in
    let d = dispute_by n₁ page₁ place path₁ m r (heads_of (joined_heads (heads (plain between)))) page₂ path₂ (length pair) in
    (n₁ ≡ n₂) × OfHash (algorithm_of n₁) (λ H. Settles H page₁ page₂ (dispute_report d) (pair_disputed d pair)))

-- Two auditors, each with its own list of calls. Where a consistency path is accepted from the head that one held at its page to the head that the other
-- held at its own, by the number that both pages were asked for by, the two pages are settled as one auditor's are, from the page whose head the path starts
-- at. It may start at either's.
abbrev pub TwoAuditors : Type 0
TwoAuditors =
    (calls₁ calls₂ : List (Numbered Call)) (before₁ rest₁ before₂ rest₂ : List (Numbered Entry)) (number place : ℕ)
    (page₁ path₁ page₂ path₂ proof pair : List ℕ) →
    answers empty_record calls₁ ≡ before₁ ++ (under number (answered (ask place page₁ path₁) 0) ∷ rest₁) →
    answers empty_record calls₂ ≡ before₂ ++ (under number (answered (ask place page₂ path₂) 0) ∷ rest₂) →
    (let m = last_size 0 (heads (plain before₁)) in
    let r = last_root [] (heads (plain before₁)) in
    let n = last_size 0 (heads (plain before₂)) in
    let s = last_root [] (heads (plain before₂)) in
    pair_bytes ≤ length pair →
    (by_number number 16 (λ H. consistency_verdict H m n r s proof) ≡ 0 →
    (let d = dispute_by number page₁ place path₁ m r (heads_of (joined_heads (then n s proof end))) page₂ path₂ (length pair) in
    OfHash (algorithm_of number) (λ H. Settles H page₁ page₂ (dispute_report d) (pair_disputed d pair))))
    × (by_number number 16 (λ H. consistency_verdict H n m s r proof) ≡ 0 →
    (let d = dispute_by number page₂ place path₂ n s (heads_of (joined_heads (then m r proof end))) page₁ path₁ (length pair) in
    OfHash (algorithm_of number) (λ H. Settles H page₂ page₁ (dispute_report d) (pair_disputed d pair)))))
