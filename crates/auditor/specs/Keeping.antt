-- What a program keeps so that it can dispute a page later: the record, and from the page call on a journal of the heads accepted since. Then the third
-- demand once more, said of what is kept and called. Assumes nothing: these are definitions and statements.
use Rattle.std.specs.Prelude.{◌≡◌, List, [], ◌∷◌, ◌++◌, ℕ, zero, suc, ◌+◌, ◌*◌, ◌^◌, ◌≤◌, ◌<◌, length, take, drop}
use Rattle.hash.specs.Algorithm.{algorithm_of}
use Rattle.tree.specs.Limits.{most_nodes}
use Rattle.tree.specs.Build.{wrote}
use Rattle.octets.specs.Answer.{Answer, done, refused}
use Rattle.auditor.specs.declared.Record.{Record}
use Rattle.auditor.specs.Held.{empty_record}
use Rattle.auditor.specs.Heads.{end, then, joined_heads, heads_of, how_many}
use Rattle.auditor.specs.Journal.{append, append_report, journal_after}
use Rattle.auditor.specs.Dispute.{dispute_by, dispute_report, pair_disputed}
use Rattle.auditor.specs.Calls.{Call, offer, ask, Entry, answered, Numbered, under, plain, called, answers, final, heads}
use Rattle.auditor.specs.Demand.{Settles, OfHash}
use Rattle.carry.specs.Limits.{pair_bytes}

-- a journal: the lent buffer and how many of its bytes are used; lost where an append was refused with a number
pub data Journal : Type 0 where
  kept : (bytes : List ℕ) (used : ℕ) → Journal
  lost : ℕ → Journal

-- after an append: the buffer, and what the append reported
unfoldable pub noted : List ℕ → Answer ℕ → Journal
noted bytes (done used) = kept bytes used
noted bytes (refused n) = lost n

-- a journal that is kept is written on
unfoldable pub if_kept : Journal → (List ℕ → ℕ → Journal) → Journal
if_kept (kept bytes used) go = go bytes used
if_kept (lost n) go = lost n

-- every accepted head of some entries appended, in order
unfoldable pub journaled : List Entry → List ℕ → ℕ → Journal
journaled [] bytes used = kept bytes used
journaled (answered (offer id time size root path) zero ∷ entries) bytes used =
    (let o = append (length bytes) used size root path in
    if_kept (noted (journal_after used o bytes) (append_report used o)) (journaled entries))
journaled (answered (offer id time size root path) (suc n) ∷ entries) bytes used = journaled entries bytes used
journaled (answered (ask place page path) n ∷ entries) bytes used = journaled entries bytes used

-- A journal that is kept joins the accepted heads behind what was used before; the bytes past them stay.
pub record Joins (entries : List Entry) (lent bytes : List ℕ) (start used : ℕ) : Type 0 where
  pub heads_joined : take used bytes ≡ take start lent ++ joined_heads (heads entries)
  pub used_more : used ≡ start + length (joined_heads (heads entries))
  pub rest_stays : drop used bytes ≡ drop used lent

abbrev pub JournalJoins : Type 0
JournalJoins =
    (entries : List Entry) (lent bytes : List ℕ) (start used : ℕ) → journaled entries lent start ≡ kept bytes used → Joins entries lent bytes start used

-- a head that was appended reads back: two bytes hold the count of its nodes
abbrev pub AppendedReadsBack : Type 0
AppendedReadsBack =
    (room used size : ℕ) (root path w : List ℕ) → size < 256 ^ 8 → append room used size root path ≡ wrote w → heads_of w ≡ then size root path end

-- the bytes of the longest head: a consistency path has one node more than the longest inclusion path
abbrev pub longest_head : ℕ
longest_head = 42 + 32 * (most_nodes + 1)

-- How long a buffer is long enough: over every list of calls from any record, no append of an accepted head is then refused.
abbrev pub LongEnough : Type 0
LongEnough =
    (r : Record) (calls : List (Numbered Call)) (lent : List ℕ) (start : ℕ) →
    (let entries = plain (answers r calls) in
    start + longest_head * how_many (heads entries) ≤ length lent → (n : ℕ) → journaled entries lent start ≡ lost n → ⊥)

-- Demand 3 as a program calls. From the empty record any calls, then a page call that is accepted: the program keeps its arguments, and the size and root of
-- the record that it got. Then any calls, each accepted head appended to a journal that was empty at that page call. Then a page call that is accepted at the
-- same place. The two name one hash, and the dispute about them by its number, over the size and root that were kept and the used part of the journal,
-- settles them.
abbrev pub AsKept : Type 0
AsKept =
    (earlier between : List (Numbered Call)) (n₁ n₂ place : ℕ) (page₁ path₁ page₂ path₂ lent bytes : List ℕ) (used : ℕ) (pair : List ℕ) →
    (let held = final empty_record earlier in
    let first = called held (under n₁ (ask place page₁ path₁)) in
    let second = called (final first.after between) (under n₂ (ask place page₂ path₂)) in
    first.number ≡ 0 → journaled (plain (answers first.after between)) lent 0 ≡ kept bytes used → second.number ≡ 0 → pair_bytes ≤ length pair →
    (let d = dispute_by n₁ page₁ place path₁ held.size held.root (heads_of (take used bytes)) page₂ path₂ (length pair) in
    (n₁ ≡ n₂) × OfHash (algorithm_of n₁) (λ H. Settles H page₁ page₂ (dispute_report d) (pair_disputed d pair))))
