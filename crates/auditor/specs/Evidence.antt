-- The refused head that is kept: request 8. What an offer and a page call leave in the second place, over every list of calls; that nothing depends on it;
-- and what it is evidence of. Assumes nothing: these are statements.
use Rattle.std.specs.Prelude.{◌≡◌, true, false, cond, List, [], ◌∷◌, ◌++◌, map, ℕ, suc, ◌≤◌, ◌<◌, length, get_or}
use Rattle.hash.specs.declared.Algorithm.{Algorithm}
use Rattle.hash.specs.Algorithm.{number_of}
use Rattle.hash.specs.Digest.{hash_of}
use Rattle.octets.specs.Limits.{most_item}
use Rattle.tree.specs.Limits.{largest_size}
use Rattle.auditor.specs.declared.Evidence.{Evidence}
use Rattle.auditor.specs.declared.Record.{Record}
use Rattle.auditor.specs.Held.{Held, empty, head, view, empty_record}
use Rattle.auditor.specs.Second.{Second, none, refused_head, second, is_evidence, evidence_of, beside}
use Rattle.auditor.specs.Offer.{kept}
use Rattle.auditor.specs.Calls.{Call, offer, ask, Entry, answered, Numbered, under, plain, called, answers, final, run}
use Rattle.auditor.specs.Claims.{last_head, Served}

-- Nothing depends on it: whatever stands there, every list of calls is answered alike, and leaves the same head held, and the same record but for that place.
abbrev pub NothingDepends : Type 0
NothingDepends =
    (r : Record) (e : Evidence) (calls : List (Numbered Call)) →
    (answers (beside r e) calls ≡ answers r calls)
    × (view (final (beside r e) calls) ≡ view (final r calls))
    × (beside (final (beside r e) calls) e ≡ beside (final r calls) e)

-- The first demand with its one exception, of any record: a refused offer whose head is evidence changes the second place, and nothing else; every other
-- refusal, and every page call, returns the record as it was; and an accepted head leaves the second place as it is.
pub record OneException : Type 0 where
  pub is_kept :
      (r : Record) (n : ℕ) (id : List ℕ) (time size : ℕ) (root path : List ℕ) (k : ℕ) →
      (let o = called r (under n (offer id time size root path)) in
      o.number ≡ suc k → is_evidence (view r) (suc k) size root ≡ true → o.after ≡ beside r (evidence_of (suc k) id time size root))
  pub every_other :
      (r : Record) (n : ℕ) (id : List ℕ) (time size : ℕ) (root path : List ℕ) (k : ℕ) →
      (let o = called r (under n (offer id time size root path)) in
      o.number ≡ suc k → is_evidence (view r) (suc k) size root ≡ false → o.after ≡ r)
  pub page_call : (r : Record) (n place : ℕ) (page path : List ℕ) → (called r (under n (ask place page path))).after ≡ r
  pub accepted_head : (r : Record) (n : ℕ) (c : Call) → (called r (under n c)).number ≡ 0 → (called r (under n c)).after.evidence ≡ r.evidence

-- the refused heads of some entries that are evidence, in order, where this head is held before them
unfoldable pub refused_heads : Held → List Entry → List Second
refused_heads held [] = []
refused_heads held (answered (offer id time size root path) n ∷ entries) =
    (let later = refused_heads (kept held id time size root n) entries in
    cond (is_evidence held n size root) (refused_head n id time size root ∷ later) later)
refused_heads held (answered (ask place page path) n ∷ entries) = refused_heads held entries

-- the last of a list; where it has none, this
unfoldable pub last_or : Second → List Second → Second
last_or s [] = s
last_or s (t ∷ l) = last_or t l

-- The second place is the latest of them: over every list of calls from any record, which has what stood there where there was none. In the empty record it
-- is empty.
abbrev pub LatestRefused : Type 0
LatestRefused =
    ((r : Record) (calls : List (Numbered Call)) → second (final r calls) ≡ last_or (second r) (refused_heads (view r) (plain (answers r calls))))
    × (second empty_record ≡ none)

-- what a head refused with a number shows against the head then held: with 13 or 12 another root of one size; with 8 a larger size
pub data Shows (time₀ size₀ : ℕ) (root₀ : List ℕ) (time size : ℕ) (root : List ℕ) : ℕ → Type 0 where
  another_root : time₀ < time → size₀ ≡ size → (root₀ ≡ root → ⊥) → Shows time₀ size₀ root₀ time size root 13
  another_root_no_later : time ≤ time₀ → size₀ ≡ size → (root₀ ≡ root → ⊥) → Shows time₀ size₀ root₀ time size root 12
  larger_size : time₀ < time → size₀ < size → Shows time₀ size₀ root₀ time size root 8

-- It was offered among these entries and refused with this number, and shows that against the head then held, which is the head of the last accepted offer
-- before it and has its log id.
pub record Evident (entries : List Entry) (number : ℕ) (id : List ℕ) (time size : ℕ) (root : List ℕ) : Type 0 where
  pub before : List Entry
  pub rest : List Entry
  pub path : List ℕ
  pub was_offered : entries ≡ before ++ (answered (offer id time size root path) number ∷ rest)
  pub time₀ : ℕ
  pub size₀ : ℕ
  pub root₀ : List ℕ
  pub was_held : last_head empty before ≡ head id time₀ size₀ root₀
  pub shows : Shows time₀ size₀ root₀ time size root number

-- What stands there is evidence: whatever an auditor is called with, over any hash; and of the code.
abbrev pub KeptIsEvidence : Type 0
KeptIsEvidence =
    ((H : List ℕ → List ℕ) (calls : List Call) (number : ℕ) (id : List ℕ) (time size : ℕ) (root : List ℕ) →
    last_or none (refused_heads empty (run H empty calls)) ≡ refused_head number id time size root → Evident (run H empty calls) number id time size root)
    × ((calls : List (Numbered Call)) (number : ℕ) (id : List ℕ) (time size : ℕ) (root : List ℕ) →
    second (final empty_record calls) ≡ refused_head number id time size root → Evident (plain (answers empty_record calls)) number id time size root)

-- an honest log leaves none
abbrev pub HonestLeavesNone : Type 0
HonestLeavesNone =
    (a : Algorithm) (id : List ℕ) (pages : List (List ℕ)) (calls : List Call) → 2 ≤ length id → length id ≤ 127 → length pages ≤ largest_size →
    ((i : ℕ) → length (get_or pages i []) ≤ most_item) →
    Served (hash_of a) id pages 0 0 calls → second (final empty_record (map (under (number_of a)) calls)) ≡ none
