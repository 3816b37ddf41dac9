-- What else is proved of every list of calls. Assumes nothing: these are statements.
use Rattle.std.specs.Prelude.{◌≡◌, true, false, ◌⊎◌, List, [], ◌∷◌, ◌++◌, map, ℕ, zero, suc, ◌*◌, ◌≤◌, ◌<◌, length, take, get_or}
use Rattle.hash.specs.declared.Algorithm.{Algorithm}
use Rattle.hash.specs.declared.Named.TheVariants.{Unknown}
use Rattle.hash.specs.Algorithm.{number_of, algorithm_of}
use Rattle.hash.specs.Digest.{hash_of}
use Rattle.octets.specs.Limits.{most_item}
use Rattle.tree.specs.Limits.{largest_size}
use Rattle.tree.specs.Tree.{leaf, root, path, consistency}
use Rattle.tree.specs.Joined.{nodes}
use Rattle.octets.specs.Bytes.{joined}
use Rattle.growing.specs.Hashes.{fresh, root_now}
use Rattle.growing.specs.Calls as growing
use Rattle.octets.specs.Answer.{Answer}
use Rattle.auditor.specs.declared.Record.{Record}
use Rattle.auditor.specs.Held.{Held, empty, head, view, stayed, no_evidence, empty_record}
use Rattle.auditor.specs.Second.{beside}
use Rattle.auditor.specs.Heads.{last_size, last_root, joined_heads, heads_of}
use Rattle.auditor.specs.Dispute.{Ruling, dispute_by, dispute_report}
use Rattle.auditor.specs.Calls.{Call, offer, ask, Entry, answered, Numbered, under, plain, called, answers, final, AllUnder, call_of, accepted, heads}
use Rattle.carry.specs.Limits.{pair_bytes}

-- the head of the last accepted offer
unfoldable pub last_head : Held → List Entry → Held
last_head held [] = held
last_head held (answered (offer id time size root path) zero ∷ entries) = last_head (head id time size root) entries
last_head held (answered (offer id time size root path) (suc n) ∷ entries) = last_head held entries
last_head held (answered (ask place page path) n ∷ entries) = last_head held entries

-- whatever the record holds was accepted, and last; and its number is that of every accepted call
abbrev pub HeldIsAccepted : Type 0
HeldIsAccepted =
    (calls : List (Numbered Call)) →
    (let end = final empty_record calls in
    let entries = answers empty_record calls in
    (view end ≡ last_head empty (plain entries)) × AllUnder end.algorithm entries)

-- Refused calls add nothing, from any record: left out of the list, the calls that are left answer as they did, and the last record is the same but for its
-- second place.
abbrev pub RefusedAddNothing : Type 0
RefusedAddNothing =
    (r : Record) (calls : List (Numbered Call)) →
    (let es = accepted (answers r calls) in
    (answers r (map call_of es) ≡ es) × (beside (final r (map call_of es)) no_evidence ≡ beside (final r calls) no_evidence))

-- of two accepted heads the later has the number and the log id of the earlier, no smaller size, the same root where it has the same size, and a later
-- timestamp, or the two are the same head
abbrev pub NeverBack : Type 0
NeverBack =
    (calls : List (Numbered Call)) (before between rest : List (Numbered Entry))
    (n₁ n₂ : ℕ) (id₁ id₂ : List ℕ) (time₁ time₂ size₁ size₂ : ℕ) (root₁ root₂ path₁ path₂ : List ℕ) →
    answers empty_record calls
    ≡ before ++ (under n₁ (answered (offer id₁ time₁ size₁ root₁ path₁) 0) ∷ (between ++ (under n₂ (answered (offer id₂ time₂ size₂ root₂ path₂) 0) ∷ rest))) →
    (n₁ ≡ n₂) × (id₁ ≡ id₂) × (size₁ ≤ size₂) × (size₁ ≡ size₂ → root₁ ≡ root₂)
    × ((time₁ < time₂) ⊎ (head id₁ time₁ size₁ root₁ ≡ head id₂ time₂ size₂ root₂))

-- 16 comes before all else and changes nothing, whatever the record and the call: by a number that no hash has, by another than the one held, and by any where
-- the one held names no hash. The first accepted call leaves its number.
pub record SixteenFirst : Type 0 where
  pub unknown : (r : Record) (n : ℕ) (c : Call) → algorithm_of n ≡ Unknown → called r (under n c) ≡ stayed 16 r
  pub another : (r : Record) (n : ℕ) (c : Call) → r.held ≡ true → (n ≡ r.algorithm → ⊥) → called r (under n c) ≡ stayed 16 r
  pub never : (r : Record) (n : ℕ) (c : Call) → r.held ≡ true → algorithm_of r.algorithm ≡ Unknown → called r (under n c) ≡ stayed 16 r
  pub binds :
      (r : Record) (n : ℕ) (c : Call) → r.held ≡ false → (called r (under n c)).number ≡ 0 →
      ((called r (under n c)).after.held ≡ true) × ((called r (under n c)).after.algorithm ≡ n)

-- An honest log: its hash, its id, and its pages in order.
module _ (H : List ℕ → List ℕ) (id : List ℕ) (pages : List (List ℕ)) where
  -- the leaf hashes of the first n pages, joined
  unfoldable pub leaves : ℕ → List ℕ
  leaves n = take (32 * n) (joined (map (leaf H) pages))

  -- The calls that it serves, where the head held has size m and timestamp t, and m is 0 where none is held: its heads, each later one with a
  -- later timestamp or the one held again, the paths from head to head, and its pages with their paths, all by the RFC's definitions: a builder makes the
  -- same, of as many leaves as a buffer may join.
  pub data Served : ℕ → ℕ → List Call → Type 0 where
    done : {m t : ℕ} → Served m t []
    first : {t n time : ℕ} {calls : List Call} → 0 < n → n ≤ length pages → Served n time calls →
        Served 0 t (offer id time n (root H (nodes (leaves n))) [] ∷ calls)
    later : {m t n time : ℕ} {calls : List Call} → 0 < m → m ≤ n → n ≤ length pages → (t < time) ⊎ ((t ≡ time) × (m ≡ n)) → Served n time calls →
        Served m t (offer id time n (root H (nodes (leaves n))) (joined (consistency H m (nodes (leaves n)))) ∷ calls)
    page : {m t place : ℕ} {calls : List Call} → place < m → Served m t calls →
        Served m t (ask place (get_or pages place []) (joined (path H place (nodes (leaves m)))) ∷ calls)

-- every head and every page of an honest log is accepted by the number of its hash, and a dispute about two of its pages says that they are the same
pub record HonestFor (a : Algorithm) (calls : List Call) : Type 0 where
  pub accepted : answers empty_record (map (under (number_of a)) calls) ≡ map (λ (c : Call). under (number_of a) (answered c 0)) calls
  pub same :
      (before between rest : List (Numbered Entry)) (n₁ n₂ place : ℕ) (page₁ path₁ page₂ path₂ pair : List ℕ) →
      answers empty_record (map (under (number_of a)) calls)
      ≡ before ++ (under n₁ (answered (ask place page₁ path₁) 0) ∷ (between ++ (under n₂ (answered (ask place page₂ path₂) 0) ∷ rest))) →
      pair_bytes ≤ length pair →
      (let m = last_size 0 (heads (plain before)) in
      let r = last_root [] (heads (plain before)) in
      let d = dispute_by n₁ page₁ place path₁ m r (heads_of (joined_heads (heads (plain between)))) page₂ path₂ (length pair) in
      dispute_report d ≡ Answer.done Ruling.same_page)

abbrev pub HonestLog : Type 0
HonestLog =
    (a : Algorithm) (id : List ℕ) (pages : List (List ℕ)) (calls : List Call) → 2 ≤ length id → length id ≤ 127 → length pages ≤ largest_size →
    ((i : ℕ) → length (get_or pages i []) ≤ most_item) → Served (hash_of a) id pages 0 0 calls → HonestFor a calls

-- its head over the first n pages is that of a growing tree that took them, however they were cut into calls
abbrev pub GrownHeads : Type 0
GrownHeads =
    (a : Algorithm) (id : List ℕ) (pages : List (List ℕ)) (calls : List growing.Call) (n : ℕ) → length pages ≤ largest_size → n ≤ length pages →
    (let H = hash_of a in
    let start = fresh (number_of a) in
    growing.leaves_taken H start calls ≡ take n (map (leaf H) pages) →
    (let g = growing.tree_after H start calls in
    (g.count ≡ n) × (root_now H g ≡ root H (nodes (leaves H id pages n)))))
