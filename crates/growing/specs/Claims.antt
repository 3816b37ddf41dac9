-- What is claimed of every list of calls, over any hash H, and of calls by number: proved in proofs/, and promised in the source by `claims`.
-- Assumes nothing: these are statements.
use Rattle.std.specs.Prelude.{◌≡◌, ◌↔◌, ◌⊎◌, List, [], ◌∷◌, ◌++◌, map, ℕ, suc, ◌+◌, ◌-◌, ◌*◌, ◌/◌, ◌%◌, ◌^◌, ◌≤◌, ◌<◌, length, take, drop, get_or, replicate}
use Rattle.std.specs.Int.Count.{ones}
use Rattle.hash.specs.declared.Algorithm.{Algorithm}
use Rattle.hash.specs.declared.Named.TheVariants.{By, Unknown}
use Rattle.hash.specs.Algorithm.{algorithm_of}
use Rattle.hash.specs.Digest.{hash_of}
use Rattle.octets.specs.Limits.{most_item}
use Rattle.tree.specs.Limits.{largest_size, most_leaves}
use Rattle.tree.specs.Collision.{Collision}
use Rattle.tree.specs.Tree.{leaf, root, mth}
use Rattle.tree.specs.Joined.{nodes, node_at}
use Rattle.octets.specs.Bytes.{joined}
use Rattle.tree.specs.Verdict.{inclusion_verdict, consistency_verdict}
use Rattle.tree.specs.Build.{refused, wrote, inclusion_built, consistency_built}
use Rattle.tree.specs.Full.{full_roots}
use Rattle.growing.specs.declared.Growing.{Growing}
use Rattle.growing.specs.Limits.{most_hashes}
use Rattle.growing.specs.Hashes.{digest, nothing, fresh, counting, with_leaves, root_now}
use Rattle.growing.specs.Calls.{Call, of_page, of_leaves, grown_by, tree_after, leaves_taken, all_brought, AllAccepted}
use Rattle.growing.specs.Calls.{Numbered, made, grown_in, root_in, root_into_in, tree_in, called_by}

-- the leaves of the last full subtree of 2 ^ i leaves
abbrev pub last_full : ℕ → List (List ℕ) → List (List ℕ)
last_full i l = take (2 ^ i) (drop (2 ^ i * (length l / 2 ^ i - 1)) l)

module _ (H : List ℕ → List ℕ) where
  -- a growing tree g, made with the number n, that has the leaves l
  pub record Follows (n : ℕ) (g : Growing) (l : List (List ℕ)) : Type 0 where
    -- it holds the number that it was made with
    pub number : g.algorithm ≡ n
    -- the root is that of all the leaves, and the count theirs
    pub root_of_all : root_now H g ≡ root H l
    pub count_of_all : g.count ≡ length l
    pub within : length l ≤ largest_size
    -- the hashes that count are the roots of the full subtrees, one for each one-bit of the count; each stands at its level, and elsewhere there are zeros
    pub full : counting g.hashes g.count ≡ full_roots H l
    pub ones_count : length (counting g.hashes g.count) ≡ ones g.count
    pub levels : length g.hashes ≡ most_hashes
    pub at : (i : ℕ) → (length l / 2 ^ i) % 2 ≡ 1 → (get_or g.hashes i nothing).bytes ≡ root H (last_full i l)
    pub zeros : (i : ℕ) → (length l / 2 ^ i) % 2 ≡ 0 → (get_or g.hashes i nothing).bytes ≡ replicate 32 0
    -- the tree is a function of the leaves
    pub one_by_one : g ≡ with_leaves H (fresh n) l

  -- the tree after calls from a new one, refused ones included, and the leaves that the accepted ones brought
  abbrev pub tree_of : ℕ → List Call → Growing
  tree_of n calls = tree_after H (fresh n) calls

  abbrev pub leaves_of : ℕ → List Call → List (List ℕ)
  leaves_of n calls = leaves_taken H (fresh n) calls

  abbrev pub FollowsAll : Type 0
  FollowsAll = (n : ℕ) (calls : List Call) → Follows n (tree_of n calls) (leaves_of n calls)

  -- the same leaves, cut into calls in two ways, refused calls among them or not: one tree, and so one root, after any of the calls as at the end
  abbrev pub HoweverCut : Type 0
  HoweverCut = (n : ℕ) (calls others : List Call) → leaves_of n calls ≡ leaves_of n others → tree_of n calls ≡ tree_of n others

  -- where all are accepted, all that was brought was taken
  abbrev pub AllTaken : Type 0
  AllTaken = (g : Growing) (calls : List Call) → AllAccepted H g calls → leaves_taken H g calls ≡ all_brought H calls

  -- pages one by one give the RFC's MTH of the pages, and joined hashes the root of these hashes
  pub record Takes : Type 0 where
    pub pages : (n : ℕ) (pages : List (List ℕ)) → AllAccepted H (fresh n) (map of_page pages) → root_now H (tree_of n (map of_page pages)) ≡ mth H pages
    pub leaves :
        (n : ℕ) (leaves : List ℕ) → AllAccepted H (fresh n) (of_leaves leaves ∷ []) →
        root_now H (tree_of n (of_leaves leaves ∷ [])) ≡ root H (nodes leaves)

  -- pages one by one, and their leaf hashes joined in one call: one tree
  abbrev pub PagesOrJoined : Type 0
  PagesOrJoined =
      (n : ℕ) (pages : List (List ℕ)) → AllAccepted H (fresh n) (map of_page pages) → AllAccepted H (fresh n) (of_leaves (joined (map (leaf H) pages)) ∷ []) →
      tree_of n (map of_page pages) ≡ tree_of n (of_leaves (joined (map (leaf H) pages)) ∷ [])

  -- a refusal changes nothing, whatever the tree
  abbrev pub RefusedUnchanged : Type 0
  RefusedUnchanged = (g : Growing) (c : Call) (n : ℕ) → (grown_by H g c).number ≡ suc n → (grown_by H g c).after ≡ g

  -- which calls are accepted, whatever the tree, and that what is wrong with the bytes comes before 6; no joined hashes add nothing
  pub record Accepts (g : Growing) : Type 0 where
    pub page : (page : List ℕ) → ((grown_by H g (of_page page)).number ≡ 0) ↔ ((length page ≤ most_item) × (g.count + 1 ≤ largest_size))
    pub leaves :
        (leaves : List ℕ) →
        ((grown_by H g (of_leaves leaves)).number ≡ 0) ↔
        ((length leaves % 32 ≡ 0) × (length leaves / 32 ≤ most_leaves) × (g.count + length leaves / 32 ≤ largest_size))
    pub page_first : (page : List ℕ) → most_item < length page → (grown_by H g (of_page page)).number ≡ 1
    pub joined_first : (leaves : List ℕ) → (length leaves % 32 ≡ 0 → ⊥) → (grown_by H g (of_leaves leaves)).number ≡ 10
    pub many_first : (leaves : List ℕ) → most_leaves < length leaves / 32 → (grown_by H g (of_leaves leaves)).number ≡ 10
    pub no_leaves : g.count ≤ largest_size → grown_by H g (of_leaves []) ≡ record { number = 0; after = g }

  abbrev pub AcceptsAll : Type 0
  AcceptsAll = (g : Growing) → Accepts g

  -- what the builders build of the leaves taken, the verdicts accept under the growing tree's root and count, and between two of its moments
  pub record Shown (n : ℕ) (calls : List Call) : Type 0 where
    pub inclusion :
        (place room : ℕ) (w : List ℕ) → inclusion_built H (joined (leaves_of n calls)) place room ≡ wrote w →
        inclusion_verdict H (node_at place (joined (leaves_of n calls))) place (tree_of n calls).count (root_now H (tree_of n calls)) w ≡ 0
    pub consistency :
        (more : List Call) (room : ℕ) (w : List ℕ) →
        (let first = tree_of n calls in
        let second = tree_of n (calls ++ more) in
        consistency_built H (joined (leaves_of n (calls ++ more))) first.count room ≡ wrote w →
        consistency_verdict H first.count second.count (root_now H first) (root_now H second) w ≡ 0)

  abbrev pub ShownAll : Type 0
  ShownAll = (n : ℕ) (calls : List Call) → Shown n calls

  abbrev pub SomeCollision : Type 0
  SomeCollision = (s : List ℕ) × ((t : List ℕ) × Collision H s t)

  -- two growing trees with one count and one root have the same leaves, or a collision is found
  abbrev pub SameLeaves : Type 0
  SameLeaves =
      (n : ℕ) (calls others : List Call) → (tree_of n calls).count ≡ (tree_of n others).count → root_now H (tree_of n calls) ≡ root_now H (tree_of n others) →
      (leaves_of n calls ≡ leaves_of n others) ⊎ SomeCollision

-- ---- by number, of the calls as their contracts have them (proofs/Every)

-- where n has the hash a: calls by n grow the tree that was made with it, and calls by any other number change nothing
pub record Known (n : ℕ) (a : Algorithm) : Type 0 where
  pub begun : made n ≡ record { number = 0; after = fresh n }
  pub tree : (calls : List Numbered) → tree_in (made n).after calls ≡ tree_of (hash_of a) n (called_by n calls)
  pub follows : (calls : List Numbered) → Follows (hash_of a) n (tree_in (made n).after calls) (leaves_of (hash_of a) n (called_by n calls))
  pub however_cut :
      (calls others : List Numbered) → leaves_of (hash_of a) n (called_by n calls) ≡ leaves_of (hash_of a) n (called_by n others) →
      tree_in (made n).after calls ≡ tree_in (made n).after others
  pub root_then :
      (calls : List Numbered) →
      root_in n (tree_in (made n).after calls) ≡ record { number = 0; digest = digest (root (hash_of a) (leaves_of (hash_of a) n (called_by n calls))) }

-- what 16 leaves, whatever the call
pub record Refuses (n : ℕ) (g : Growing) : Type 0 where
  pub call : (c : Call) → grown_in n g c ≡ record { number = 16; after = g }
  pub root : root_in n g ≡ record { number = 16; digest = nothing }
  pub root_into_lem : (room : ℕ) → root_into_in n g room ≡ refused 16

-- where no hash has n: 16, and from every call over what stands beside it, by any number
pub record NoneHas (n : ℕ) : Type 0 where
  pub begun : made n ≡ record { number = 16; after = fresh n }
  pub refuses : (m : ℕ) → Refuses m (made n).after

pub record ByNumber : Type 0 where
  pub known : (n : ℕ) (a : Algorithm) → algorithm_of n ≡ By a → Known n a
  pub unknown : (n : ℕ) → algorithm_of n ≡ Unknown → NoneHas n
  -- over any tree: a number that is not its own, or that no hash has; and a refusal changes nothing
  pub another : (n : ℕ) (g : Growing) → (n ≡ g.algorithm → ⊥) → Refuses n g
  pub none : (n : ℕ) (g : Growing) → algorithm_of n ≡ Unknown → Refuses n g
  pub unchanged : (n : ℕ) (g : Growing) (c : Call) (k : ℕ) → (grown_in n g c).number ≡ suc k → (grown_in n g c).after ≡ g
