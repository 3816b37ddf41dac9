-- The calls that add to a growing tree, what they answer for every value of it, and lists of them (document 02, request 2).
-- Assumes nothing: these are definitions.
use Rattle.std.specs.Prelude.{◌≡◌, cond, List, [], ◌∷◌, ◌++◌, ℕ, ◌+◌, ◌/◌, ltb, eqb, length}
use Rattle.hash.specs.declared.Hashed.{Hashed}
use Rattle.hash.specs.Algorithm.{held_by}
use Rattle.hash.specs.Digest.{by_named, by_number}
use Rattle.octets.specs.Limits.{most_item}
use Rattle.tree.specs.Limits.{largest_size}
use Rattle.tree.specs.Tree.{leaf}
use Rattle.tree.specs.Joined.{nodes}
use Rattle.tree.specs.Build.{Outcome, refused, into, unfit}
use Rattle.growing.specs.declared.Growing.{Growing}
use Rattle.growing.specs.declared.Grown.{Grown}
use Rattle.growing.specs.Hashes.{digest, nothing, fresh, with_leaves, root_now}

-- a call with its bytes: one page, or joined leaf hashes
pub data Call : Type 0 where
  of_page : List ℕ → Call
  of_leaves : List ℕ → Call

-- 6: n more leaves go past the largest size
unfoldable pub room_number : ℕ → ℕ → ℕ
room_number count n = cond (ltb largest_size (count + n)) 6 0

-- 1: a page too long. 10: bad joined hashes. Then 6
unfoldable pub call_number : ℕ → Call → ℕ
call_number count (of_page page) = cond (ltb most_item (length page)) 1 (room_number count 1)
call_number count (of_leaves leaves) = cond (unfit leaves) 10 (room_number count (length leaves / 32))

module _ (H : List ℕ → List ℕ) where
  -- the leaf hashes that a call brings
  unfoldable pub brought : Call → List (List ℕ)
  brought (of_page page) = leaf H page ∷ []
  brought (of_leaves leaves) = nodes leaves

  -- the number, and the tree after it: a refusal changes nothing
  unfoldable pub grown_by : Growing → Call → Grown
  grown_by g c =
      record { number = call_number g.count c; after = cond (eqb (call_number g.count c) 0) (with_leaves H g (brought c)) g }

  -- the root into an output of `room` bytes
  unfoldable pub root_into : Growing → ℕ → Outcome
  root_into g room = into room (root_now H g)

  -- the tree after a list of calls, the first given g and each later one the tree that the call before returned, refused or not
  unfoldable pub tree_after : Growing → List Call → Growing
  tree_after g [] = g
  tree_after g (c ∷ calls) = tree_after (grown_by g c).after calls

  -- the leaf hashes that the accepted ones brought, in order
  unfoldable pub leaves_taken : Growing → List Call → List (List ℕ)
  leaves_taken g [] = []
  leaves_taken g (c ∷ calls) = cond (eqb (grown_by g c).number 0) (brought c) [] ++ leaves_taken (grown_by g c).after calls

  -- those that all of them brought, and that all were accepted
  unfoldable pub all_brought : List Call → List (List ℕ)
  all_brought [] = []
  all_brought (c ∷ calls) = brought c ++ all_brought calls

  unfoldable pub AllAccepted : Growing → List Call → Type 0
  AllAccepted g [] = Unit {0}
  AllAccepted g (c ∷ calls) = ((grown_by g c).number ≡ 0) × AllAccepted (grown_by g c).after calls

-- ---- by number: 16 before all else, where the number is not the tree's or no hash has it

-- a new tree. What stands beside 16 holds the number too, and so refuses every call
unfoldable pub made : ℕ → Grown
made n = by_number n (record { number = 16; after = fresh n }) (λ H. record { number = 0; after = fresh n })

-- a call by the number n
unfoldable pub grown_in : ℕ → Growing → Call → Grown
grown_in n g c = by_named (held_by g.algorithm n) (record { number = 16; after = g }) (λ H. grown_by H g c)

-- the root by value, or 32 zeros; and into an output of `room` bytes
unfoldable pub root_in : ℕ → Growing → Hashed
root_in n g =
    by_named (held_by g.algorithm n) (record { number = 16; digest = nothing }) (λ H. record { number = 0; digest = digest (root_now H g) })

unfoldable pub root_into_in : ℕ → Growing → ℕ → Outcome
root_into_in n g room = by_named (held_by g.algorithm n) (refused 16) (λ H. root_into H g room)

-- a call with the number that it is made by, the tree after a list of them, and those of them that are made by n
pub data Numbered : Type 0 where
  under : ℕ → Call → Numbered

unfoldable pub tree_in : Growing → List Numbered → Growing
tree_in g [] = g
tree_in g (under n c ∷ calls) = tree_in (grown_in n g c).after calls

unfoldable pub called_by : ℕ → List Numbered → List Call
called_by n [] = []
called_by n (under m c ∷ calls) = cond (eqb m n) (c ∷ called_by n calls) (called_by n calls)
