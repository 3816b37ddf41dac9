-- Leaves added one after the other, and what the calls answer, outcome by outcome. Over any hash. Assumes nothing.
use mathlib.Core.Path.{◌≡◌, refl, sym, ap, ap₂, ◌∙◌}
use mathlib.Core.Bool.{Bool, true, false, cond}
use mathlib.Core.List.{List, [], ◌∷◌, ◌++◌}
use Prim.Native.Nat.{ℕ, suc, ◌+◌, ◌/◌, ◌≤◌, ◌<◌}
use native.Mathlib.Omega.{arith}
use native.Mathlib.Numerals.{add-one}
use lib.Dec.{ltb}
use lib.ListN.{length}
use lib.Seq.{take_all}
use borrow.Author.Tests.{ne_eqb, lt-ltb, le-ltb, ltb-false}
use Rattle.octets.specs.Limits.{most_item}
use Rattle.hash.specs.Answers.{value_number, value_bytes}
use Rattle.tree.specs.Limits.{largest_size}
use Rattle.tree.specs.Tree.{leaf}
use Rattle.tree.specs.Joined.{first_nodes, node_at, nodes}
use Rattle.tree.specs.Build.{unfit}
use Rattle.tree.proofs.Joining.{first_snoc}
use Rattle.growing.specs.declared.Growing.{Growing}
use Rattle.growing.specs.declared.Grown.{Grown}
use Rattle.growing.specs.Hashes.{digest, with_leaf, with_leaves}
use Rattle.growing.specs.Calls.{Call, of_page, of_leaves, room_number, call_number, brought, grown_by}

-- a number of a refusal that is not 0
module _ (n : ℕ) where
  pub given : (b : Bool) (r : ℕ) → cond b (suc n) r ≡ 0 → (b ≡ false) × (r ≡ 0)
  given true r e = absurd (omega arith)
  given false r e = (refl, e)

  pub given_other : (b : Bool) → (cond b (suc n) 0 ≡ 0 → ⊥) → b ≡ true
  given_other true e = refl
  given_other false e = absurd (e refl)

pub room_6 : (count n : ℕ) → (room_number count n ≡ 0 → ⊥) → room_number count n ≡ 6
unfolding room_number
room_6 count n e = rw (given_other 5 (ltb largest_size (count + n)) e)

pub room_fits : (count n : ℕ) → room_number count n ≡ 0 → count + n ≤ largest_size
unfolding room_number
room_fits count n e = ltb-false largest_size (count + n) (given 5 (ltb largest_size (count + n)) 0 e).0

pub room_past : (count n : ℕ) → largest_size < count + n → room_number count n ≡ 6
unfolding room_number
room_past count n h = rw (lt-ltb largest_size (count + n) h)

pub room_left : (count n : ℕ) → count + n ≤ largest_size → room_number count n ≡ 0
unfolding room_number
room_left count n h = rw (le-ltb largest_size (count + n) h)

module _ (count : ℕ) (page : List ℕ) where
  pub page_1 : (value_number most_item page ≡ 0 → ⊥) → call_number count (of_page page) ≡ 1
  unfolding call_number value_number
  page_1 e = rw (given_other 0 (ltb most_item (length page)) e)

  pub page_rest : value_number most_item page ≡ 0 → call_number count (of_page page) ≡ room_number count 1
  unfolding call_number value_number
  page_rest e = rw (given 0 (ltb most_item (length page)) 0 e).0

module _ (count : ℕ) (leaves : List ℕ) where
  pub leaves_10 : unfit leaves ≡ true → call_number count (of_leaves leaves) ≡ 10
  unfolding call_number
  leaves_10 e = rw e

  pub leaves_rest : unfit leaves ≡ false → call_number count (of_leaves leaves) ≡ room_number count (length leaves / 32)
  unfolding call_number
  leaves_rest e = rw e

-- the value beside the number 0
pub value_0 : (most : ℕ) (m v : List ℕ) → value_number most m ≡ 0 → value_bytes most m v ≡ v
unfolding value_bytes
value_0 most m v e = rw e

-- an answer by its two fields
pub grown_of : (r : Grown) (n : ℕ) (g : Growing) → r.number ≡ n → r.after ≡ g → r ≡ record { number = n; after = g }
grown_of r n g p q = ap₂ (λ (number : ℕ) (after : Growing). record { number = number; after = after }) p q

module _ (H : List ℕ → List ℕ) where
  pub refused : (g : Growing) (c : Call) (n : ℕ) → call_number g.count c ≡ suc n → grown_by H g c ≡ record { number = suc n; after = g }
  unfolding grown_by
  refused g c n e = rw (e, ne_eqb (suc n) 0 (λ z. omega arith))

  pub refused_by : (r : Grown) (g : Growing) (c : Call) (n : ℕ) → call_number g.count c ≡ suc n → (r.number ≡ suc n) × (r.after ≡ g) → r ≡ grown_by H g c
  refused_by r g c n e p = grown_of r (suc n) g p.0 p.1 ∙ sym (refused g c n e)

  pub accepted : (g : Growing) (c : Call) → call_number g.count c ≡ 0 → grown_by H g c ≡ record { number = 0; after = with_leaves H g (brought H c) }
  unfolding grown_by
  accepted g c e = rw e

  pub accepted_by : (t g : Growing) (c : Call) → call_number g.count c ≡ 0 → t ≡ with_leaves H g (brought H c) → record { number = 0; after = t } ≡ grown_by H g c
  accepted_by t g c e p = ap (λ (x : Growing). record { number = 0; after = x }) p ∙ sym (accepted g c e)

  -- leaves in two parts
  pub with_append : (g : Growing) (a b : List (List ℕ)) → with_leaves H g (a ++ b) ≡ with_leaves H (with_leaves H g a) b
  unfolding with_leaves
  with_append g [] b = refl
  with_append g (x ∷ a) b = with_append (with_leaf H g (digest x)) a b

  pub with_one : (g : Growing) (x : List ℕ) → with_leaves H g (x ∷ []) ≡ with_leaf H g (digest x)
  unfolding with_leaves
  with_one g x = refl

  -- the next of joined leaf hashes
  pub with_next : (g : Growing) (s : List ℕ) (i : ℕ) → with_leaves H g (first_nodes (i + 1) s) ≡ with_leaf H (with_leaves H g (first_nodes i s)) (digest (node_at i s))
  with_next g s i =
      ap (λ (n : ℕ). with_leaves H g (first_nodes n s)) (add-one i) ∙ ap (with_leaves H g) (first_snoc i s)
      ∙ with_append g (first_nodes i s) (node_at i s ∷ []) ∙ with_one (with_leaves H g (first_nodes i s)) (node_at i s)

  pub with_none : (g : Growing) (s : List ℕ) → with_leaves H g (first_nodes 0 s) ≡ g
  unfolding with_leaves first_nodes
  with_none g s = refl

  pub with_count : (g : Growing) (l : List (List ℕ)) → (with_leaves H g l).count ≡ g.count + length l
  unfolding with_leaves with_leaf
  with_count g [] = omega arith
  with_count g (x ∷ l) = let e = with_count (with_leaf H g (digest x)) l in omega arith

  -- the number that a tree holds stays
  pub with_number : (g : Growing) (l : List (List ℕ)) → (with_leaves H g l).algorithm ≡ g.algorithm
  unfolding with_leaves with_leaf
  with_number g [] = refl
  with_number g (x ∷ l) = with_number (with_leaf H g (digest x)) l

  -- a page brings its leaf hash, joined with no other
  pub brought_page : (page h : List ℕ) → length h ≡ 32 → h ≡ leaf H page → first_nodes 1 h ≡ brought H (of_page page)
  unfolding brought first_nodes
  brought_page page h e d = ap (λ (x : List ℕ). x ∷ []) (take_all 32 h (omega arith) ∙ d)

  pub brought_leaves : (leaves : List ℕ) → brought H (of_leaves leaves) ≡ first_nodes (length leaves / 32) leaves
  unfolding brought nodes
  brought_leaves leaves = refl
