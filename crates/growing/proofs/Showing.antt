-- A growing tree and the verdicts: what is built of its leaves is accepted under its root. And one root of one count binds the leaves, or a collision is
-- found. Over any hash of 32 bytes. Assumes nothing.
use mathlib.Core.Path.{◌≡◌, refl, sym, ap, ap₂, ◌∙◌}
use mathlib.Core.Logic.{◌⊎◌, inl, inr, ⊎_elim}
use mathlib.Core.Bool.{Bool, true, false, false≢true, cond}
use mathlib.Core.List.{List, [], ◌∷◌, ◌++◌, map, append_assoc}
use Prim.Native.Nat.{ℕ, ◌-◌, ◌/◌, ◌<◌}
use native.Mathlib.Omega.{arith}
use lib.Dec.{eqb}
use lib.ListN.{length, take, drop, take-append-drop}
use lib.Seq.{take_at, drop_at}
use Rattle.tree.specs.Split.{split}
use Rattle.tree.specs.Tree.{leaf, node, root}
use Rattle.octets.specs.Bytes.{same, joined}
use Rattle.tree.specs.Joined.{nodes}
use Rattle.tree.specs.Equations.{left, right}
use Rattle.tree.proofs.Rfc.{root_one, root_split, length_left, length_right, by_parts}
use Rattle.octets.proofs.Sameness.{same_true, same_of}
use Rattle.tree.proofs.Joining.{All32, all_append, all_none, all_one, all_take, all_drop, all_nodes, joined_length, nodes_joined}
use Rattle.tree.proofs.Completing.{root_32}
use Rattle.tree.proofs.Building.{complete}
use Rattle.growing.specs.declared.Growing.{Growing}
use Rattle.growing.specs.Hashes.{fresh, root_now}
use Rattle.growing.specs.Calls.{Call, of_page, of_leaves, brought, grown_by, tree_after, leaves_taken}
use Rattle.growing.specs.Claims.{PagesOrJoined, ShownAll, SomeCollision, SameLeaves}
use Rattle.growing.proofs.Calling.{follows_all, however_cut, pages_taken, leaves_taken_lem}

module _ (H : List ℕ → List ℕ) where
  -- a list of calls in two parts
  final_append : (g : Growing) (calls more : List Call) → tree_after H g (calls ++ more) ≡ tree_after H (tree_after H g calls) more
  unfolding tree_after
  final_append g [] more = refl
  final_append g (c ∷ calls) more = final_append (grown_by H g c).after calls more

  taken_append : (g : Growing) (calls more : List Call) → leaves_taken H g (calls ++ more) ≡ leaves_taken H g calls ++ leaves_taken H (tree_after H g calls) more
  unfolding tree_after leaves_taken
  taken_append g [] more = refl
  taken_append g (c ∷ calls) more =
      let k = cond (eqb (grown_by H g c).number 0) (brought H c) [] in
      let t = (grown_by H g c).after in
      ap (λ (l : List (List ℕ)). k ++ l) (taken_append t calls more) ∙ sym (append_assoc k (leaves_taken H t calls) (leaves_taken H (tree_after H t calls) more))

  module _ (H32 : (s : List ℕ) → length (H s) ≡ 32) where
    -- every leaf hash that is taken has 32 bytes
    brought_32 : (c : Call) → All32 (brought H c)
    unfolding brought leaf
    brought_32 (of_page page) = all_one (leaf H page) (H32 (0 ∷ page))
    brought_32 (of_leaves leaves) = all_nodes leaves

    pub taken_32 : (g : Growing) (calls : List Call) → All32 (leaves_taken H g calls)
    unfolding leaves_taken
    taken_32 g [] = all_none
    taken_32 g (c ∷ calls) = all_append (cond (eqb (grown_by H g c).number 0) (brought H c) []) (leaves_taken H (grown_by H g c).after calls) (go (eqb (grown_by H g c).number 0)) (taken_32 (grown_by H g c).after calls)
      where
        go : (b : Bool) → All32 (cond b (brought H c) [])
        go true = brought_32 c
        go false = all_none

    -- the builders' list, and its count
    list_of : (n : ℕ) (calls : List Call) → nodes (joined (leaves_taken H (fresh n) calls)) ≡ leaves_taken H (fresh n) calls
    list_of n calls = nodes_joined (leaves_taken H (fresh n) calls) (taken_32 (fresh n) calls)

    count_of : (n : ℕ) (calls : List Call) → length (joined (leaves_taken H (fresh n) calls)) / 32 ≡ (tree_after H (fresh n) calls).count
    count_of n calls =
        let e = joined_length (leaves_taken H (fresh n) calls) (taken_32 (fresh n) calls) in
        let d = (follows_all H n calls).count_of_all in
        omega arith

    root_of_lem : (n : ℕ) (calls : List Call) → root H (nodes (joined (leaves_taken H (fresh n) calls))) ≡ root_now H (tree_after H (fresh n) calls)
    root_of_lem n calls = ap (root H) (list_of n calls) ∙ sym (follows_all H n calls).root_of_all

    -- the leaves of an earlier moment are the first of those of a later one
    earlier : (n : ℕ) (calls more : List Call) → root H (take (tree_after H (fresh n) calls).count (nodes (joined (leaves_taken H (fresh n) (calls ++ more))))) ≡ root_now H (tree_after H (fresh n) calls)
    earlier n calls more =
        let l = leaves_taken H (fresh n) calls in
        let d = (follows_all H n calls).count_of_all in
        ap (λ (t : List (List ℕ)). root H (take (tree_after H (fresh n) calls).count t)) (list_of n (calls ++ more) ∙ taken_append (fresh n) calls more)
        ∙ ap (root H) (take_at l (leaves_taken H (tree_after H (fresh n) calls) more) (tree_after H (fresh n) calls).count (sym d))
        ∙ sym (follows_all H n calls).root_of_all

    pub shown_all : ShownAll H
    shown_all n calls = record {
      inclusion = λ place room w e.
          rw (count_of n calls, root_of_lem n calls) at ((complete H H32).inclusion (joined (leaves_taken H (fresh n) calls)) w place room e);
      consistency = λ more room w e.
          rw (count_of n (calls ++ more), root_of_lem n (calls ++ more), earlier n calls more) at ((complete H H32).consistency (joined (leaves_taken H (fresh n) (calls ++ more))) w (tree_after H (fresh n) calls).count room e);
    }

    -- the leaf hashes of pages, joined
    pages_32 : (pages : List (List ℕ)) → All32 (map (leaf H) pages)
    unfolding All32 leaf
    pages_32 [] = tt
    pages_32 (p ∷ pages) = (H32 (0 ∷ p), pages_32 pages)

    pub pages_or_joined : PagesOrJoined H
    pages_or_joined n pages a b =
        however_cut H n (map of_page pages) (of_leaves (joined (map (leaf H) pages)) ∷ [])
        (pages_taken H n pages a ∙ sym (leaves_taken_lem H n (joined (map (leaf H) pages)) b ∙ nodes_joined (map (leaf H) pages) (pages_32 pages)))

    -- ---- one root of one count

    -- two nodes with one hash have the same parts, or their strings collide
    parts : (a b c d : List ℕ) → length a ≡ 32 → length c ≡ 32 → node H a b ≡ node H c d → ((a ≡ c) × (b ≡ d)) ⊎ SomeCollision H
    unfolding node
    parts a b c d p q e = go (same (1 ∷ (a ++ b)) (1 ∷ (c ++ d))) refl
      where
        go : (t : Bool) → same (1 ∷ (a ++ b)) (1 ∷ (c ++ d)) ≡ t → ((a ≡ c) × (b ≡ d)) ⊎ SomeCollision H
        go true s =
            let u : a ++ b ≡ c ++ d = ap (drop 1) (same_true (1 ∷ (a ++ b)) (1 ∷ (c ++ d)) s) in
            inl (
              sym (take_at a b 32 p) ∙ ap (take 32) u ∙ take_at c d 32 q,
              sym (drop_at a b 32 p) ∙ ap (drop 32) u ∙ drop_at c d 32 q,
            )
        go false s = inr (1 ∷ (a ++ b), (1 ∷ (c ++ d), record { different = λ u. false≢true (sym s ∙ same_of (1 ∷ (a ++ b)) (1 ∷ (c ++ d)) u); one_hash = e }))

    Binds : List (List ℕ) → Type 0
    Binds l = (m : List (List ℕ)) → length m ≡ length l → All32 l → All32 m → root H l ≡ root H m → (l ≡ m) ⊎ SomeCollision H

    binds_one : (h : List ℕ) → Binds (h ∷ [])
    unfolding Binds
    binds_one h [] e p q r = absurd (omega arith)
    binds_one h (x ∷ []) e p q r = inl (ap (λ (y : List ℕ). y ∷ []) (sym (root_one H h) ∙ r ∙ root_one H x))
    binds_one h (x ∷ (y ∷ m)) e p q r = absurd (omega arith)

    binds_more : (l : List (List ℕ)) → 1 < length l → Binds (left l) → Binds (right l) → Binds l
    unfolding Binds
    binds_more l more low high m e p q r =
        let k = split (length l) in
        let d : split (length m) ≡ k = ap split e in
        let a = length_left l more in
        let b = length_right l more in
        let u : length (left m) ≡ length (left l) = length_left m (omega arith) ∙ d ∙ sym a in
        let v : length (right m) ≡ length (right l) = length_right m (omega arith) ∙ ap₂ ◌-◌ e d ∙ sym b in
        let x : All32 (left m) = all_take (split (length m)) m q in
        let y : All32 (right m) = all_drop (split (length m)) m q in
        let n = sym (root_split H l more) ∙ r ∙ root_split H m (omega arith) in
        ⊎_elim
        (λ t.
        ⊎_elim
        (λ f. ⊎_elim
        (λ g. inl (sym (take-append-drop k l) ∙ ap₂ ◌++◌ f g ∙ take-append-drop (split (length m)) m))
        inr
        (high (right m) v (all_drop k l p) y t.1))
        inr
        (low (left m) u (all_take k l p) x t.0))
        inr
        (parts (root H (left l)) (root H (right l)) (root H (left m)) (root H (right m)) (root_32 H H32 (left l) (all_take k l p)) (root_32 H H32 (left m) x) n)

    binds : (l : List (List ℕ)) → Binds l
    unfolding Binds
    binds [] [] e p q r = inl refl
    binds [] (x ∷ m) e p q r = absurd (omega arith)
    binds (h ∷ l) m e p q r = by_parts Binds binds_one binds_more (h ∷ l) (omega arith) m e p q r

    pub same_leaves : SameLeaves H
    unfolding Binds
    same_leaves n calls others e r =
        let f = follows_all H n calls in
        let g = follows_all H n others in
        binds (leaves_taken H (fresh n) calls) (leaves_taken H (fresh n) others) (sym g.count_of_all ∙ sym e ∙ f.count_of_all) (taken_32 (fresh n) calls) (taken_32 (fresh n) others)
        (sym f.root_of_all ∙ r ∙ g.root_of_all)
