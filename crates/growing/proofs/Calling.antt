-- Every list of calls from a new tree: the claims. Over any hash. Assumes nothing.
use mathlib.Core.Path.{◌≡◌, refl, sym, ap, ap₂, ◌∙◌}
use mathlib.Core.Bool.{cond}
use mathlib.Core.List.{List, [], ◌∷◌, ◌++◌, map, append-nil, append_assoc}
use Prim.Native.Nat.{ℕ, zero, suc, ◌+◌, ◌/◌, ◌^◌, ◌≤◌, ◌<◌}
use native.Mathlib.Omega.{arith}
use lib.Count.{ones}
use lib.Dec.{eqb, ltb}
use lib.ListN.{length, length-append, length-replicate}
use borrow.Author.Tests.{ne_eqb}
use Rattle.hash.specs.declared.Digest.{Digest}
use Rattle.octets.specs.Limits.{most_item}
use Rattle.tree.specs.Limits.{largest_size}
use Rattle.tree.specs.Tree.{leaf, root, mth}
use Rattle.tree.specs.Joined.{nodes}
use Rattle.tree.specs.Full.{together}
use Rattle.tree.specs.Build.{unfit}
use Rattle.tree.proofs.Joining.{nodes_length}
use Rattle.tree.proofs.Full.{full_bits, together_full}
use Rattle.growing.specs.declared.Growing.{Growing}
use Rattle.growing.specs.declared.Grown.{Grown}
use Rattle.growing.specs.Limits.{most_hashes}
use Rattle.growing.specs.Hashes.{digest, nothing, fresh, with_leaf, with_leaves}
use Rattle.growing.specs.Calls.{Call, of_page, of_leaves, room_number, call_number, brought, grown_by, tree_after, leaves_taken, all_brought, AllAccepted}
use Rattle.growing.specs.Claims.{Follows, FollowsAll, HoweverCut, AllTaken, RefusedUnchanged, Takes}
use Rattle.growing.proofs.Holding.{Holds, holds_none, holds_more, holds_full, holds_at, holds_zeros, merged_length, length_snoc}
use Rattle.growing.proofs.Stepping.{root_now_of}
use Rattle.growing.proofs.Adding.{given, room_fits, refused, accepted, with_append, with_count, with_number}

module _ (H : List ℕ → List ℕ) where
  -- a tree with k levels has the leaves l
  pub record Has (k : ℕ) (g : Growing) (l : List (List ℕ)) : Type 0 where
    pub levels : length g.hashes ≡ k
    pub counted : g.count ≡ length l
    pub held : Holds H g.hashes l

  pub has_none : (n : ℕ) → Has most_hashes (fresh n) []
  has_none n = record { levels = length-replicate most_hashes nothing; counted = refl; held = holds_none H most_hashes }

  has_one : (k : ℕ) (g : Growing) (l : List (List ℕ)) (x : List ℕ) → length l + 1 < 2 ^ k → Has k g l → Has k (with_leaf H g (digest x)) (l ++ (x ∷ []))
  unfolding with_leaf
  has_one k g l x room p =
      let e = p.levels in
      let d = p.counted in
      let n = length_snoc l x in
      let r : g.count + 1 < 2 ^ length g.hashes = rw e (omega arith) in
      record { levels = merged_length H g.hashes g.count (digest x) ∙ e; counted = omega arith; held = holds_more H g.hashes l g.count (digest x) d r p.held }

  -- more leaves, where the levels have room for them
  pub has_more : (k : ℕ) (g : Growing) (l m : List (List ℕ)) → length l + length m < 2 ^ k → Has k g l → Has k (with_leaves H g m) (l ++ m)
  unfolding with_leaves
  has_more k g l [] room p = rw (append-nil l) p
  has_more k g l (x ∷ m) room p =
      let n = length_snoc l x in
      rw (append_assoc l (x ∷ []) m) at (has_more k (with_leaf H g (digest x)) (l ++ (x ∷ [])) m (omega arith) (has_one k g l x (omega arith) p))

  -- what a call adds
  abbrev kept : Growing → Call → List (List ℕ)
  kept g c = cond (eqb (grown_by H g c).number 0) (brought H c) []

  by_number : (g : Growing) (c : Call) (P : Grown → List (List ℕ) → Type 0) →
      (call_number g.count c ≡ 0 → P (record { number = 0; after = with_leaves H g (brought H c) }) (brought H c)) →
      ((n : ℕ) → P (record { number = suc n; after = g }) []) → P (grown_by H g c) (kept g c)
  by_number g c P a r = go (call_number g.count c) refl
    where
      go : (n : ℕ) → call_number g.count c ≡ n → P (grown_by H g c) (kept g c)
      go zero e = rw (accepted H g c e) (a e)
      go (suc n) e = rw (refused H g c n e, ne_eqb (suc n) 0 (λ z. omega arith)) (r n)

  tree_of : (g : Growing) (c : Call) → (grown_by H g c).after ≡ with_leaves H g (kept g c)
  unfolding with_leaves
  tree_of g c = by_number g c (λ o k. o.after ≡ with_leaves H g k) (λ e. refl) (λ n. refl)

  pub keeps_number : (g : Growing) (c : Call) → (grown_by H g c).after.algorithm ≡ g.algorithm
  keeps_number g c = ap (λ (t : Growing). t.algorithm) (tree_of g c) ∙ with_number H g (kept g c)

  pub one_by_one : (g : Growing) (calls : List Call) → tree_after H g calls ≡ with_leaves H g (leaves_taken H g calls)
  unfolding with_leaves tree_after leaves_taken
  one_by_one g [] = refl
  one_by_one g (c ∷ calls) =
      let t = (grown_by H g c).after in
      one_by_one t calls ∙ ap (λ (x : Growing). with_leaves H x (leaves_taken H t calls)) (tree_of g c) ∙ sym (with_append H g (kept g c) (leaves_taken H t calls))

  -- no call goes past the largest size
  brought_fits : (count : ℕ) (c : Call) → call_number count c ≡ 0 → count + length (brought H c) ≤ largest_size
  unfolding call_number brought
  brought_fits count (of_page page) e = room_fits count 1 (given 0 (ltb most_item (length page)) (room_number count 1) e).1
  brought_fits count (of_leaves leaves) e =
      let f = room_fits count (length leaves / 32) (given 9 (unfit leaves) (room_number count (length leaves / 32)) e).1 in
      let n = nodes_length leaves in
      omega arith

  within : (g : Growing) (calls : List Call) → g.count ≤ largest_size → g.count + length (leaves_taken H g calls) ≤ largest_size
  unfolding leaves_taken
  within g [] h = omega arith
  within g (c ∷ calls) h =
      let t = (grown_by H g c).after in
      let k = by_number g c (λ o l. g.count + length l ≤ largest_size) (λ e. brought_fits g.count c e) (λ n. omega arith) in
      let d : t.count ≡ g.count + length (kept g c) = ap (λ (x : Growing). x.count) (tree_of g c) ∙ with_count H g (kept g c) in
      let w = within t calls (omega arith) in
      let n = length-append (kept g c) (leaves_taken H t calls) in
      omega arith

  -- a tree that has the leaves l
  follows : (n : ℕ) (g : Growing) (l : List (List ℕ)) → length l ≤ largest_size → g ≡ with_leaves H (fresh n) l → Has most_hashes g l → Follows H n g l
  follows n g l w e p =
      let f = holds_full H g.hashes l g.count p.counted p.held in
      record {
        number = ap (λ (t : Growing). t.algorithm) e ∙ with_number H (fresh n) l;
        root_of_all = root_now_of H g ∙ ap (together H) f ∙ together_full H l;
        count_of_all = p.counted;
        within = w;
        full = f;
        ones_count = ap length f ∙ full_bits H l ∙ ap ones (sym p.counted);
        levels = p.levels;
        at = λ i odd. holds_at H i g.hashes l p.held odd;
        zeros = λ i even. ap (λ (d : Digest). d.bytes) (holds_zeros H i g.hashes l p.held even);
        one_by_one = e;
      }

  pub follows_all : FollowsAll H
  follows_all n calls =
      let l = leaves_taken H (fresh n) calls in
      let w : length l ≤ largest_size = let v = within (fresh n) calls (omega arith) in omega arith in
      let p = has_more most_hashes (fresh n) [] l (omega arith) (has_none n) in
      follows n (tree_after H (fresh n) calls) l w (one_by_one (fresh n) calls) (rw (one_by_one (fresh n) calls) p)

  pub however_cut : HoweverCut H
  however_cut n calls others e = one_by_one (fresh n) calls ∙ ap (with_leaves H (fresh n)) e ∙ sym (one_by_one (fresh n) others)

  pub all_taken : AllTaken H
  unfolding leaves_taken all_brought AllAccepted
  all_taken g [] p = refl
  all_taken g (c ∷ calls) p =
      let t = (grown_by H g c).after in
      let e : cond (eqb (grown_by H g c).number 0) (brought H c) [] ≡ brought H c = rw p.0 in
      ap₂ ◌++◌ e (all_taken t calls p.1)

  pub refused_unchanged : RefusedUnchanged H
  unfolding grown_by
  refused_unchanged g c n e = ap (λ (o : Grown). o.after) (refused H g c n e)

  -- ---- what pages and joined hashes bring

  pages_brought : (pages : List (List ℕ)) → all_brought H (map of_page pages) ≡ map (leaf H) pages
  unfolding all_brought brought
  pages_brought [] = refl
  pages_brought (p ∷ pages) = ap (λ (l : List (List ℕ)). leaf H p ∷ l) (pages_brought pages)

  leaves_brought : (leaves : List ℕ) → all_brought H (of_leaves leaves ∷ []) ≡ nodes leaves
  unfolding all_brought brought
  leaves_brought leaves = append-nil (nodes leaves)

  pub pages_taken : (n : ℕ) (pages : List (List ℕ)) → AllAccepted H (fresh n) (map of_page pages) → leaves_taken H (fresh n) (map of_page pages) ≡ map (leaf H) pages
  pages_taken n pages a = all_taken (fresh n) (map of_page pages) a ∙ pages_brought pages

  pub leaves_taken_lem : (n : ℕ) (leaves : List ℕ) → AllAccepted H (fresh n) (of_leaves leaves ∷ []) → leaves_taken H (fresh n) (of_leaves leaves ∷ []) ≡ nodes leaves
  leaves_taken_lem n leaves a = all_taken (fresh n) (of_leaves leaves ∷ []) a ∙ leaves_brought leaves

  pub takes : Takes H
  unfolding mth
  takes = record {
    pages = λ n pages a. (follows_all n (map of_page pages)).root_of_all ∙ ap (root H) (pages_taken n pages a);
    leaves = λ n leaves a. (follows_all n (of_leaves leaves ∷ [])).root_of_all ∙ ap (root H) (leaves_taken_lem n leaves a);
  }
