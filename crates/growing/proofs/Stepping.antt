-- One level of a growing tree at an index of its hashes, as the loops go. Over any hash. Assumes nothing.
use mathlib.Core.Path.{◌≡◌, refl, sym, ap, ap₂, ◌∙◌}
use mathlib.Core.List.{List, [], ◌∷◌, ◌++◌, append-nil}
use Prim.Native.Nat.{ℕ, suc, ◌+◌, ◌/◌, ◌%◌, ◌≤◌, ◌<◌}
use native.Mathlib.Omega.{arith}
use native.Mathlib.Numerals.{add-one}
use lib.ListN.{length, take, drop, get_or, set, length-append, length-take, drop_of_length-le}
use lib.Seq.{drop-cons, set_split, take_all, take_at, drop_at, append_snoc}
use borrow.Author.Tests.{eq-eqb, ne_eqb}
use Rattle.hash.specs.declared.Digest.{Digest}
use Rattle.tree.specs.Build.{into}
use Rattle.tree.specs.Full.{together}
use Rattle.tree.proofs.Full.{together_one, together_two}
use Rattle.growing.specs.declared.Growing.{Growing}
use Rattle.growing.specs.Calls.{root_into}
use Rattle.growing.specs.Hashes.{digest, nothing, parent, counting, merged, with_leaf, root_now}

-- what is read past the end
abbrev pub past : Digest
past = digest []

-- a hash put at an index: what is before it with it, and what is behind it
module _ (s : List Digest) (i : ℕ) (x : Digest) (h : i < length s) where
  cut : set s i x ≡ (take i s ++ (x ∷ [])) ++ drop (suc i) s
  cut = set_split s i x h ∙ sym (append_snoc (take i s) x (drop (suc i) s))

  long : length (take i s ++ (x ∷ [])) ≡ suc i
  long = let e : length (take i s) ≡ i = simp length-take (omega arith) in simp length-append (omega arith)

  take_set : take (i + 1) (set s i x) ≡ take i s ++ (x ∷ [])
  take_set = ap (λ (k : ℕ). take k (set s i x)) (add-one i) ∙ ap (take (suc i)) cut ∙ take_at (take i s ++ (x ∷ [])) (drop (suc i) s) (suc i) long

  drop_set : drop (i + 1) (set s i x) ≡ drop (i + 1) s
  drop_set = ap (λ (k : ℕ). drop k (set s i x)) (add-one i) ∙ ap (drop (suc i)) cut ∙ drop_at (take i s ++ (x ∷ [])) (drop (suc i) s) (suc i) long ∙ sym (ap (λ (k : ℕ). drop k s) (add-one i))

module _ (H : List ℕ → List ℕ) (s : List Digest) (i n : ℕ) (x : Digest) where
  pub merged_here : i < length s → n % 2 ≡ 0 → take i s ++ merged H (drop i s) n x ≡ set s i x
  unfolding merged
  merged_here h e = rw (drop-cons s i past h, eq-eqb (n % 2) 0 e, set_split s i x h)

  pub merged_up :
      i < length s → (n % 2 ≡ 0 → ⊥) →
      take i s ++ merged H (drop i s) n x ≡ take (i + 1) (set s i nothing) ++ merged H (drop (i + 1) (set s i nothing)) (n / 2) (parent H (get_or s i past) x)
  unfolding merged
  merged_up h e =
      rw (drop-cons s i past h, ne_eqb (n % 2) 0 e, take_set s i nothing h, drop_set s i nothing h, add-one i)
      (sym (append_snoc (take i s) nothing (merged H (drop (suc i) s) (n / 2) (parent H (get_or s i past) x))))

  pub merged_end : length s ≤ i → take i s ++ merged H (drop i s) n x ≡ s
  unfolding merged
  merged_end h = rw (drop_of_length-le s h, take_all i s h, append-nil s)

module _ (s : List Digest) (i n : ℕ) where
  pub counting_even : i < length s → n % 2 ≡ 0 → counting (drop i s) n ≡ counting (drop (i + 1) s) (n / 2)
  unfolding counting
  counting_even h e = rw (drop-cons s i past h, eq-eqb (n % 2) 0 e, add-one i)

  pub counting_odd : i < length s → (n % 2 ≡ 0 → ⊥) → counting (drop i s) n ≡ counting (drop (i + 1) s) (n / 2) ++ ((get_or s i past).bytes ∷ [])
  unfolding counting
  counting_odd h e = rw (drop-cons s i past h, ne_eqb (n % 2) 0 e, add-one i)

  pub counting_end : length s ≤ i → counting (drop i s) n ≡ []
  unfolding counting
  counting_end h = rw (drop_of_length-le s h)

-- the root where `right` is the root of the last leaves
abbrev pub above : (List ℕ → List ℕ) → List Digest → ℕ → ℕ → List ℕ → List ℕ
above H s i n right = together H (counting (drop i s) n ++ (right ∷ []))

module _ (H : List ℕ → List ℕ) (s : List Digest) (i n : ℕ) (right : List ℕ) where
  pub above_even : i < length s → n % 2 ≡ 0 → above H s i n right ≡ above H s (i + 1) (n / 2) right
  above_even h e = ap (λ (l : List (List ℕ)). together H (l ++ (right ∷ []))) (counting_even s i n h e)

  pub above_odd : i < length s → (n % 2 ≡ 0 → ⊥) → above H s i n right ≡ above H s (i + 1) (n / 2) (parent H (get_or s i past) (digest right)).bytes
  above_odd h e =
      ap (λ (l : List (List ℕ)). together H (l ++ (right ∷ []))) (counting_odd s i n h e)
      ∙ together_two H (counting (drop (i + 1) s) (n / 2)) (get_or s i past).bytes right

  pub above_end : length s ≤ i → above H s i n right ≡ right
  above_end h = ap (λ (l : List (List ℕ)). together H (l ++ (right ∷ []))) (counting_end s i n h) ∙ together_one H right

-- a tree by its fields, and its root
abbrev pub grown : ℕ → List Digest → ℕ → Growing
grown algorithm hashes count = record { algorithm = algorithm; hashes = hashes; count = count }

pub with_leaf_of : (H : List ℕ → List ℕ) (g : Growing) (s : List Digest) (n : ℕ) (x : Digest) → s ≡ merged H g.hashes g.count x → n ≡ g.count + 1 → grown g.algorithm s n ≡ with_leaf H g x
unfolding with_leaf
with_leaf_of H g s n x e d = ap₂ (grown g.algorithm) e d

pub root_now_of : (H : List ℕ → List ℕ) (g : Growing) → root_now H g ≡ together H (counting g.hashes g.count)
unfolding root_now
root_now_of H g = refl

pub root_into_of : (H : List ℕ → List ℕ) (g : Growing) (room : ℕ) → root_into H g room ≡ into room (root_now H g)
unfolding root_into
root_into_of H g room = refl

pub together_none : (H : List ℕ → List ℕ) → together H [] ≡ H []
unfolding together
together_none H = refl
