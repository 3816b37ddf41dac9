-- The calls by number: those by the number that a tree holds are calls by its hash, and any other is 16 and changes nothing. Assumes nothing.
use mathlib.Core.Path.{◌≡◌, refl, sym, ap, ◌∙◌}
use mathlib.Core.Bool.{Bool, true, false, cond}
use mathlib.Core.List.{List, [], ◌∷◌}
use Prim.Native.Nat.{ℕ, suc}
use lib.Dec.{eqb}
use borrow.Author.Tests.{eqb-true, eqb-false}
use Rattle.hash.specs.declared.Algorithm.{Algorithm}
use Rattle.hash.specs.declared.Hashed.{Hashed}
use Rattle.hash.specs.declared.Named.{Named}
use Rattle.hash.specs.declared.Named.TheVariants.{By, Unknown}
use Rattle.hash.specs.Algorithm.{algorithm_of, held_by}
use Rattle.hash.specs.Digest.{hash_of}
use Rattle.hash.proofs.Algorithms.{held_itself, held_another, named_known, named_none, by_known, by_unknown}
use Rattle.tree.specs.Build.{refused}
use Rattle.growing.specs.declared.Growing.{Growing}
use Rattle.growing.specs.declared.Grown.{Grown}
use Rattle.growing.specs.Hashes.{digest, nothing, fresh, root_now}
use Rattle.growing.specs.Calls.{Call, grown_by, root_into, tree_after, Numbered, under, made, grown_in, root_in, root_into_in, tree_in, called_by}
use Rattle.growing.proofs.Calling.{refused_unchanged, keeps_number}

-- ---- what is answered by a number that has a hash, and by one that has none

module _ (n : ℕ) where
  pub made_known : (a : Algorithm) → By a ≡ algorithm_of n → record { number = 0; after = fresh n } ≡ made n
  unfolding made
  made_known a e = by_known n _ _ a e

  pub made_none : Unknown ≡ algorithm_of n → record { number = 16; after = fresh n } ≡ made n
  unfolding made
  made_none e = by_unknown n _ _ e

module _ (n : ℕ) (g : Growing) where
  pub grown_known : (c : Call) (a : Algorithm) → By a ≡ held_by g.algorithm n → grown_by (hash_of a) g c ≡ grown_in n g c
  unfolding grown_in
  grown_known c a e = named_known _ _ _ a e

  pub grown_none : (c : Call) → Unknown ≡ held_by g.algorithm n → record { number = 16; after = g } ≡ grown_in n g c
  unfolding grown_in
  grown_none c e = named_none _ _ _ e

  pub root_known : (a : Algorithm) → By a ≡ held_by g.algorithm n → record { number = 0; digest = digest (root_now (hash_of a) g) } ≡ root_in n g
  unfolding root_in
  root_known a e = named_known _ _ _ a e

  pub root_none : Unknown ≡ held_by g.algorithm n → record { number = 16; digest = nothing } ≡ root_in n g
  unfolding root_in
  root_none e = named_none _ _ _ e

  pub into_known : (room : ℕ) (a : Algorithm) → By a ≡ held_by g.algorithm n → root_into (hash_of a) g room ≡ root_into_in n g room
  unfolding root_into_in
  into_known room a e = named_known _ _ _ a e

  pub into_none : (room : ℕ) → Unknown ≡ held_by g.algorithm n → refused 16 ≡ root_into_in n g room
  unfolding root_into_in
  into_none room e = named_none _ _ _ e

-- a root by value, from its two parts
pub hashed_of : (r : Hashed) (n : ℕ) (h : List ℕ) → r.number ≡ n → r.digest.bytes ≡ h → r ≡ record { number = n; digest = digest h }
hashed_of r n h p q =
    ap (λ (number : ℕ). record { number = number; digest = r.digest }) p ∙ ap (λ (bytes : List ℕ). record { number = n; digest = digest bytes }) q

-- ---- what a number names where a tree holds one

either : (b : Bool) (x : Named) → x ≡ Unknown → Unknown ≡ cond b x Unknown
either true x e = sym e
either false x e = refl

pub held_none : (held n : ℕ) → algorithm_of n ≡ Unknown → Unknown ≡ held_by held n
unfolding held_by
held_none held n e = either (eqb n held) (algorithm_of n) e

pub held_known : (held n : ℕ) (a : Algorithm) → algorithm_of n ≡ By a → n ≡ held → By a ≡ held_by held n
held_known held n a e h = sym e ∙ held_itself held n h

-- a tree that holds a number that no hash has: by any number
pub held_by_none : (held n : ℕ) → algorithm_of held ≡ Unknown → Unknown ≡ held_by held n
held_by_none held n e = go (eqb n held) refl
  where
    go : (b : Bool) → eqb n held ≡ b → Unknown ≡ held_by held n
    go true d = held_none held n (ap algorithm_of (eqb-true n held d) ∙ e)
    go false d = held_another held n (eqb-false n held d)

-- ---- lists of calls, and a refusal

module _ (n : ℕ) (a : Algorithm) (e : algorithm_of n ≡ By a) where
  one_more : (g : Growing) (m : ℕ) (c : Call) (calls : List Numbered) → g.algorithm ≡ n →
      ((t : Growing) → t.algorithm ≡ n → tree_in t calls ≡ tree_after (hash_of a) t (called_by n calls)) → (b : Bool) → eqb m n ≡ b →
      tree_in (grown_in m g c).after calls ≡ tree_after (hash_of a) g (cond b (c ∷ called_by n calls) (called_by n calls))
  unfolding tree_after
  one_more g m c calls h again true d =
      let same = eqb-true m n d in
      let p = grown_known m g c a (held_known g.algorithm m a (ap algorithm_of same ∙ e) (same ∙ sym h)) in
      ap (λ (o : Grown). tree_in o.after calls) (sym p) ∙ again (grown_by (hash_of a) g c).after (keeps_number (hash_of a) g c ∙ h)
  one_more g m c calls h again false d =
      let p = grown_none m g c (held_another g.algorithm m (λ z. eqb-false m n d (z ∙ h))) in
      ap (λ (o : Grown). tree_in o.after calls) (sym p) ∙ again g h

  pub tree_known : (calls : List Numbered) (g : Growing) → g.algorithm ≡ n → tree_in g calls ≡ tree_after (hash_of a) g (called_by n calls)
  unfolding tree_in tree_after called_by
  tree_known [] g h = refl
  tree_known (under m c ∷ calls) g h = one_more g m c calls h (tree_known calls) (eqb m n) refl

pub unchanged_in : (n : ℕ) (g : Growing) (c : Call) (k : ℕ) → (grown_in n g c).number ≡ suc k → (grown_in n g c).after ≡ g
unchanged_in n g c k e = go (held_by g.algorithm n) refl
  where
    go : (x : Named) → x ≡ held_by g.algorithm n → (grown_in n g c).after ≡ g
    go (By a) h =
        let p = grown_known n g c a h in
        ap (λ (o : Grown). o.after) (sym p) ∙ refused_unchanged (hash_of a) g c k (ap (λ (o : Grown). o.number) p ∙ e)
    go Unknown h = ap (λ (o : Grown). o.after) (sym (grown_none n g c h))
