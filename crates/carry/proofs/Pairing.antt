-- The laws of child pairs: when their strings are the same, and what comes topmost. Assumes nothing.
use mathlib.Core.Path.{◌≡◌, refl, sym, ap, ap₂, ◌∙◌}
use mathlib.Core.Logic.{◌⊎◌, inl, inr, ⊎_elim}
use mathlib.Core.Bool.{Bool, true, false, false≢true}
use mathlib.Core.List.{List}
use Prim.Native.Nat.{ℕ}
use lib.ListN.{length, take, drop}
use lib.Seq.{take_at, drop_at}
use Rattle.octets.specs.Bytes.{same}
use Rattle.octets.proofs.Sameness.{same_true, same_of, same_by}
use Rattle.carry.specs.declared.level.Recomputed.{Recomputed}
use Rattle.carry.specs.Strings.{string, Difference, alike, apart, topmost}
use Rattle.carry.specs.Inner.{difference_of}

pub same_cases : (s t : List ℕ) → (s ≡ t) ⊎ (same s t ≡ false)
same_cases s t = go (same s t) refl
  where
    go : (b : Bool) → same s t ≡ b → (s ≡ t) ⊎ (same s t ≡ false)
    go true e = inl (same_true s t e)
    go false e = inr e

pub differs : (s t : List ℕ) → same s t ≡ false → s ≡ t → ⊥
differs s t d e = false≢true (sym d ∙ same_of s t e)

pub not_same : (s t : List ℕ) → (s ≡ t → ⊥) → same s t ≡ false
not_same s t h = ⊎_elim (λ e. absurd (h e)) (λ e. e) (same_cases s t)

-- strings whose first children have 32 bytes are the same only if both children are
module _ (a b c d : List ℕ) (la : length a ≡ 32) (lc : length c ≡ 32) where
  pub string_left : string a b ≡ string c d → a ≡ c
  string_left e = sym (take_at a b 32 la) ∙ ap (λ (s : List ℕ). take 32 (drop 1 s)) e ∙ take_at c d 32 lc

  pub string_right : string a b ≡ string c d → b ≡ d
  string_right e = sym (drop_at a b 32 la) ∙ ap (λ (s : List ℕ). drop 32 (drop 1 s)) e ∙ drop_at c d 32 lc

  pub pairs_left : {r : Bool} → r ≡ same a c → r ≡ false → false ≡ same (string a b) (string c d)
  pairs_left p q = sym (not_same (string a b) (string c d) (λ e. differs a c (sym p ∙ q) (string_left e)))

  pub pairs_right : {r t : Bool} → r ≡ same a c → r ≡ true → t ≡ same b d → t ≡ same (string a b) (string c d)
  pairs_right {t = t} p q w =
      let e = same_true a c (sym p ∙ q) in
      same_by t (string a b) (string c d) (λ y. ap₂ string e (same_true b d (sym w ∙ y))) (λ y. w ∙ same_of b d (string_right y))

module _ (s t : List ℕ) (below : Difference) where
  pub top_same : same s t ≡ true → topmost s t below ≡ below
  unfolding topmost
  top_same e = rw e

  pub top_apart : same s t ≡ false → topmost s t below ≡ apart s t
  unfolding topmost
  top_apart e = rw e

-- what the code recomputes of two proofs
module _ (w : Recomputed) where
  pub difference_apart : w.apart ≡ true → difference_of w ≡ apart (string w.a.bytes w.b.bytes) (string w.c.bytes w.d.bytes)
  unfolding difference_of
  difference_apart e = rw e

  pub difference_alike : w.apart ≡ false → difference_of w ≡ alike
  unfolding difference_of
  difference_alike e = rw e
