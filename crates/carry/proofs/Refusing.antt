-- What is known where an answer d is no refusal, of any answers A whose refusals are r. Assumes nothing.
use mathlib.Core.Path.{◌≡◌, refl, sym}
use mathlib.Core.Bool.{Bool, true, false, cond}
use Prim.Native.Nat.{ℕ}
use lib.Dec.{eqb}
use borrow.Author.Tests.{eqb-true}
use Rattle.tree.specs.Verdict.{unless}

module _ {A : Type 0} (r : ℕ → A) (d : A) (other : (n : ℕ) → d ≡ r n → ⊥) where
  -- a verdict that came before it is 0
  pub accepted : (v : ℕ) (c : A) → unless r v c ≡ d → (v ≡ 0) × (c ≡ d)
  unfolding unless
  accepted v c e = let p = go (eqb v 0) e in (eqb-true v 0 p.0, p.1)
    where
      go : (b : Bool) → cond b c (r v) ≡ d → (b ≡ true) × (c ≡ d)
      go true f = (refl, f)
      go false f = absurd (other v (sym f))

  -- a test that came before it is passed
  pub passed : (b : Bool) (n : ℕ) (c : A) → cond b (r n) c ≡ d → (b ≡ false) × (c ≡ d)
  passed true n c e = absurd (other n (sym e))
  passed false n c e = (refl, e)

-- the same, with the answer behind it
pub opened : {A : Type 0} (r : ℕ → A) (v : ℕ) (c d : A) → unless r v c ≡ d → ((n : ℕ) → d ≡ r n → ⊥) → (v ≡ 0) × (c ≡ d)
opened r v c d e h = accepted r d h v c e
