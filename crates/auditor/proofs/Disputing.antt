-- The order of a dispute's refusals before its work, over any hash H. Assumes nothing.
use mathlib.Core.Path.{◌≡◌, sym, ap, ◌∙◌}
use mathlib.Core.Bool.{true, false}
use mathlib.Core.List.{List, ◌∷◌}
use Prim.Native.Nat.{ℕ, ◌≤◌}
use native.Mathlib.Omega.{arith}
use lib.Dec.{ltb}
use lib.ListN.{length}
use borrow.Author.Tests.{eq-eqb, ne_eqb}
use Rattle.octets.specs.Limits.{most_item}
use Rattle.tree.specs.Verdict.{unless, inclusion_verdict}
use Rattle.tree.proofs.Counting.{bounds}
use Rattle.tree.proofs.Accepting.{inclusion_accepted}
use Rattle.auditor.specs.Heads.{Heads}
use Rattle.auditor.specs.Dispute.{refused, longest_path, follow, dispute}

module _ (H : List ℕ → List ℕ) (page₁ : List ℕ) (place : ℕ) (path₁ : List ℕ) (size : ℕ) (root : List ℕ) (heads : Heads) (page₂ path₂ : List ℕ) (pair : ℕ) where
  pub first_long : ltb most_item (length page₁) ≡ true → dispute H page₁ place path₁ size root heads page₂ path₂ pair ≡ refused 1
  unfolding dispute
  first_long e = rw e

  module _ (short₁ : ltb most_item (length page₁) ≡ false) where
    pub second_long : ltb most_item (length page₂) ≡ true → dispute H page₁ place path₁ size root heads page₂ path₂ pair ≡ refused 1
    unfolding dispute
    second_long e = rw (short₁, e)

    module _ (short₂ : ltb most_item (length page₂) ≡ false) (leaf : List ℕ) (hash : leaf ≡ H (0 ∷ page₁)) (v : ℕ) (said : v ≡ inclusion_verdict H leaf place size root path₁) where
      verdict : inclusion_verdict H (H (0 ∷ page₁)) place size root path₁ ≡ v
      verdict = ap (λ (x : List ℕ). inclusion_verdict H x place size root path₁) (sym hash) ∙ sym said

      pub first_refused : (v ≡ 0 → ⊥) → dispute H page₁ place path₁ size root heads page₂ path₂ pair ≡ refused v
      unfolding dispute unless
      first_refused z = rw (short₁, short₂, verdict, ne_eqb v 0 z)

      pub followed : v ≡ 0 → dispute H page₁ place path₁ size root heads page₂ path₂ pair ≡ follow H place page₁ page₂ path₂ pair heads size root path₁
      unfolding dispute unless
      followed z = rw (short₁, short₂, verdict, eq-eqb v 0 z)

      -- an accepted path is no longer than the longest
      pub lengths : v ≡ 0 → (length path₁ ≤ longest_path) × (length root ≡ 32)
      lengths z =
          let a = inclusion_accepted H leaf place size root path₁ (sym said ∙ z) in
          let b = bounds.inclusion_largest place size a.below a.in_range in
          (omega (arith, a.counted, b), a.root_32)
