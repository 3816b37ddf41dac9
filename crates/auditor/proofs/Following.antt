-- What is left of a dispute at a place of the heads' buffer, over any hash H. Assumes nothing.
use mathlib.Core.Path.{◌≡◌, sym, ap, ◌∙◌}
use mathlib.Core.List.{List, ◌∷◌}
use Prim.Native.Nat.{ℕ, ◌+◌, ◌-◌, ◌≤◌, ◌<◌}
use native.Mathlib.Omega.{arith}
use lib.ListN.{length, take, drop, length-drop}
use lib.Seq.{take_all, drop-drop}
use Rattle.carry.specs.Forward.{carry}
use Rattle.carry.specs.Compare.{compare}
use Rattle.auditor.specs.Heads.{head_size, head_root, head_path, head_bytes, heads_of}
use Rattle.auditor.specs.Dispute.{Finding, refused, settled, onward, longest_path, follow}
use Rattle.auditor.proofs.Reading.{heads_end, heads_truncated, heads_then}

-- the rest of a buffer, as the code takes it
pub rest_is : (s : List ℕ) (at : ℕ) → take (length s - at) (drop at s) ≡ drop at s
rest_is s at = let l = length-drop at s in take_all (length s - at) (drop at s) (omega arith)

module _ (H : List ℕ → List ℕ) (place : ℕ) (page₁ page₂ path₂ heads : List ℕ) (pair : ℕ) where
  abbrev pub Left : ℕ → ℕ → List ℕ → List ℕ → Finding
  Left at m r p = follow H place page₁ page₂ path₂ pair (heads_of (drop at heads)) m r p

  pub left_end :
      (at m : ℕ) (r p leaf₁ leaf₂ : List ℕ) (l : ℕ) → length heads ≤ at → leaf₁ ≡ H (0 ∷ page₁) → leaf₂ ≡ H (0 ∷ page₂) → l ≡ pair →
      Left at m r p ≡ settled page₁ page₂ (compare H place m r leaf₁ p leaf₂ path₂ l)
  unfolding follow
  left_end at m r p leaf₁ leaf₂ l h f g k =
      let d = length-drop at heads in
      rw (heads_end (drop at heads) (omega arith), f, g, k)

  module _ (at m : ℕ) (r p rest : List ℕ) (e : rest ≡ drop at heads) (n : ℕ) (f : n ≡ head_bytes rest) where
    bytes : head_bytes (drop at heads) ≡ n
    bytes = ap head_bytes (sym e) ∙ sym f

    pub left_truncated : at < length heads → n ≡ 0 → Left at m r p ≡ refused 2
    unfolding follow
    left_truncated h z =
        let d = length-drop at heads in
        rw (heads_truncated (drop at heads) (λ y. omega arith) (bytes ∙ z))

    pub left_then :
        (leaf : List ℕ) (l : ℕ) → (n ≡ 0 → ⊥) → leaf ≡ H (0 ∷ page₁) → l ≡ pair →
        Left at m r p
        ≡ onward (carry H leaf place m (head_size rest) r (head_root rest) p (head_path rest) longest_path l) (follow H place page₁ page₂ path₂ pair (heads_of (drop (at + n) heads)) (head_size rest) (head_root rest))
    unfolding follow
    left_then leaf l z g k =
        rw (heads_then (drop at heads) (λ y. z (sym bytes ∙ y)), bytes, drop-drop n at heads, e, g, k)
