-- What a dispute makes of what a comparison and a carrying report. Assumes nothing.
use mathlib.Core.Path.{◌≡◌, refl, sym, ap, ◌∙◌}
use mathlib.Core.Bool.{true, false}
use mathlib.Core.List.{List}
use Prim.Native.Nat.{ℕ, ◌≤◌}
use native.Mathlib.Omega.{arith}
use lib.ListN.{length, take, drop, length-append}
use lib.Seq.{take_at}
use Rattle.octets.specs.Bytes.{same, over}
use Rattle.octets.specs.Answer.{Answer, done}
use Rattle.carry.specs.Compare.{Comparison, Likeness, compare_report, pair_compared}
use Rattle.carry.specs.Forward.{Forward, Moved, carry_report, path_carried, pair_carried}
use Rattle.auditor.specs.Dispute.{Finding, refused, Ruling, settled, onward, dispute_report, pair_disputed}

no : ◌≡◌ {A = ℕ} 0 1 → ⊥
no e = omega arith

-- a refusal says its number, and the pair buffer keeps its bytes
pub reports_refused : (d : Finding) (n : ℕ) (b : List ℕ) → d ≡ refused n → (Answer.refused n ≡ dispute_report d) × (b ≡ pair_disputed d b)
unfolding dispute_report pair_disputed
reports_refused d n b e = rw e (refl, refl)

module _ (page₁ page₂ b : List ℕ) where
  pub compared_refused : (f : Comparison) (n : ℕ) → Answer.refused n ≡ compare_report f → (Answer.refused n ≡ dispute_report (settled page₁ page₂ f)) × (pair_compared f b ≡ pair_disputed (settled page₁ page₂ f) b)
  unfolding compare_report pair_compared settled dispute_report pair_disputed
  compared_refused (Comparison.refused k) n e = (let d : n ≡ k = cc in ap Answer.refused d, refl)
  compared_refused Comparison.equal n e = absurd (no (cc))
  compared_refused (Comparison.collision s t) n e = absurd (no (cc))

  pub compared_collision : (f : Comparison) → done Likeness.of_strings ≡ compare_report f → (done Ruling.of_nodes ≡ dispute_report (settled page₁ page₂ f)) × (pair_compared f b ≡ pair_disputed (settled page₁ page₂ f) b)
  unfolding compare_report pair_compared settled dispute_report pair_disputed
  compared_collision (Comparison.refused k) e = absurd (no (cc))
  compared_collision Comparison.equal e = absurd (no (cc))
  compared_collision (Comparison.collision s t) e = (refl, refl)

  pub compared_same : (f : Comparison) → done Likeness.same ≡ compare_report f → same page₁ page₂ ≡ true → (done Ruling.same_page ≡ dispute_report (settled page₁ page₂ f)) × (pair_compared f b ≡ pair_disputed (settled page₁ page₂ f) b)
  unfolding compare_report pair_compared settled dispute_report pair_disputed
  compared_same (Comparison.refused k) e s = absurd (no (cc))
  compared_same Comparison.equal e s = rw s (refl, refl)
  compared_same (Comparison.collision s t) e w = absurd (no (cc))

  pub compared_pages : (f : Comparison) → done Likeness.same ≡ compare_report f → same page₁ page₂ ≡ false → (done Ruling.of_pages ≡ dispute_report (settled page₁ page₂ f)) × (pair_compared f b ≡ pair_disputed (settled page₁ page₂ f) b)
  unfolding compare_report pair_compared settled dispute_report pair_disputed
  compared_pages (Comparison.refused k) e s = absurd (no (cc))
  compared_pages Comparison.equal e s = rw s (refl, refl)
  compared_pages (Comparison.collision s t) e w = absurd (no (cc))

pub carried_refused : (f : Forward) (go : List ℕ → Finding) (n : ℕ) → Answer.refused n ≡ carry_report f → (onward f go ≡ refused n) × ((b : List ℕ) → pair_carried f b ≡ b)
unfolding carry_report pair_carried onward
carried_refused (Forward.refused k) go n e = (let d : k ≡ n = cc in ap refused d, λ b. refl)
carried_refused (Forward.carried w) go n e = absurd (no (cc))
carried_refused (Forward.collision s t) go n e = absurd (no (cc))

pub carried_collision : (f : Forward) (go : List ℕ → Finding) (b : List ℕ) → done Moved.of_strings ≡ carry_report f → (done Ruling.of_nodes ≡ dispute_report (onward f go)) × (pair_carried f b ≡ pair_disputed (onward f go) b)
unfolding carry_report pair_carried onward dispute_report pair_disputed
carried_collision (Forward.refused k) go b e = absurd (no (cc))
carried_collision (Forward.carried w) go b e = absurd (no (cc))
carried_collision (Forward.collision s t) go b e = (refl, refl)

-- the carried path is the start of the path buffer
pub carried_path :
    (f : Forward) (go : List ℕ → Finding) (n : ℕ) (o b : List ℕ) → done (Moved.of_path n) ≡ carry_report f → o ≡ path_carried f b →
    (onward f go ≡ go (take n o)) × (n ≤ length o) × ((d : List ℕ) → pair_carried f d ≡ d)
unfolding carry_report path_carried pair_carried onward over
carried_path (Forward.refused k) go n o b e g = absurd (no (cc))
carried_path (Forward.carried w) go n o b e g =
    let d : n ≡ length w = cc in
    (ap go (sym (ap (take n) g ∙ take_at w (drop (length w) b) n (sym d))), (let i = ap length g in let j = length-append w (drop (length w) b) in omega arith), λ x. refl)
carried_path (Forward.collision s t) go n o b e g = absurd (no (cc))
