-- What each outcome answers and leaves. Assumes nothing.
use mathlib.Core.Bool.{Bool, true, false, cond}
use mathlib.Core.Path.{◌≡◌, refl, sym, ap, ◌∙◌}
use mathlib.Core.List.{List, ◌∷◌, ◌++◌}
use Prim.Native.Nat.{ℕ, ◌<◌, ◌≤◌}
use native.Mathlib.Omega.{arith}
use lib.Dec.{eqb}
use lib.ListN.{length, drop}
use borrow.Author.Tests.{eq-eqb, ne_eqb, eqb-true, lt-ltb, le-ltb}
use Rattle.words.specs.declared.State.{State}
use Rattle.words.specs.Words.{word_from}
use Rattle.words.specs.Answers.{Compression, Scheduling, step_number, value_after, schedule_after}
use Rattle.words.proofs.Promises.{block_taken}
use Rattle.mta.specs.Slices.{node_number, node_bytes, state_of, words_of, words_number, words_after, words_schedule}

module _ (H : List ℕ → List ℕ) (l r out : List ℕ) where
  pub node_left : (length l ≡ 32 → ⊥) → (5 ≡ node_number l r out) × (out ≡ node_bytes H l r out)
  unfolding node_number node_bytes
  node_left h = let e = ne_eqb (length l) 32 h in (simp e, simp e)

  pub node_right : length l ≡ 32 → (length r ≡ 32 → ⊥) → (5 ≡ node_number l r out) × (out ≡ node_bytes H l r out)
  unfolding node_number node_bytes
  node_right h k = let e = eq-eqb (length l) 32 h in let f = ne_eqb (length r) 32 k in (simp (e, f), simp (e, f))

  pub node_short : length l ≡ 32 → length r ≡ 32 → length out < 32 → (9 ≡ node_number l r out) × (out ≡ node_bytes H l r out)
  unfolding node_number node_bytes
  node_short h k m =
      let e = eq-eqb (length l) 32 h in
      let f = eq-eqb (length r) 32 k in
      let g = lt-ltb (length out) 32 m in
      (simp (e, f, g), simp (e, f, g))

  pub node_done : length l ≡ 32 → length r ≡ 32 → 32 ≤ length out → (0 ≡ node_number l r out) × (H (1 ∷ (l ++ r)) ++ drop 32 out ≡ node_bytes H l r out)
  unfolding node_number node_bytes
  node_done h k m =
      let e = eq-eqb (length l) 32 h in
      let f = eq-eqb (length r) 32 k in
      let g = le-ltb (length out) 32 m in
      (simp (e, f, g), simp (e, f, g))

-- ---- why a block step is refused
module _ (n : ℕ) (l m w : List ℕ) where
  pub words_block : (length m ≡ 64 → ⊥) → 5 ≡ words_number n l m w
  unfolding step_number words_number
  words_block h = let e = ne_eqb (length m) 64 h in simp e

  pub words_schedule_lem : length m ≡ 64 → (length w ≡ n → ⊥) → 9 ≡ words_number n l m w
  unfolding step_number words_number
  words_schedule_lem h k = let e = eq-eqb (length m) 64 h in let f = ne_eqb (length w) n k in simp (e, f)

  pub words_state : length m ≡ 64 → length w ≡ n → (length l ≡ 8 → ⊥) → 9 ≡ words_number n l m w
  unfolding step_number words_number
  words_state h k i = let e = eq-eqb (length m) 64 h in let f = eq-eqb (length w) n k in let g = ne_eqb (length l) 8 i in simp (e, f, g)

  pub words_fit : length m ≡ 64 → length w ≡ n → length l ≡ 8 → 0 ≡ words_number n l m w
  unfolding step_number words_number
  words_fit h k i = let e = eq-eqb (length m) 64 h in let f = eq-eqb (length w) n k in let g = eq-eqb (length l) 8 i in simp (e, f, g)

-- a chain that ends with 0 met every test
all_met : (b d e : Bool) → ◌≡◌ {A = ℕ} 0 (cond (eqb (cond b (cond d 0 9) 5) 0) (cond e 0 9) (cond b (cond d 0 9) 5)) → (b ≡ true) × ((d ≡ true) × (e ≡ true))
all_met true true true z = (refl, (refl, refl))
all_met true true false z = absurd (omega (arith, z))
all_met true false e z = absurd (omega (arith, z))
all_met false d e z = absurd (omega (arith, z))

-- so a step that is not refused has a block of 64 bytes, a schedule of n words and a state of eight
pub words_met : (n : ℕ) (l m w : List ℕ) → 0 ≡ words_number n l m w → (length m ≡ 64) × ((length w ≡ n) × (length l ≡ 8))
unfolding step_number words_number
words_met n l m w z =
    let t = all_met (eqb (length m) 64) (eqb (length w) n) (eqb (length l) 8) z in
    (eqb-true (length m) 64 t.0, (eqb-true (length w) n t.1.0, eqb-true (length l) 8 t.1.1))

-- ---- what a block step leaves
module _ (n : ℕ) (C : Compression) (S : Scheduling) (l m w : List ℕ) where
  pub words_refused : (k : ℕ) → k ≡ words_number n l m w → (k ≡ 0 → ⊥) → (l ≡ words_after n C l m w) × (w ≡ words_schedule n S l m w)
  unfolding words_after words_schedule
  words_refused k e d = let f = ne_eqb (words_number n l m w) 0 (λ z. d (e ∙ z)) in (simp f, simp f)

  pub words_done : (s r : State) (v : List ℕ) → 0 ≡ words_number n l m w → s ≡ state_of l → r ≡ value_after n C s m 0 w → v ≡ schedule_after n S m 0 w
      → (words_of r ≡ words_after n C l m w) × (v ≡ words_schedule n S l m w)
  unfolding words_after words_schedule
  words_done s r v z q e f =
      let h = words_met n l m w z in
      let t = block_taken n C S s m w 0 (omega (arith, h.0)) h.1.0 in
      let g = eq-eqb (words_number n l m w) 0 (sym z) in
      (ap words_of (e ∙ sym t.0 ∙ ap (λ (x : State). C x (word_from m 0)) q) ∙ simp g, f ∙ sym t.1 ∙ simp g)
