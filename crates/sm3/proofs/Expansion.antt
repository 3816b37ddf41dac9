-- The expansion and the rounds: the standard's equations, and how the code comes by them. Assumes nothing.
use mathlib.Core.Path.{◌≡◌, refl, sym, ap, ◌∙◌}
use mathlib.Core.Bool.{Bool, true, false}
use mathlib.Core.Logic.{◌⊎◌, inl, inr, ⊎_elim}
use mathlib.Core.List.{List, ◌++◌}
use Prim.Native.Nat.{ℕ, ◌+◌, ◌-◌, ◌<◌, ◌≤◌}
use native.Mathlib.Numerals.{add-one}
use native.Mathlib.Omega.{arith}
use lib.Bits.{bit_xor}
use lib.Dec.{ltb}
use lib.ListN.{length, get_or, set, length-set, length-append, get_or-append}
use lib.Seq.{get_or-append-add, get_or-set_same, get_or-set_other, ext_get_or}
use borrow.Author.Tests.{lt-ltb, le-ltb, ltb-true, ltb-false}
use borrow.Author.Count.{below_more}
use Rattle.words.specs.declared.State.{State}
use Rattle.words.specs.Words.{rotl}
use Rattle.words.specs.Known.{course, value, listed}
use Rattle.words.specs.Going.{Longer}
use Rattle.words.proofs.Growing.{grow, course_at, listed_length, listed_at}
use Rattle.sm3.specs.Sm3.{constant, p0, ss1_of, ss2_of, tt1_of, tt2_of, turned, next_word, word_after, word, pair, schedule, round, rounds}
use Rattle.sm3.specs.Inner.{Paired, Expanded, early, late, round_at, rounds_over}

-- ---- 5.3.2, as the document has it

pub word_first : (x : ℕ → ℕ) (t : ℕ) → t < 16 → word x t ≡ x t
unfolding word value word_after
word_first x t l = rw (lt-ltb _ _ l)

word_late : (x : ℕ → ℕ) (t : ℕ) → 15 < t → (ws : List ℕ)
    → word_after x ws t ≡ next_word (get_or ws (t - 16) 0) (get_or ws (t - 9) 0) (get_or ws (t - 3) 0) (get_or ws (t - 13) 0) (get_or ws (t - 6) 0)
unfolding word_after
word_late x t l ws = rw (le-ltb _ _ l)

word_at : (x : ℕ → ℕ) (t j : ℕ) → j < t → get_or (course (word_after x) t) j 0 ≡ word x j
unfolding word
word_at x t j h = course_at (word_after x) t j h

word_is : (x : ℕ → ℕ) (t : ℕ) → word x t ≡ word_after x (course (word_after x) t) t
unfolding word value
word_is x t = refl

pub word_later : (x : ℕ → ℕ) (t : ℕ) → 15 < t → word x t ≡ next_word (word x (t - 16)) (word x (t - 9)) (word x (t - 3)) (word x (t - 13)) (word x (t - 6))
word_later x t l =
    word_is x t ∙ word_late x t l (course (word_after x) t) ∙
    rw (word_at x t (t - 16) (omega arith), word_at x t (t - 9) (omega arith), word_at x t (t - 3) (omega arith), word_at x t (t - 13) (omega arith), word_at x t (t - 6) (omega arith))

-- one word more, and one of W'
module _ (w : List ℕ) (l : length w ≡ 132) (x : ℕ → ℕ) (m : ℕ) where
  word_more : (n v : ℕ) → 15 < n → n < 68 → Paired w x n m
      → v ≡ next_word (get_or w (n - 16) 0) (get_or w (n - 9) 0) (get_or w (n - 3) 0) (get_or w (n - 13) 0) (get_or w (n - 6) 0) → Paired (set w n v) x (n + 1) m
  word_more n v g h k e = (
    grow w (word x) n v (omega (arith, l)) k.0
        (e ∙ rw (k.0 (n - 16) (omega arith), k.0 (n - 9) (omega arith), k.0 (n - 3) (omega arith), k.0 (n - 13) (omega arith), k.0 (n - 6) (omega arith)) (sym (word_later x n g))),
    (λ j i. get_or-set_other w n (j + 68) v 0 (λ (q : j + 68 ≡ n). omega arith) ∙ k.1 j i),
  )

  pub pair_more : (n v : ℕ) → n ≤ 68 → m + 4 < n → Paired w x n m → v ≡ bit_xor (get_or w m 0) (get_or w (m + 4) 0) → Paired (set w (m + 68) v) x n (m + 1)
  unfolding pair
  pair_more n v g h k e =
      let f : v ≡ bit_xor (word x m) (word x (m + 4)) = e ∙ rw (k.0 m (omega arith), k.0 (m + 4) h) in (
        (λ j i. get_or-set_other w (m + 68) j v 0 (λ (q : j ≡ m + 68). omega arith) ∙ k.0 j i),
        below_more (λ (j : ℕ). get_or (set w (m + 68) v) (j + 68) 0 ≡ bit_xor (word x j) (word x (j + 4))) m
            (λ j i. get_or-set_other w (m + 68) (j + 68) v 0 (λ (q : j + 68 ≡ m + 68). omega arith) ∙ k.1 j i)
            (get_or-set_same w (m + 68) v 0 (omega (arith, l)) ∙ f),
      )

-- both, as the code writes them
pub expanded_more : (w : List ℕ) → length w ≡ 132 → (n u v : ℕ) → 15 < n → n < 68
    → u ≡ next_word (get_or w (n - 16) 0) (get_or w (n - 9) 0) (get_or w (n - 3) 0) (get_or w (n - 13) 0) (get_or w (n - 6) 0)
    → v ≡ bit_xor (get_or w (n - 4) 0) u → Longer Expanded w n (set (set w n u) (n + 64) v)
expanded_more w l n u v g h e f x k =
    let a : n - 4 + 4 ≡ n = omega arith in
    let b : n - 4 + 68 ≡ n + 64 = omega arith in
    let c : n - 4 + 1 ≡ n + 1 - 4 = omega arith in
    let o = get_or-set_other w n (n - 4) u 0 (λ (q : n - 4 ≡ n). omega arith) in
    let m = get_or-set_same w n u 0 (omega (arith, l)) in
    rw (b, c) at
    (pair_more (set w n u) (length-set w n u ∙ l) x (n - 4) (n + 1) v (omega arith) (omega arith) (word_more w l x (n - 4) n u g h k e) (rw (a, o, m) f))

-- all 132
lt_or_ge : (a b : ℕ) → (a < b) ⊎ (b ≤ a)
lt_or_ge a b = go (ltb a b) refl
  where
    go : (t : Bool) → ltb a b ≡ t → (a < b) ⊎ (b ≤ a)
    go true e = inl (ltb-true a b e)
    go false e = inr (ltb-false a b e)

pub whole : (w : List ℕ) (x : ℕ → ℕ) → length w ≡ 132 → Expanded w x 68 → w ≡ schedule x
unfolding schedule
whole w x l k = ext_get_or 0 w (a ++ b) (l ∙ sym n) (λ i h. ⊎_elim (low i) (λ g. let e : i - 68 + 68 ≡ i = omega arith in rw e at (high (i - 68) (omega (arith, l)))) (lt_or_ge i 68))
  where
    a : List ℕ
    a = listed (word x) 68

    b : List ℕ
    b = listed (pair x) 64

    n : length (a ++ b) ≡ 132
    n = length-append a b ∙ rw (listed_length (word x) 68, listed_length (pair x) 64)

    low : (i : ℕ) → i < 68 → get_or w i 0 ≡ get_or (a ++ b) i 0
    low i h = k.0 i h ∙ sym (get_or-append a b 0 i (rw (listed_length (word x) 68) h) ∙ listed_at (word x) 68 i h)

    high : (j : ℕ) → j < 64 → get_or w (j + 68) 0 ≡ get_or (a ++ b) (j + 68) 0
    high j h =
        let f : j + 68 ≡ length a + j = rw (listed_length (word x) 68) (omega arith) in
        k.1 j h ∙ sym (ap (λ (i : ℕ). get_or (a ++ b) i 0) f ∙ get_or-append-add a b j 0 ∙ listed_at (pair x) 64 j h)

-- ---- a round, as the code makes it
pub turned_by : (s : State) (f g k w v ss1 tt1 tt2 p : ℕ)
    → ss1 ≡ ss1_of s.a s.e k → tt1 ≡ tt1_of f s.d (ss2_of ss1 s.a) v → tt2 ≡ tt2_of g s.h ss1 w → p ≡ p0 tt2
    → record { a = tt1; b = s.a; c = rotl 9 s.b; d = s.c; e = p; f = s.e; g = rotl 19 s.f; h = s.g } ≡ turned s f g k w v
unfolding turned
turned_by s f g k w v ss1 tt1 tt2 p i j l m = rw (m, l, j, i)

-- ---- the two kinds of rounds

round_early : (s : State) (j w v : ℕ) → j < 16 → round s j w v ≡ early s (constant j) w v
unfolding round early
round_early s j w v h = rw (lt-ltb j 16 h)

round_late : (s : State) (j w v : ℕ) → 15 < j → round s j w v ≡ late s (constant j) w v
unfolding round late
round_late s j w v h = rw (le-ltb j 16 h)

-- ---- a round more, where w has its words
module _ (k w : List ℕ) (n t : ℕ) (v r : State) (c : k ≡ listed constant 64) (h : t < 64) (g : t + 4 < n) (x : ℕ → ℕ) (s : State) (e : v ≡ rounds_over x s t) (p : Expanded w x n) where
  by_kind : (q : State → ℕ → ℕ → ℕ → State) → ((a b : ℕ) → round (rounds_over x s t) t a b ≡ q (rounds_over x s t) (constant t) a b) → r ≡ round_at q k w v t → r ≡ rounds_over x s (t + 1)
  unfolding rounds
  by_kind q d f = f ∙ rw (c, listed_at constant 64 t h, p.0 t (omega arith), p.1 t (omega arith), e, add-one t) (sym (d (word x t) (pair x t)))

  pub early_more : t < 16 → r ≡ round_at early k w v t → r ≡ rounds_over x s (t + 1)
  early_more i = by_kind early (λ a b. round_early (rounds_over x s t) t a b i)

  pub late_more : 15 < t → r ≡ round_at late k w v t → r ≡ rounds_over x s (t + 1)
  late_more i = by_kind late (λ a b. round_late (rounds_over x s t) t a b i)
