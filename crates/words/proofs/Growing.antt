-- Lists whose first elements are known. Assumes nothing.
use Rattle.std.proofs.Common.{◌≡◌, ℕ, zero, suc, ◌+◌, ◌<◌, Bool, true, false, cond, ltb, List, [], ◌++◌, length, get_or, drop, set, sym, refl, ◌∙◌, ⊎_elim, le_of_suc-le-suc, not-suc-le-zero, eq-or-lt_of_le, add-one, arith, length-append, drop-cons, get_or-set_other, get_or-set_same, below_more, ltb-true}
use lib.ListN.{get_or-append}
use lib.Seq.{get_or_at, set_at, append_snoc}
use Rattle.words.specs.Known.{Known, course, value, listed}

-- ---- by one more
pub grow : (c : List ℕ) (g : ℕ → ℕ) (n v : ℕ) → n < length c → Known c g n → v ≡ g n → Known (set c n v) g (n + 1)
grow c g n v h k e =
    below_more (λ (j : ℕ). get_or (set c n v) j 0 ≡ g j) n (λ j l. get_or-set_other c n j v 0 (λ (q : j ≡ n). omega arith) ∙ k j l) (get_or-set_same c n v 0 h ∙ e)

-- ---- sequences

module _ (A : List ℕ → ℕ → ℕ) where
  pub course_length : (n : ℕ) → length (course A n) ≡ n
  unfolding course
  course_length zero = refl
  course_length (suc n) = let e : length (course A n) ≡ n = course_length n in rw length-append (omega arith)

  pub course_at : (n : ℕ) → Known (course A n) (value A) n
  unfolding course value
  course_at zero t l = absurd (not-suc-le-zero l)
  course_at (suc n) t l =
      ⊎_elim
      (λ (e : t ≡ n). rw e (get_or_at (course A n) _ [] 0 n (course_length n)))
      (λ (k : t < n). get_or-append (course A n) _ 0 t (rw (course_length n) k) ∙ course_at n t k)
      (eq-or-lt_of_le (le_of_suc-le-suc l))

  -- its values, listed
  pub listed_value : (n : ℕ) → listed (value A) n ≡ course A n
  unfolding course value listed
  listed_value zero = refl
  listed_value (suc n) = rw (listed_value n)

module _ (A B : List ℕ → ℕ → ℕ) (e : (ws : List ℕ) (j : ℕ) → A ws j ≡ B ws j) where
  pub course_same : (n : ℕ) → course A n ≡ course B n
  unfolding course
  course_same zero = refl
  course_same (suc n) = rw (course_same n, e (course B n) n)

  pub value_same : (n : ℕ) → value A n ≡ value B n
  unfolding value
  value_same n = rw (course_same n) (e (course B n) n)

-- where the first sixteen are given, functions that agree on them give the same
pub first_same : (x y : ℕ → ℕ) → ((t : ℕ) → t < 16 → x t ≡ y t) → (t z : ℕ) → cond (ltb t 16) (x t) z ≡ cond (ltb t 16) (y t) z
first_same x y e t z = go (ltb t 16) (λ h. e t (ltb-true t 16 h))
  where
    go : (b : Bool) → (b ≡ true → x t ≡ y t) → cond b (x t) z ≡ cond b (y t) z
    go true f = f refl
    go false f = refl

module _ (f g : ℕ → ℕ) where
  pub listed_same : (n : ℕ) → ((j : ℕ) → j < n → f j ≡ g j) → listed f n ≡ listed g n
  unfolding course listed
  listed_same zero e = refl
  listed_same (suc n) e = rw (listed_same n (λ j l. e j (omega arith)), e n (omega arith))

module _ (f : ℕ → ℕ) where
  pub listed_length : (n : ℕ) → length (listed f n) ≡ n
  unfolding listed
  listed_length n = course_length (λ _ j. f j) n

  pub listed_at : (n : ℕ) → Known (listed f n) f n
  unfolding listed value
  listed_at n = course_at (λ _ j. f j) n

  -- over the first elements of a list, one more
  pub listed_over : (w : List ℕ) (n v : ℕ) → n < length w → v ≡ f n → set (listed f n ++ drop n w) n v ≡ listed f (n + 1) ++ drop (n + 1) w
  unfolding listed course
  listed_over w n v h e =
      rw (add-one n, drop-cons w n 0 h, e)
      (set_at (listed f n) (get_or w n 0) (drop (suc n) w) (f n) n (listed_length n) ∙ sym (append_snoc (listed f n) (f n) (drop (suc n) w)))
