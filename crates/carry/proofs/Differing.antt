-- What a comparison finds is a collision of H, or the two proofs are one. Assumes nothing but the hash's length.
use mathlib.Core.Path.{◌≡◌, refl, sym, ap, ap₂, ◌∙◌}
use mathlib.Core.Logic.{⊎_elim}
use mathlib.Core.Bool.{false}
use mathlib.Core.List.{List, [], ◌∷◌, ◌++◌}
use Prim.Native.Nat.{ℕ, ◌-◌, ◌≤◌, ◌<◌}
use native.Mathlib.Omega.{arith}
use lib.ListN.{length}
use Rattle.tree.specs.Split.{split}
use Rattle.tree.specs.Tree.{node}
use Rattle.tree.specs.Count.{inclusion_count}
use Rattle.tree.specs.Yield.{init, last, inclusion_root}
use Rattle.octets.specs.Bytes.{same}
use Rattle.octets.proofs.Order.{lt_or_ge}
use Rattle.tree.proofs.Splitting.{split_ends, by_splits}
use Rattle.tree.proofs.Rfc.{yields_few, yields_low, yields_high}
use Rattle.tree.proofs.Counting.{count_few, count_low, count_high}
use Rattle.octets.proofs.Sameness.{same_refl, same_of}
use Rattle.tree.proofs.Joining.{All32}
use Rattle.carry.specs.Strings.{string, Difference, alike, apart, topmost, Collides}
use Rattle.carry.specs.Compare.{differ}
use Rattle.carry.proofs.Pairing.{same_cases, differs, string_left, string_right, top_same, top_apart}
use Rattle.carry.proofs.Stepping.{differ_one, differ_low, differ_high}
use Rattle.carry.proofs.Walking.{init_last}
use Rattle.carry.proofs.Sizing.{last_32, init_32, init_length, string_65, inclusion_32}

pub nothing : (p : List (List ℕ)) → length p ≡ 0 → p ≡ []
nothing [] e = refl
nothing (x ∷ p) e = absurd (omega arith)

module _ (H : List ℕ → List ℕ) where
  -- two child pairs with one hash: they are the same and what is below holds of them, or they are a collision
  pub level : (P : Difference → Type 0) (a b c d : List ℕ) (below : Difference) → length a ≡ 32 → length b ≡ 32 → length c ≡ 32 → length d ≡ 32 → H (string a b) ≡ H (string c d) →
      ((s t : List ℕ) → Collides H s t → P (apart s t)) → (a ≡ c → b ≡ d → P below) → P (topmost (string a b) (string c d) below)
  level P a b c d below la lb lc ld e found rest =
      ⊎_elim (λ (w : string a b ≡ string c d). rw (top_same (string a b) (string c d) below (same_of (string a b) (string c d) w)) (rest (string_left a b c d la lc w) (string_right a b c d la lc w)))
      (λ (w : same (string a b) (string c d) ≡ false). rw (top_apart (string a b) (string c d) below w) (found (string a b) (string c d) record {
        first_65 = string_65 a b la lb;
        second_65 = string_65 c d lc ld;
        collision = record { different = differs (string a b) (string c d) w; one_hash = e };
      }))
      (same_cases (string a b) (string c d))

  -- what a comparison shows
  abbrev pub Shows : List ℕ → List (List ℕ) → List ℕ → List (List ℕ) → Difference → Type 0
  Shows h p g q alike = (h ≡ g) × (p ≡ q)
  Shows h p g q (apart s t) = Collides H s t

  -- one level up, where the last nodes are the same
  up : (h : List ℕ) (p : List (List ℕ)) (g : List ℕ) (q : List (List ℕ)) (d : Difference) → 0 < length p → 0 < length q → last p ≡ last q → Shows h (init p) g (init q) d → Shows h p g q d
  up h p g q alike a b e w = (w.0, init_last p a ∙ ap₂ (λ (x : List (List ℕ)) (y : List ℕ). x ++ (y ∷ [])) w.1 e ∙ sym (init_last q b))
  up h p g q (apart s t) a b e w = w

  module _ (H32 : (s : List ℕ) → length (H s) ≡ 32) where
    unfoldable Sound : ℕ → Type 0
    Sound n = (m : ℕ) (h : List ℕ) (p : List (List ℕ)) (g : List ℕ) (q : List (List ℕ)) → m < n → length h ≡ 32 → length g ≡ 32 → All32 p → All32 q → length p ≡ inclusion_count m n → length q ≡ inclusion_count m n →
        inclusion_root H m n h p ≡ inclusion_root H m n g q → Shows h p g q (differ H m n h p g q)

    one_leaf : Sound 1
    unfolding Sound
    one_leaf m h p g q lt lh lg ap aq cp cq e =
        let k = count_few m 1 (omega arith) in
        rw (differ_one H m 1 h p g q refl) (sym (yields_few H m 1 h p (omega arith)) ∙ e ∙ yields_few H m 1 g q (omega arith), nothing p (omega arith) ∙ sym (nothing q (omega arith)))

    module _ (n : ℕ) (more : 1 < n) (m : ℕ) (h : List ℕ) (p : List (List ℕ)) (g : List ℕ) (q : List (List ℕ)) (lt : m < n) (lh : length h ≡ 32) (lg : length g ≡ 32) (ap : All32 p) (aq : All32 q) (cp : length p ≡ inclusion_count m n) (cq : length q ≡ inclusion_count m n) (e : inclusion_root H m n h p ≡ inclusion_root H m n g q) where
      low : m < split n → Sound (split n) → Shows h p g q (differ H m n h p g q)
      unfolding Sound node
      low l s =
          let k = split n in
          let ends = split_ends n more in
          let c = count_low m n k more refl l in
          let ip = init_length p in
          let iq = init_length q in
          let y = inclusion_root H m k h (init p) in
          let z = inclusion_root H m k g (init q) in
          rw (differ_low H m n h p g q more l)
          (level (Shows h p g q) y (last p) z (last q) (differ H m k h (init p) g (init q)) (inclusion_32 H H32 m k h (init p) (omega arith) lh) (last_32 p ap (omega arith)) (inclusion_32 H H32 m k g (init q) (omega arith) lg) (last_32 q aq (omega arith))
          (sym (yields_low H m n h p more l) ∙ e ∙ yields_low H m n g q more l) (λ s t w. w)
          (λ u v. up h p g q (differ H m k h (init p) g (init q)) (omega arith) (omega arith) v (s m h (init p) g (init q) l lh lg (init_32 p ap) (init_32 q aq) (omega arith) (omega arith) u)))

      high : split n ≤ m → Sound (n - split n) → Shows h p g q (differ H m n h p g q)
      unfolding Sound node
      high l s =
          let k = split n in
          let ends = split_ends n more in
          let c = count_high m n k more refl l in
          let ip = init_length p in
          let iq = init_length q in
          let y = inclusion_root H (m - k) (n - k) h (init p) in
          let z = inclusion_root H (m - k) (n - k) g (init q) in
          rw (differ_high H m n h p g q more l)
          (level (Shows h p g q) (last p) y (last q) z (differ H (m - k) (n - k) h (init p) g (init q)) (last_32 p ap (omega arith)) (inclusion_32 H H32 (m - k) (n - k) h (init p) (omega arith) lh) (last_32 q aq (omega arith)) (inclusion_32 H H32 (m - k) (n - k) g (init q) (omega arith) lg)
          (sym (yields_high H m n h p more l) ∙ e ∙ yields_high H m n g q more l) (λ s t w. w)
          (λ v u. up h p g q (differ H (m - k) (n - k) h (init p) g (init q)) (omega arith) (omega arith) v (s (m - k) h (init p) g (init q) (omega arith) lh lg (init_32 p ap) (init_32 q aq) (omega arith) (omega arith) u)))

    part : (n : ℕ) → 1 < n → Sound (split n) → Sound (n - split n) → Sound n
    unfolding Sound
    part n more gl gr m h p g q lt lh lg ap aq cp cq e =
        ⊎_elim (λ l. low n more m h p g q lt lh lg ap aq cp cq e l gl) (λ l. high n more m h p g q lt lh lg ap aq cp cq e l gr) (lt_or_ge m (split n))

    pub differ_sound : (n : ℕ) → 0 < n → (m : ℕ) (h : List ℕ) (p : List (List ℕ)) (g : List ℕ) (q : List (List ℕ)) → m < n → length h ≡ 32 → length g ≡ 32 → All32 p → All32 q → length p ≡ inclusion_count m n → length q ≡ inclusion_count m n →
        inclusion_root H m n h p ≡ inclusion_root H m n g q → Shows h p g q (differ H m n h p g q)
    unfolding Sound
    differ_sound = by_splits Sound one_leaf part

  -- two proofs that are one differ nowhere
  Self : ℕ → Type 0
  Self n = (m : ℕ) (h : List ℕ) (p : List (List ℕ)) → differ H m n h p h p ≡ alike

  pub differ_self : (n : ℕ) → 0 < n → (m : ℕ) (h : List ℕ) (p : List (List ℕ)) → differ H m n h p h p ≡ alike
  unfolding Self
  differ_self =
      by_splits Self (λ m h p. differ_one H m 1 h p h p refl)
      (λ n more gl gr m h p.
      ⊎_elim (λ l. differ_low H m n h p h p more l ∙ top_same _ _ (differ H m (split n) h (init p) h (init p)) (same_refl _) ∙ gl m h (init p))
      (λ l. differ_high H m n h p h p more l ∙ top_same _ _ (differ H (m - split n) (n - split n) h (init p) h (init p)) (same_refl _) ∙ gr (m - split n) h (init p))
      (lt_or_ge m (split n)))
