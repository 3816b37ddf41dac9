-- What comparing and carrying find is the topmost of the levels that the two proofs rebuild. Assumes nothing.
use mathlib.Core.Path.{◌≡◌, refl, sym, ap, ap₂, ◌∙◌}
use mathlib.Core.Logic.{◌⊎◌, inl, inr, ⊎_elim}
use mathlib.Core.Bool.{Bool, true, false, cond}
use mathlib.Core.List.{List, [], ◌∷◌}
use Prim.Native.Nat.{ℕ, zero, suc, ◌+◌, ◌-◌, ◌^◌, ◌≤◌, ◌<◌}
use native.Mathlib.Omega.{arith}
use native.Mathlib.Nat.{eq-or-lt_of_le}
use lib.Dec.{leb, eqb}
use lib.ListN.{length, take, get_or}
use borrow.Author.Tests.{lt-ltb, le-ltb}
use Rattle.tree.specs.Split.{split, Shape, one, fork, size, shape}
use Rattle.tree.specs.Tree.{node}
use Rattle.tree.specs.Full.{together}
use Rattle.tree.specs.Yield.{init, last, inclusion_root, consistency_root_of, old_root}
use Rattle.tree.specs.Count.{inclusion_count_of}
use Rattle.octets.proofs.Order.{lt_or_ge}
use Rattle.tree.proofs.Splitting.{split_ends, split_same, shape_fork, by_splits}
use Rattle.tree.proofs.Rfc.{size_left}
use Rattle.tree.proofs.Full.{together_more}
use Rattle.tree.specs.Joined.{nodes}
use Rattle.octets.proofs.Sameness.{same_of}
use Rattle.tree.proofs.Accepting.{inclusion_accepted, consistency_accepted}
use Rattle.carry.specs.Strings.{string, Difference, alike, apart, topmost}
use Rattle.carry.specs.Compare.{differ_of, differ}
use Rattle.carry.specs.Forward.{conflict}
use Rattle.carry.specs.Levels.{First, Finds, above_of, subtrees_of, subtrees, inclusion_strings_of, inclusion_strings, together_strings, inclusion_levels, consistency_levels, Levelled}
use Rattle.carry.proofs.Pairing.{same_cases, not_same, differs, top_same, top_apart}
use Rattle.carry.proofs.Comparing as compare
use Rattle.carry.proofs.Carrying as carry
use Rattle.carry.proofs.Stepping.{conflict_all, conflict_low, conflict_here, conflict_beyond}
use Rattle.carry.proofs.Subtrees.{Within, narrowed, above_full, above_here, above_beyond, subtrees_low, subtrees_high, subtrees_some, Bits, bits, own}

-- ---- two lists of strings

-- the first two that differ
unfoldable first_apart : List (List ℕ) → List (List ℕ) → Difference
first_apart [] ts = alike
first_apart (s ∷ ss) [] = alike
first_apart (s ∷ ss) (t ∷ ts) = topmost s t (first_apart ss ts)

apart_alike : (s t : List ℕ) → apart s t ≡ alike → ⊥
apart_alike s t e = let z : ◌≡◌ {A = ℕ} 0 1 = cc in omega arith

module _ (s t : List ℕ) (ss ts : List (List ℕ)) where
  on : s ≡ t → first_apart (s ∷ ss) (t ∷ ts) ≡ first_apart ss ts
  unfolding first_apart
  on e = top_same s t (first_apart ss ts) (same_of s t e)

  here : (s ≡ t → ⊥) → first_apart (s ∷ ss) (t ∷ ts) ≡ apart s t
  unfolding first_apart
  here h = top_apart s t (first_apart ss ts) (not_same s t h)

  equal_or : (s ≡ t) ⊎ (s ≡ t → ⊥)
  equal_or = ⊎_elim (λ e. inl e) (λ d. inr (differs s t d)) (same_cases s t)

alike_to : (ss ts : List (List ℕ)) → length ss ≡ length ts → first_apart ss ts ≡ alike → (i : ℕ) → i < length ss → get_or ss i [] ≡ get_or ts i []
alike_to [] ts l e i h = absurd (omega arith)
alike_to (s ∷ ss) [] l e i h = absurd (omega arith)
alike_to (s ∷ ss) (t ∷ ts) l e zero h = ⊎_elim (λ d. d) (λ d. absurd (apart_alike s t (sym (here s t ss ts d) ∙ e))) (equal_or s t ss ts)
alike_to (s ∷ ss) (t ∷ ts) l e (suc i) h =
    ⊎_elim (λ d. alike_to ss ts (omega arith) (sym (on s t ss ts d) ∙ e) i (omega arith)) (λ d. absurd (apart_alike s t (sym (here s t ss ts d) ∙ e))) (equal_or s t ss ts)

alike_from : (ss ts : List (List ℕ)) → length ss ≡ length ts → ((i : ℕ) → i < length ss → get_or ss i [] ≡ get_or ts i []) → first_apart ss ts ≡ alike
unfolding first_apart
alike_from [] ts l f = refl
alike_from (s ∷ ss) [] l f = refl
alike_from (s ∷ ss) (t ∷ ts) l f = on s t ss ts (f 0 (omega arith)) ∙ alike_from ss ts (omega arith) (λ i h. f (suc i) (omega arith))

apart_to : (ss ts : List (List ℕ)) (s t : List ℕ) → length ss ≡ length ts → first_apart ss ts ≡ apart s t → First ss ts s t
unfolding first_apart
apart_to [] ts s t l e = absurd (apart_alike s t (sym e))
apart_to (u ∷ ss) [] s t l e = absurd (apart_alike s t (sym e))
apart_to (u ∷ ss) (v ∷ ts) s t l e =
    ⊎_elim (λ d.
    let r = apart_to ss ts s t (omega arith) (sym (on u v ss ts d) ∙ e) in
    let w = r.within in
    record { level = suc r.level; within = omega arith; first = r.first; second = r.second; different = r.different; above = under d r.level r.above })
    (λ d.
    let f : apart u v ≡ apart s t = sym (here u v ss ts d) ∙ e in
    record { level = 0; within = omega arith; first = cc; second = cc; different = λ g. d (cc); above = λ i h. absurd (omega arith) })
    (equal_or u v ss ts)
  where
    under : u ≡ v → (k : ℕ) → ((i : ℕ) → i < k → get_or ss i [] ≡ get_or ts i []) → (i : ℕ) → i < suc k → get_or (u ∷ ss) i [] ≡ get_or (v ∷ ts) i []
    under d k f zero h = d
    under d k f (suc i) h = f i (omega arith)

apart_from : (ss ts : List (List ℕ)) (s t : List ℕ) → length ss ≡ length ts → (k : ℕ) → k < length ss → get_or ss k [] ≡ s → get_or ts k [] ≡ t → (s ≡ t → ⊥) → ((i : ℕ) → i < k → get_or ss i [] ≡ get_or ts i []) → first_apart ss ts ≡ apart s t
apart_from [] ts s t l k w a b d f = absurd (omega arith)
apart_from (u ∷ ss) [] s t l k w a b d f = absurd (omega arith)
apart_from (u ∷ ss) (v ∷ ts) s t l zero w a b d f = here u v ss ts (λ e. d (sym a ∙ e ∙ b)) ∙ ap₂ apart a b
apart_from (u ∷ ss) (v ∷ ts) s t l (suc k) w a b d f = on u v ss ts (f 0 (omega arith)) ∙ apart_from ss ts s t (omega arith) k (omega arith) a b d (λ i h. f (suc i) (omega arith))

finds : (ss ts : List (List ℕ)) (d : Difference) → length ss ≡ length ts → d ≡ first_apart ss ts → Finds ss ts d
finds ss ts d l e = record {
  counted = l;
  nothing = (λ f. alike_to ss ts l (sym e ∙ f), λ f. e ∙ alike_from ss ts l f);
  topmost = λ s t. (λ f. apart_to ss ts s t l (sym e ∙ f), λ f. e ∙ apart_from ss ts s t l f.level f.within f.first f.second f.different f.above);
}

-- ---- comparing

module _ (H : List ℕ → List ℕ) where
  strings_length : (s : Shape) (m : ℕ) (h : List ℕ) (p : List (List ℕ)) → length (inclusion_strings_of H s m h p) ≡ inclusion_count_of s m
  unfolding inclusion_strings_of inclusion_count_of
  strings_length one m h p = refl
  strings_length (fork a b) m h p =
      ⊎_elim (λ l. rw (lt-ltb m (size a) l) (let e = strings_length a m h (init p) in omega arith)) (λ l. rw (le-ltb m (size a) l) (let e = strings_length b (m - size a) h (init p) in omega arith)) (lt_or_ge m (size a))

  differ_first : (s : Shape) (m : ℕ) (h : List ℕ) (p : List (List ℕ)) (g : List ℕ) (q : List (List ℕ)) → differ_of H s m h p g q ≡ first_apart (inclusion_strings_of H s m h p) (inclusion_strings_of H s m g q)
  unfolding differ_of inclusion_strings_of first_apart
  differ_first one m h p g q = refl
  differ_first (fork a b) m h p g q =
      ⊎_elim (λ l. rw (lt-ltb m (size a) l) (ap (topmost _ _) (differ_first a m h (init p) g (init q))))
      (λ l. rw (le-ltb m (size a) l) (ap (topmost _ _) (differ_first b (m - size a) h (init p) g (init q))))
      (lt_or_ge m (size a))

-- ---- carrying

module _ (H : List ℕ → List ℕ) where
  -- a first full subtree before others
  strings_more : (r : List ℕ) (l : List (List ℕ)) → 0 < length l → together_strings H (r ∷ l) ≡ string r (together H l) ∷ together_strings H l
  unfolding together_strings
  strings_more r [] h = absurd (omega arith)
  strings_more r (s ∷ l) h = refl

  together_yields : (s : Shape) (m : ℕ) (b : Bool) (f : List ℕ) (q : List (List ℕ)) → together H (subtrees_of s m b f q) ≡ consistency_root_of H (λ x y. x) s m b f q
  unfolding together subtrees_of consistency_root_of
  together_yields one m b f q = refl
  together_yields (fork x y) m b f q = go (eqb m (size x + size y)) (leb m (size x)) (subtrees_of x m b f (init q)) (last q ∷ subtrees_of y (m - size x) false f (init q)) (together_yields x m b f (init q)) (together_more H (last q) (subtrees_of y (m - size x) false f (init q)) (subtrees_some y (m - size x) false f (init q)) ∙ ap (node H (last q)) (together_yields y (m - size x) false f (init q)))
    where
      go : (t u : Bool) (a c : List (List ℕ)) {a' c' : List ℕ} → together H a ≡ a' → together H c ≡ c' → together H (cond t (cond b f (last q) ∷ []) (cond u a c)) ≡ cond t (cond b f (last q)) (cond u a' c')
      go true u a c d e = refl
      go false true a c d e = d
      go false false a c d e = e

  -- an inclusion proof's strings, by the split
  module _ (x m : ℕ) (h : List ℕ) (p : List (List ℕ)) (more : 1 < m) where
    strings_low : x < split m → inclusion_strings H x m h p ≡ string (inclusion_root H x (split m) h (init p)) (last p) ∷ inclusion_strings H x (split m) h (init p)
    unfolding inclusion_strings inclusion_strings_of inclusion_root
    strings_low l = let e = size_left m more in rw (shape_fork m more, lt-ltb x (size (shape (split m))) (omega arith))

    strings_high : split m ≤ x → inclusion_strings H x m h p ≡ string (last p) (inclusion_root H (x - split m) (m - split m) h (init p)) ∷ inclusion_strings H (x - split m) (m - split m) h (init p)
    unfolding inclusion_strings inclusion_strings_of inclusion_root
    strings_high l = let e = size_left m more in rw (shape_fork m more, le-ltb x (size (shape (split m))) (omega arith), e)

  abbrev inner : ℕ → ℕ → List ℕ → List (List ℕ) → List (List ℕ)
  inner m x h p = take (above_of (shape m) x) (inclusion_strings H x m h p)

  abbrev outer : ℕ → ℕ → ℕ → Bool → List ℕ → List (List ℕ) → List (List ℕ)
  outer m n x b f q = take (above_of (shape m) x) (together_strings H (subtrees_of (shape n) m b f q))

  -- the walk meets the levels, and there is one string of each proof for each
  abbrev MetBy : ℕ → ℕ → ℕ → Bool → List ℕ → List (List ℕ) → List ℕ → List (List ℕ) → Type 0
  MetBy n m x b h p f q =
      (conflict H m n x h p f q ≡ first_apart (inner m x h p) (outer m n x b f q))
      × ((length (inner m x h p) ≡ above_of (shape m) x) × (length (outer m n x b f q) ≡ above_of (shape m) x))

  Met : ℕ → Type 0
  Met n = (m x : ℕ) (b : Bool) (h : List ℕ) (p : List (List ℕ)) (f : List ℕ) (q : List (List ℕ)) → x < m → Within m n → MetBy n m x b h p f q

  module _ (n m x : ℕ) (b : Bool) (h : List ℕ) (p : List (List ℕ)) (f : List ℕ) (q : List (List ℕ)) (xm : x < m) where
    met_all : (m ≡ n) × ((j : ℕ) × (m ≡ 2 ^ j)) → MetBy n m x b h p f q
    unfolding first_apart
    met_all w =
        let a : above_of (shape m) x ≡ 0 = ap (λ (k : ℕ). above_of (shape k) x) w.1.1 ∙ above_full w.1.0 x in
        rw a (conflict_all H m n x h p f q (omega arith) w.0, (refl, refl))

    module _ (lt : m < n) where
      met_low : m ≤ split n → Met (split n) → MetBy n m x b h p f q
      unfolding Met
      met_low l g =
          rw (conflict_low H m n x h p f q (omega arith) lt l, subtrees_low m n b f q (omega arith) lt l) (g m x b h p f (init q) xm (narrowed m n l))

      module _ (hi : split n < m) where
        more : 1 < n
        more = omega arith

        many : 1 < m
        many = let s = split_ends n more in omega arith

        same_split : split m ≡ split n
        same_split = split_same n m more hi (omega arith)

        lop : m - split m < split m
        lop = let s = split_ends n more in let e = same_split in omega arith

        rest : List (List ℕ)
        rest = subtrees_of (shape (n - split n)) (m - split n) false f (init q)

        two_strings : together_strings H (subtrees_of (shape n) m b f q) ≡ string (last q) (old_root H (m - split n) (n - split n) false f (init q)) ∷ together_strings H rest
        unfolding rest old_root
        two_strings =
            ap (together_strings H) (subtrees_high m n b f q (omega arith) lt hi)
            ∙ strings_more (last q) rest (subtrees_some (shape (n - split n)) (m - split n) false f (init q))
            ∙ ap (λ (r : List ℕ). string (last q) r ∷ together_strings H rest) (together_yields (shape (n - split n)) (m - split n) false f (init q))

        met_here : x < split n → MetBy n m x b h p f q
        unfolding first_apart
        met_here l =
            let e = same_split in
            let i : inclusion_strings H x m h p ≡ string (inclusion_root H x (split n) h (init p)) (last p) ∷ inclusion_strings H x (split n) h (init p) =
            strings_low x m h p many (omega arith) ∙ ap (λ (k : ℕ). string (inclusion_root H x k h (init p)) (last p) ∷ inclusion_strings H x k h (init p)) e in
            rw (above_here m x many lop (omega arith), i, two_strings) (conflict_here H m n x h p f q (omega arith) lt hi l, (refl, refl))

        met_beyond : split n ≤ x → Met (n - split n) → MetBy n m x b h p f q
        unfolding first_apart Met Within rest
        met_beyond l g =
            let e = same_split in
            let k = split n in
            let i : inclusion_strings H x m h p ≡ string (last p) (inclusion_root H (x - k) (m - k) h (init p)) ∷ inclusion_strings H (x - k) (m - k) h (init p) =
            strings_high x m h p many (omega arith) ∙ ap (λ (j : ℕ). string (last p) (inclusion_root H (x - j) (m - j) h (init p)) ∷ inclusion_strings H (x - j) (m - j) h (init p)) e in
            let a : above_of (shape m) x ≡ suc (above_of (shape (m - k)) (x - k)) = above_beyond m x many lop (omega arith) ∙ ap (λ (j : ℕ). suc (above_of (shape (m - j)) (x - j))) e in
            let r = g (m - k) (x - k) false h (init p) f (init q) (omega arith) (inl (omega arith)) in
            rw (a, i, two_strings)
            (conflict_beyond H m n x h p f q (omega arith) lt hi l ∙ ap (topmost _ _) r.0, (ap suc r.1.0, ap suc r.1.1))

  met : (n : ℕ) → 0 < n → Met n
  unfolding Met Within
  met =
      by_splits Met (λ m x b h p f q xm w. ⊎_elim (λ lt. absurd (omega arith)) (λ e. met_all 1 m x b h p f q xm e) w)
      (λ n more gl gr m x b h p f q xm w.
      ⊎_elim (λ lt.
      ⊎_elim (λ hi. ⊎_elim (λ l. met_here n m x b h p f q xm lt hi l) (λ l. met_beyond n m x b h p f q xm lt hi l gr) (lt_or_ge x (split n)))
      (λ l. met_low n m x b h p f q xm lt l gl)
      (lt_or_ge (split n) m))
      (λ e. met_all n m x b h p f q xm e) w)

  compares : (m n : ℕ) (h : List ℕ) (p : List (List ℕ)) (g : List ℕ) (q : List (List ℕ)) → Finds (inclusion_strings H m n h p) (inclusion_strings H m n g q) (differ H m n h p g q)
  unfolding differ inclusion_strings
  compares m n h p g q =
      finds (inclusion_strings_of H (shape n) m h p) (inclusion_strings_of H (shape n) m g q) _ (strings_length H (shape n) m h p ∙ sym (strings_length H (shape n) m g q)) (differ_first H (shape n) m h p g q)

  carries : (m n x : ℕ) (h : List ℕ) (p : List (List ℕ)) (f : List ℕ) (q : List (List ℕ)) → x < m → m < n → Finds (inclusion_levels H m x h p) (consistency_levels H m n x f q) (conflict H m n x h p f q)
  unfolding subtrees Met Within
  carries m n x h p f q xm lt =
      let r = met n (omega arith) m x true h p f q xm (inl lt) in
      finds _ _ _ (r.1.0 ∙ sym r.1.1) r.0

  -- a size to itself brings no strings
  apart_later : (m n x : ℕ) (h : List ℕ) (p : List (List ℕ)) (f : List ℕ) (q : List (List ℕ)) (s t : List ℕ) → x < m → m ≤ n → conflict H m n x h p f q ≡ apart s t → m < n
  apart_later m n x h p f q s t xm le e = ⊎_elim (λ d. absurd (apart_alike s t (sym e ∙ conflict_all H m n x h p f q (omega arith) d))) (λ lt. lt) (eq-or-lt_of_le le)

  pub levelled : Levelled H
  unfolding subtrees old_root Bits Met Within
  levelled = record {
    compares = compares;
    carries = carries;
    compared = λ place size claimed leaf₁ path₁ leaf₂ path₂ pair s t e.
        let a = compare.collision_of_accepted H place size claimed leaf₁ path₁ leaf₂ path₂ pair s t e in
        ((compares place size leaf₁ (nodes path₁) leaf₂ (nodes path₂)).topmost s t).0 a.1.1;
    carried = λ leaf place m n claimed₁ claimed₂ path proof room pair s t e.
        let a = carry.collision_of_accepted H leaf place m n claimed₁ claimed₂ path proof room pair s t e in
        let i = inclusion_accepted H leaf place m claimed₁ path a.0 in
        let c = consistency_accepted H m n claimed₁ claimed₂ proof a.1.0 in
        let lt = apart_later m n place leaf (nodes path) claimed₁ (nodes proof) s t i.below c.order a.1.1 in
        ((carries m n place leaf (nodes path) claimed₁ (nodes proof) i.below lt).topmost s t).0 a.1.1;
    whole = λ m n x f q xm lt. (met n (omega arith) m x true [] [] f q xm (inl lt)).1.1;
    own = own H;
    one_bits = λ m n f q z lt. bits n (omega arith) m true f q z (inl lt);
    yields = λ m n f q z le. together_yields (shape n) m true f q;
  }
