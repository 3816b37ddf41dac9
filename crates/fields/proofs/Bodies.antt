-- A body and its value: each gives the other back. One lemma for each kind of body. Assumes nothing.
use mathlib.Core.Path.{◌≡◌, refl, ap, ap₂, sym, subst, ◌∙◌}
use mathlib.Core.List.{List, [], ◌∷◌, ◌++◌}
use mathlib.Core.Bool.{Bool, true, false, cond}
use Prim.Native.Nat.{ℕ, zero, suc, ◌+◌, ◌*◌, ◌/◌, ◌%◌, ◌≤◌}
use native.Mathlib.Omega.{arith}
use lib.ListN.{length, get_or, take, drop, length-append, length-drop, take-append-drop}
use lib.Dec.{ltb, eqb}
use lib.Seq.{take_at, drop_at, length-take-le}
use borrow.Author.Tests.{ltb-false, eqb-true, eq-eqb}
use Rattle.fields.specs.declared.layout.Inner.{Inner}
use Rattle.fields.specs.declared.layout.Inner.TheVariants.{Opaque, ExtensionList, NodeList}
use Rattle.fields.specs.Layout.{element, elements, inside_from, inside, past, sized}
use Rattle.fields.specs.Write.{prefixed, stripped, wrap, unwrap, body_size, wholes}
use Rattle.fields.specs.Checked.{good}
use Rattle.octets.specs.Answer.{Answer, done, refused}
use Rattle.fields.specs.declared.layout.Element.{Element}
use Rattle.fields.proofs.Answers.{bad_good}

not_size : {A : Type 0} (x n t : ℕ) → refused x ≡ sized n t → A
not_size x n t e = absurd (let z : ◌≡◌ {A = ℕ} 0 1 = cc in omega arith)

abbrev size_of : Answer Element → ℕ
size_of (done e) = e.len
size_of (refused x) = 0

same_size : (m n t u : ℕ) → sized m t ≡ sized n u → n ≡ m
same_size m n t u e = sym (ap size_of e)

-- an element of a path
node : (last : ℕ) (b : List ℕ) (n t : ℕ) → element NodeList last b ≡ sized n t → (n ≡ 33) × (get_or b 0 0 ≡ 32) × (33 ≤ length b)
unfolding element
node last b n t e = go (eqb (get_or b 0 0) 32) (ltb (length b) 33) refl refl e
  where
    go : (p q : Bool) → eqb (get_or b 0 0) 32 ≡ p → ltb (length b) 33 ≡ q → cond p (cond q (refused 2) (sized 33 0)) (refused 5) ≡ sized n t → (n ≡ 33) × (get_or b 0 0 ≡ 32) × (33 ≤ length b)
    go false q hp hq e = not_size 5 n t e
    go true true hp hq e = not_size 2 n t e
    go true false hp hq e = (same_size 33 n 0 t e, eqb-true _ _ hp, ltb-false _ _ hq)

-- a body of k hashes
pub record Hashes (b : List ℕ) : Type 0 where
  pub count : ℕ
  pub size : length b ≡ 33 * count
  pub plain : length (stripped count b) ≡ 32 * count
  pub again : prefixed count (stripped count b) ≡ b

none : (b : List ℕ) → length b ≡ 0 → Hashes b
unfolding stripped prefixed
none [] h = record { count = 0; size = refl; plain = refl; again = refl }
none (x ∷ b) h = absurd (omega arith)

one_more : (b : List ℕ) → get_or b 0 0 ≡ 32 → 33 ≤ length b → Hashes (drop 33 b) → Hashes b
unfolding stripped prefixed
one_more [] e h r = absurd (omega arith)
one_more (x ∷ b) e h r =
    let k = r.count in
    let l : length (take 32 b) ≡ 32 = length-take-le 32 b (omega arith) in
    record {
      count = suc k;
      size = omega (arith, r.size, length-drop 32 b);
      plain = length-append (take 32 b) (stripped k (drop 32 b)) ∙ omega (arith, r.plain);
      again =
          ap₂ (λ (y : ℕ) (m : List ℕ). y ∷ m) (sym e)
          (ap₂ (λ (m n : List ℕ). m ++ prefixed k n) (take_at (take 32 b) (stripped k (drop 32 b)) 32 l) (drop_at (take 32 b) (stripped k (drop 32 b)) 32 l)
          ∙ ap (λ (m : List ℕ). take 32 b ++ m) r.again ∙ take-append-drop 32 b);
    }

hashes : (n last : ℕ) (b : List ℕ) (at : ℕ) → length b ≤ n → elements n NodeList last b at ≡ good tt → Hashes b
unfolding elements
hashes zero last b at h e = none b (omega arith)
hashes (suc n) last b at h e = go (eqb (length b) 0) refl (element NodeList last b) refl e (λ m t. hashes n t (drop m b) (at + m))
  where
    go : (q : Bool) → eqb (length b) 0 ≡ q → (x : Answer Element) → element NodeList last b ≡ x → cond q (good tt) (past x at (λ m t. elements n NodeList t (drop m b) (at + m))) ≡ good tt → ((m t : ℕ) → length (drop m b) ≤ n → elements n NodeList t (drop m b) (at + m) ≡ good tt → Hashes (drop m b)) → Hashes b
    go true hq x hx e less = none b (eqb-true _ _ hq)
    go false hq (refused y) hx e less = bad_good y at tt e
    go false hq (done d) hx e less =
        let z = node last b d.len d.next hx in
        let f = less d.len d.next (simp length-drop (omega arith)) e in
        one_more b z.1 z.2 (subst (λ (j : ℕ). Hashes (drop j b)) z.0 f)

pub path_hashes : (b : List ℕ) (at : ℕ) → inside NodeList b at ≡ good tt → Hashes b
unfolding inside inside_from
path_hashes b at e = hashes (length b) 0 b at (omega arith) e

-- a body that is fine is that of its value
pub record Body (i : Inner) (b : List ℕ) : Type 0 where
  pub again : wrap i (unwrap i b) ≡ b
  pub size : body_size i (length (unwrap i b)) ≡ length b
  pub round : wholes i (length (unwrap i b)) ≡ true

pub body : (i : Inner) (b : List ℕ) (at : ℕ) → inside i b at ≡ good tt → Body i b
unfolding wrap unwrap body_size wholes
body Opaque b at e = record { again = refl; size = refl; round = refl }
body (ExtensionList o) b at e = record { again = refl; size = refl; round = refl }
body NodeList b at e =
    let h = path_hashes b at e in
    let k = h.count in
    let c : length b / 33 ≡ k = omega (arith, h.size) in
    let d : length (stripped (length b / 33) b) ≡ 32 * k = rw c h.plain in
    let q : length (stripped (length b / 33) b) / 32 ≡ k = omega (arith, d) in
    let z : length (stripped (length b / 33) b) % 32 ≡ 0 = omega (arith, d) in
    record {
      again = rw (q, c) h.again;
      size = omega (arith, d, h.size);
      round = eq-eqb _ _ z;
    }

-- a value that is whole is that of its body
pub record Wrapped (i : Inner) (v : List ℕ) : Type 0 where
  pub again : unwrap i (wrap i v) ≡ v
  pub size : length (wrap i v) ≡ body_size i (length v)

pub strip : (k : ℕ) (v : List ℕ) → length v ≡ 32 * k → (stripped k (prefixed k v) ≡ v) × (length (prefixed k v) ≡ 33 * k)
unfolding stripped prefixed
strip zero [] h = (refl, refl)
strip zero (x ∷ v) h = absurd (omega arith)
strip (suc k) v h =
    let l : length (take 32 v) ≡ 32 = length-take-le 32 v (omega arith) in
    let r = prefixed k (drop 32 v) in
    let t = strip k (drop 32 v) (length-drop 32 v ∙ omega arith) in (
      ap₂ (λ (m n : List ℕ). m ++ stripped k n) (take_at (take 32 v) r 32 l) (drop_at (take 32 v) r 32 l) ∙ ap (λ (m : List ℕ). take 32 v ++ m) t.0 ∙ take-append-drop 32 v,
      omega (arith, length-append (take 32 v) r, t.1),
    )

-- k hashes with their lengths, of a value that has them
pub prefixed_length : (k : ℕ) (v : List ℕ) → 32 * k ≤ length v → length (prefixed k v) ≡ 33 * k
unfolding prefixed
prefixed_length zero v h = omega arith
prefixed_length (suc k) v h =
    let l : length (take 32 v) ≡ 32 = length-take-le 32 v (omega arith) in
    omega (arith, length-append (take 32 v) (prefixed k (drop 32 v)), prefixed_length k (drop 32 v) (rw length-drop (omega arith)))

pub value : (i : Inner) (v : List ℕ) → wholes i (length v) ≡ true → Wrapped i v
unfolding wrap unwrap body_size wholes
value Opaque v e = record { again = refl; size = refl }
value (ExtensionList o) v e = record { again = refl; size = refl }
value NodeList v e =
    let z : length v % 32 ≡ 0 = eqb-true _ _ e in
    let h : length v ≡ 32 * (length v / 32) = omega arith in
    let t = strip (length v / 32) v h in
    let q : length (prefixed (length v / 32) v) / 33 ≡ length v / 32 = omega (arith, t.1) in
    record { again = rw q t.0; size = t.1 ∙ omega arith }
