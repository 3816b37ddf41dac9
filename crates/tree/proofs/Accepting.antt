-- The verdicts accept exactly the proofs whose definitions yield the claimed roots. Assumes nothing.
use mathlib.Core.Path.{◌≡◌, refl, sym, ap, ◌∙◌}
use mathlib.Core.Bool.{Bool, true, false, false≢true, cond, not, ◌&&◌, ◌||◌}
use mathlib.Core.List.{List, [], ◌∷◌}
use Prim.Native.Nat.{ℕ, suc, ◌*◌, ◌/◌, ◌%◌, ◌<◌}
use native.Mathlib.Omega.{arith}
use lib.Dec.{ltb, eqb}
use lib.ListN.{length}
use borrow.Author.Tests.{ltb-false, leb-false, eqb-true, eqb-false, not-false}
use Rattle.tree.specs.Limits.{largest_size}
use Rattle.tree.specs.Count.{inclusion_count, consistency_count}
use Rattle.tree.specs.Yield.{inclusion_root, old_root, new_root}
use Rattle.octets.specs.Bytes.{same}
use Rattle.tree.specs.Joined.{nodes}
use Rattle.tree.specs.Verdict.{judged, no_place, no_sizes, inclusion_verdict, consistency_verdict}
use Rattle.tree.specs.Claims.{Inclusion, Consistency, Accepts, Equal}
use Rattle.tree.proofs.Rfc.{equations}
use Rattle.tree.proofs.Counting.{sub_all}
use Rattle.octets.proofs.Sameness.{same_true, same_of}
use Rattle.tree.proofs.Answering.{right_0, place_in, sizes_in, both_agree}

-- a refusal that was not given: its test is false, and the rest is 0 too
pub pass : (b : Bool) (n r : ℕ) → cond b (suc n) r ≡ 0 → (b ≡ false) × (r ≡ 0)
pass true n r e = absurd (omega arith)
pass false n r e = (refl, e)

-- the same of a test that two numbers are equal
pass_eq : (x y n r : ℕ) → cond (not (eqb x y)) (suc n) r ≡ 0 → (x ≡ y) × (r ≡ 0)
pass_eq x y n r e =
    let p = pass (not (eqb x y)) n r e in
    (eqb-true x y (not-false (eqb x y) p.0), p.1)

neither : (a b : Bool) → (a || b) ≡ false → (a ≡ false) × (b ≡ false)
neither true b e = absurd (false≢true (sym e))
neither false b e = (refl, e)

each : (a b : Bool) → (a && b) ≡ true → (a ≡ true) × (b ≡ true)
each true b e = (refl, e)
each false b e = absurd (false≢true e)

-- what an accepting verdict has passed
pub record Passed (one two path : List ℕ) (outside : Bool) (count : ℕ) (agrees : Bool) : Type 0 where
  pub one_32 : length one ≡ 32
  pub two_32 : length two ≡ 32
  pub inside : outside ≡ false
  pub counted : length path ≡ 32 * count
  pub agreed : agrees ≡ true

pub passed : (one two path : List ℕ) (outside : Bool) (count : ℕ) (agrees : Bool) → judged one two path outside count agrees ≡ 0 → Passed one two path outside count agrees
unfolding judged
passed one two path outside count agrees e =
    let a = pass_eq (length one) 32 4 _ e in
    let b = pass_eq (length two) 32 4 _ a.1 in
    let c = pass_eq (length path % 32) 0 9 _ b.1 in
    let d = pass outside 5 _ c.1 in
    let f = pass_eq (length path / 32) count 6 _ d.1 in
    let g = pass (not agrees) 7 _ f.1 in
    record { one_32 = a.0; two_32 = b.0; inside = d.0; counted = omega (arith, c.0, f.0); agreed = not-false agrees g.0 }

module _ (H : List ℕ → List ℕ) where
  pub inclusion_accepted : (leaf : List ℕ) (place size : ℕ) (root path : List ℕ) → inclusion_verdict H leaf place size root path ≡ 0 → Inclusion H leaf place size root path
  unfolding inclusion_verdict no_place
  inclusion_accepted leaf place size root path e =
      let p = passed leaf root path _ _ _ e in
      let q = neither (eqb size 0) _ p.inside in
      let r = neither (ltb largest_size size) _ q.1 in
      record {
        leaf_32 = p.one_32;
        root_32 = p.two_32;
        below = leb-false size place r.1;
        in_range = ltb-false largest_size size r.0;
        counted = p.counted;
        yields = same_true (inclusion_root H place size leaf (nodes path)) root p.agreed;
      }

  pub inclusion_accepts : (leaf : List ℕ) (place size : ℕ) (root path : List ℕ) → Inclusion H leaf place size root path → inclusion_verdict H leaf place size root path ≡ 0
  unfolding inclusion_verdict
  inclusion_accepts leaf place size root path p =
      sym (right_0 leaf root path (no_place place size) (inclusion_count place size) (same (inclusion_root H place size leaf (nodes path)) root) p.leaf_32 p.root_32 (omega arith) (place_in place size (λ e. omega arith) p.in_range p.below) (omega arith) (same_of _ root p.yields))

  pub consistency_accepted : (first second : ℕ) (root₁ root₂ path : List ℕ) → consistency_verdict H first second root₁ root₂ path ≡ 0 → Consistency H first second root₁ root₂ path
  unfolding consistency_verdict no_sizes
  consistency_accepted first second root₁ root₂ path e =
      let p = passed root₁ root₂ path _ _ _ e in
      let q = neither (eqb first 0) _ p.inside in
      let r = neither (ltb largest_size second) _ q.1 in
      let s = each (same (old_root H first second true root₁ (nodes path)) root₁) _ p.agreed in
      record {
        first_32 = p.one_32;
        second_32 = p.two_32;
        some = omega (arith, eqb-false first 0 q.0);
        order = ltb-false second first r.1;
        in_range = ltb-false largest_size second r.0;
        counted = p.counted;
        yields_first = same_true (old_root H first second true root₁ (nodes path)) root₁ s.0;
        yields_second = same_true (new_root H first second true root₁ (nodes path)) root₂ s.1;
      }

  pub consistency_accepts : (first second : ℕ) (root₁ root₂ path : List ℕ) → Consistency H first second root₁ root₂ path → consistency_verdict H first second root₁ root₂ path ≡ 0
  unfolding consistency_verdict
  consistency_accepts first second root₁ root₂ path p =
      sym (right_0 root₁ root₂ path (no_sizes first second) (consistency_count first second) (same (old_root H first second true root₁ (nodes path)) root₁ && same (new_root H first second true root₁ (nodes path)) root₂) p.first_32 p.second_32 (omega arith) (sizes_in first second (λ e. omega arith) p.in_range p.order) (omega arith)
      (both_agree _ _ (same_of _ root₁ p.yields_first) (same_of _ root₂ p.yields_second)))

  pub accepts : Accepts H
  accepts = record {
    inclusion = λ leaf place size root path. (inclusion_accepted leaf place size root path, inclusion_accepts leaf place size root path);
    consistency = λ first second root₁ root₂ path. (consistency_accepted first second root₁ root₂ path, consistency_accepts first second root₁ root₂ path);
  }

  -- equal sizes
  nothing : (p : List ℕ) → length p ≡ 0 → p ≡ []
  nothing [] e = refl
  nothing (x ∷ p) e = absurd (omega arith)

  none_counted : (n : ℕ) → 0 < n → consistency_count n n ≡ 0
  unfolding consistency_count
  none_counted n z = sub_all n n true refl

  pub equal : Equal H
  equal = record {
    sizes = λ n root₁ root₂ path z le h. (
      λ e.
          let p = consistency_accepted n n root₁ root₂ path e in
          let k = none_counted n z in
          (nothing path (omega arith), sym (((equations H).new n n root₁ (nodes path) z).known refl) ∙ p.yields_second),
      λ p.
          let k = none_counted n z in
          let q = ap length p.0 in
          let r = ap length p.1 in
          consistency_accepts n n root₁ root₂ path record {
            first_32 = h;
            second_32 = omega arith;
            some = z;
            order = omega arith;
            in_range = le;
            counted = omega arith;
            yields_first = ((equations H).old n n root₁ (nodes path) z).known refl;
            yields_second = ((equations H).new n n root₁ (nodes path) z).known refl ∙ p.1;
          },
    );
  }
