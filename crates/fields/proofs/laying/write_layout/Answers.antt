use mathlib.Core.Path.{◌≡◌, refl, ap, sym, ◌∙◌}
use mathlib.Core.List.{List}
use Prim.Native.Nat.{ℕ, ◌≤◌}
use native.Mathlib.Omega.{arith}
use lib.ListN.{length, take}
use borrow.Author.Rules.{rules}
use Rattle.fields.specs.declared.layout.Field.{Field}
use Rattle.fields.specs.Checked.{Checked}
use Rattle.fields.specs.Write.{write, behind, filled_by}
use Rattle.fields.specs.Effect.{Effect, within, effect}
use Rattle.fields.proofs.Answers.{passed_on}
use Rattle.fields.proofs.Reaching.{measured_not, measured_takes, measured_short, measured_done}
use Rattle.fields.proofs.laying.write_layout.Goals as goal

-- a count above the most is the most
module _ (layout : List Field) (ns : List ℕ) (vs : List (List ℕ)) (count n : ℕ) (long : length layout ≡ 8) (same : (l : List Field) → length l ≡ 8 → take count l ≡ take n l) (out : List ℕ) where
  abbrev all : List Field → Checked (List ℕ)
  all fs = write (filled_by fs ns vs) 0

  whole : effect out (within (all (take n layout))) ≡ effect out (within (all (take count layout)))
  whole = ap (λ (fs : List Field). effect out (within (all fs))) (sym (same layout long))

  said : (o : Effect) → effect out (within (all (take n layout))) ≡ o → effect out (within (all (take count layout))) ≡ o
  said o e = sym whole ∙ e

pub returns-in_err-end : goal.returns-in_err-end
returns-in_err-end c =
    let a = c.args in
    let n = c.counted-n in
    let first = write (filled_by (take n.result a.layout) a.numbers (behind a.values)) 0 in
    let long : length a.layout ≡ 8 = search rules in
    let l : length a.out.now ≤ 9223372036854775807 = omega arith in
    rw (passed_on _ _ c.from_residual.ensures.1, said a.layout a.numbers (behind a.values) a.count n.result long n.ensures.1 a.out.now _ (measured_not first a.out.now _ _ l (sym c.in_err-end.ensures))) (refl, refl)

pub returns-then-out-end : goal.returns-then-out-end
returns-then-out-end c =
    let a = c.args in
    let n = c.counted-n in
    let first = write (filled_by (take n.result a.layout) a.numbers (behind a.values)) 0 in
    let long : length a.layout ≡ 8 = search rules in
    rw (said a.layout a.numbers (behind a.values) a.count n.result long n.ensures.1 a.out.now _ (measured_short first _ a.out.now (sym c.in_ok-end.ensures) c.if-out-end.true)) (refl, refl)

pub put_all-requires : goal.put_all-requires
put_all-requires c =
    let k = measured_takes _ _ (sym c.in_ok-end.ensures) in
    (c.counted-n.ensures.0, k.fine, omega (arith, k.size, c.if-out-end.false))

pub returns : goal.returns
returns c =
    let a = c.args in
    let n = c.counted-n in
    let first = write (filled_by (take n.result a.layout) a.numbers (behind a.values)) 0 in
    let long : length a.layout ≡ 8 = search rules in
    let w = whole a.layout a.numbers (behind a.values) a.count n.result long n.ensures.1 a.out.now in
    let d = measured_done first _ a.out.now (sym c.in_ok-end.ensures) c.if-out-end.false c.put_all.new.out c.put_all.ensures in
    (d.0 ∙ ap (λ (o : Effect). o.answer) w, d.1 ∙ ap (λ (o : Effect). o.bytes) w)
