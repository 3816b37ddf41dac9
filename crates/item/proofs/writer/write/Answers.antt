use mathlib.Core.Path.{◌≡◌, refl, ap, sym, ◌∙◌}
use mathlib.Core.List.{List, ◌++◌}
use Prim.Native.Nat.{ℕ, ◌+◌, ◌≤◌, ◌<◌}
use native.Mathlib.Omega.{arith}
use lib.ListN.{length, drop, length-append}
use native.Mathlib.Nat.{zero-add}
use borrow.Author.Tests.{lt-ltb, le-ltb}
use Rattle.item.specs.declared.table.Case.{Case}
use Rattle.item.specs.declared.writer.Numbers.{Numbers}
use Rattle.fields.specs.Checked.{Checked, good, bad}
use Rattle.octets.specs.Numbers.{be}
use Rattle.fields.specs.Write.{join, write}
use Rattle.item.specs.Table.{names_of, types, find}
use Rattle.item.specs.Item.{Vectors, lent, filled, write_item}
use Rattle.fields.specs.Effect.{unwritten, effect}
use Rattle.fields.specs.Inner.{written, Good, ends}
use Rattle.octets.specs.Bytes.{put, put_within}
use Rattle.octets.proofs.Numbers.{be_length}
use Rattle.fields.proofs.Answers.{bad_good, good_bad, passed_on}
use Rattle.octets.proofs.Putting.{put_then, put_in}
use Rattle.item.proofs.writer.write.Goals as goal

ended : (a : Checked (List ℕ)) (m : ℕ) → ends 2 a ≡ good m → Good a × (m ≡ 2 + length (written a)) × (a ≡ good (written a))
ended (good b) m e = let z : 2 + length b ≡ m = cc in (tt, omega arith, refl)
ended (bad x y) m e = bad_good x y m e

stopped : (a : Checked (List ℕ)) (x y k : ℕ) (out : List ℕ) → ends 2 a ≡ bad x y → effect out (join (be 2 k) a) ≡ unwritten x y out
stopped (good b) x y k out e = good_bad x y (2 + length b) e
stopped (bad p q) x y k out e = let z : p ≡ x = cc in let w : q ≡ y = cc in rw (z, w)

-- the cases of a whole item, over plain lists
module _ (k : ℕ) (n : Numbers) (t : Vectors) (out : List ℕ) where
  unknown : find types k ≡ bad 4 0 → write_item k n t out ≡ unwritten 4 0 out
  unfolding write_item
  unknown e = rw e

  module _ (c : Case) (is : find types k ≡ good c) where
    whole : write_item k n t out ≡ effect out (join (be 2 k) (write (filled n t (names_of c)) 2))
    unfolding write_item
    whole = rw is

    bad_field : (x y : ℕ) → ends 2 (write (filled n t (names_of c)) 2) ≡ bad x y → write_item k n t out ≡ unwritten x y out
    bad_field x y e = whole ∙ stopped (write (filled n t (names_of c)) 2) x y k out e

    module _ (m : ℕ) (e : ends 2 (write (filled n t (names_of c)) 2) ≡ good m) where
      b : List ℕ
      b = written (write (filled n t (names_of c)) 2)

      fits : write_item k n t out ≡ effect out (good (be 2 k ++ b))
      unfolding b
      fits = whole ∙ ap (λ (a : Checked (List ℕ)). effect out (join (be 2 k) a)) (ended (write (filled n t (names_of c)) 2) m e).2

      size : length (be 2 k ++ b) ≡ m
      unfolding b
      size = length-append (be 2 k) b ∙ omega (arith, be_length 2 k, (ended (write (filled n t (names_of c)) 2) m e).1)

      small : length out < m → write_item k n t out ≡ unwritten 9 0 out
      small h = let l : length out < length (be 2 k ++ b) = omega (arith, size) in fits ∙ rw (lt-ltb _ _ l)

      done : m ≤ length out → (out₁ out₂ : List ℕ) → out₁ ≡ put_within out 0 (be 2 k) → out₂ ≡ put out₁ 2 (written (write (filled n t (names_of c)) 2)) → (good m ≡ (write_item k n t out).answer) × (out₂ ≡ (write_item k n t out).bytes)
      unfolding b
      done h out₁ out₂ p q =
          let z = size in
          let l : length (be 2 k ++ b) ≤ length out = omega arith in
          let w : length (be 2 k) ≡ 2 = be_length 2 k in
          let s : put (put out 0 (be 2 k)) 2 b ≡ put out 0 (be 2 k ++ b) =
          ap (λ (j : ℕ). put (put out 0 (be 2 k)) j b) (sym (zero-add _ ∙ w)) ∙ put_then out (be 2 k) b 0 (omega arith) in
          rw (fits, le-ltb _ _ l) (ap good (sym z), q ∙ ap (λ (o : List ℕ). put o 2 b) (p ∙ put_in out (be 2 k) 0 (omega (arith, length-append (be 2 k) b))) ∙ s ∙ ap (λ (i : ℕ). (be 2 k ++ b) ++ drop i out) (zero-add (length (be 2 k ++ b))))

pub returns-in_default : goal.returns-in_default
returns-in_default c =
    let a = c.args in
    rw (unknown a.kind a.numbers (lent a.vectors) a.out.now (sym c.in_default.ensures)) (refl, refl)

pub returns-in_err-end : goal.returns-in_err-end
returns-in_err-end c =
    let a = c.args in
    rw (passed_on _ _ c.from_residual.ensures.1, bad_field a.kind a.numbers (lent a.vectors) a.out.now c.in-Some.case (sym c.in-Some.ensures) _ _ (sym (c.in_err-end.ensures a.numbers))) (refl, refl)

pub returns-then-out-end : goal.returns-then-out-end
returns-then-out-end c =
    let a = c.args in
    rw (small a.kind a.numbers (lent a.vectors) a.out.now c.in-Some.case (sym c.in-Some.ensures) _ (sym (c.in_ok-end.ensures a.numbers)) c.if-out-end.true) (refl, refl)

pub put_all-requires : goal.put_all-requires
put_all-requires c =
    let a = c.args in
    let g = ended (write (filled a.numbers (lent a.vectors) (names_of c.in-Some.case)) 2) _ (sym (c.in_ok-end.ensures a.numbers)) in
    (g.0, omega (arith, g.1, c.put_number.auto.out, c.if-out-end.false))

pub returns : goal.returns
returns c =
    let a = c.args in
    done a.kind a.numbers (lent a.vectors) a.out.now c.in-Some.case (sym c.in-Some.ensures) _ (sym (c.in_ok-end.ensures a.numbers)) c.if-out-end.false
    c.put_number.new.out c.put_all.new.out c.put_number.ensures c.put_all.ensures
