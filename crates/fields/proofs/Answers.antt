-- Answers that are good, and answers that are refusals. Assumes nothing.
use mathlib.Core.Path.{◌≡◌, ap}
use Prim.Native.Nat.{ℕ}
use native.Mathlib.Omega.{arith}
use Rattle.std.specs.Prelude.{Result, Ok, Err}
use Rattle.std.specs.Result.{IsErrAnd}
use Rattle.fields.specs.Checked.{Checked, good, bad}

pub bad_good : {A B : Type 0} (x y : ℕ) (a : A) → bad x y ≡ good a → B
bad_good x y a e = absurd (let z : ◌≡◌ {A = ℕ} 0 1 = cc in omega arith)

pub good_bad : {A B : Type 0} (x y : ℕ) (a : A) → good a ≡ bad x y → B
good_bad x y a e = absurd (let z : ◌≡◌ {A = ℕ} 0 1 = cc in omega arith)

pub same_good : {A : Type 0} (a b : A) → good a ≡ good b → a ≡ b
same_good a b e = cc

pub same_place : {A : Type 0} (x y p q : ℕ) → ◌≡◌ {A = Checked A} (bad x p) (bad y q) → q ≡ p
same_place x y p q e = cc

pub same_number : {A : Type 0} (x y p q : ℕ) → ◌≡◌ {A = Checked A} (bad x p) (bad y q) → y ≡ x
same_number x y p q e = cc

-- a refusal that is passed on by `?` is the callee's
pub passed_on : {A E : Type 0} (r : Result A E) (e : E) → IsErrAnd r (λ y. y ≡ e) → r ≡ Err e
passed_on (Ok a) e h = absurd h
passed_on (Err x) e h = ap Err h
