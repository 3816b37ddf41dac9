use mathlib.Core.Path.{◌≡◌, ap, sym, ◌∙◌}
use mathlib.Core.List.{List}
use Prim.Native.Nat.{ℕ, ◌+◌, ◌-◌, ◌≤◌, ◌<◌}
use native.Mathlib.Omega.{arith}
use lib.ListN.{length, take, drop, length-drop}
use lib.Seq.{drop-drop}
use Rattle.std.proofs.Common.{◌⊎◌, inl, inr}
use borrow.Author.Tests.{lt-ltb, le-ltb}
use Rattle.octets.specs.Numbers.{width_of, unbe}
use Rattle.fields.specs.declared.layout.Inner.{Inner}
use Rattle.fields.specs.Layout.{inside, vector_at, whole}
use Rattle.fields.specs.Inner.{part}
use Rattle.fields.specs.Checked.{Checked, good, bad}
use Rattle.fields.proofs.layout.read_vector.Goals.{After-number_at-value, After-width_of-w}
use Rattle.fields.proofs.layout.read_vector.Goals as goal

-- the cases of a vector, over plain lists, n being its prefix's number
module _ (s : List ℕ) (at w least most : ℕ) (i : Inner) where
  no-prefix : length s - at < w → bad 2 at ≡ vector_at w least most i (drop at s) at
  unfolding vector_at
  no-prefix h = rw (length-drop, lt-ltb _ _ h)

  module _ (n : ℕ) (is : n ≡ unbe (take w (drop at s))) (room : w ≤ length s - at) where
    out : (n < least) ⊎ ((least ≤ n) × (most < n)) → bad 5 at ≡ vector_at w least most i (drop at s) at
    unfolding vector_at
    out (inl h) = rw (← is, length-drop, le-ltb _ _ room, lt-ltb _ _ h)
    out (inr (l, h)) = rw (← is, length-drop, le-ltb _ _ room, le-ltb _ _ l, lt-ltb _ _ h)

    short : least ≤ n → n ≤ most → length s - at - w < n → bad 2 at ≡ vector_at w least most i (drop at s) at
    unfolding vector_at
    short l m h = simp (← is, length-drop, le-ltb _ _ room, le-ltb _ _ l, le-ltb _ _ m, lt-ltb _ _ h)

    body : least ≤ n → n ≤ most → n ≤ length s - at - w → (x : Checked Unit) → x ≡ inside i (part s (at + w) (at + w + n)) (at + w) → whole x (record { start = at + w; len = n; value = n }) ≡ vector_at w least most i (drop at s) at
    unfolding vector_at
    body l m h x e =
        let k : at + w + n - (at + w) ≡ n = omega arith in
        let d : take n (drop w (drop at s)) ≡ part s (at + w) (at + w + n) = rw (k, drop-drop) in
        simp (← is, length-drop, le-ltb _ _ room, le-ltb _ _ l, le-ltb _ _ m, le-ltb _ _ h) (rw (d, e))

-- the number of bytes that the width stands for, and the number that the prefix is
module _ (w W least most : ℕ) (i : Inner) (s : List ℕ) (at : ℕ) (wide : w ≡ W) where
  to_width : vector_at w least most i (drop at s) at ≡ vector_at W least most i (drop at s) at
  to_width = ap (λ (k : ℕ). vector_at k least most i (drop at s) at) wide

  prefix_is : (n : ℕ) → n ≡ unbe (take W (drop at s)) → n ≡ unbe (take w (drop at s))
  prefix_is n e = e ∙ ap (λ (k : ℕ). unbe (take k (drop at s))) (sym wide)

wide : (c : After-width_of-w) → vector_at c.width_of-w.result c.args.least c.args.most c.args.inner (drop c.args.at c.args.s.now) c.args.at ≡ vector_at (width_of c.args.width) c.args.least c.args.most c.args.inner (drop c.args.at c.args.s.now) c.args.at
wide c = to_width _ _ c.args.least c.args.most c.args.inner c.args.s.now c.args.at c.width_of-w.ensures.0

is : (c : After-number_at-value) → c.number_at-value.result ≡ unbe (take c.width_of-w.result (drop c.args.at c.args.s.now))
is c = prefix_is _ _ c.args.least c.args.most c.args.inner c.args.s.now c.args.at c.width_of-w.ensures.0 _ c.number_at-value.ensures.0

pub returns-then-left-w : goal.returns-then-left-w
returns-then-left-w c =
    let a = c.args in
    no-prefix a.s.now a.at _ a.least a.most a.inner (omega arith) ∙ wide (goal.at.returns-then-left-w c).After-width_of-w

pub returns-then-n-least : goal.returns-then-n-least
returns-then-n-least c =
    let a = c.args in
    let p = goal.at.returns-then-n-least c in
    out a.s.now a.at _ a.least a.most a.inner _ (is p.After-number_at-value) (omega arith) c.then-n-least.either ∙ wide p.After-width_of-w

pub returns-then-left-w-2 : goal.returns-then-left-w-2
returns-then-left-w-2 c =
    let a = c.args in
    let p = goal.at.returns-then-left-w-2 c in
    short a.s.now a.at _ a.least a.most a.inner _ (is p.After-number_at-value) (omega arith) (omega arith) (omega arith) (omega arith) ∙ wide p.After-width_of-w

pub returns-in-Err : goal.returns-in-Err
returns-in-Err c =
    let a = c.args in
    let p = goal.at.returns-in-Err c in
    body a.s.now a.at _ a.least a.most a.inner _ (is p.After-number_at-value) (omega arith) (omega arith) (omega arith) (omega arith) _ c.in-Err.ensures ∙ wide p.After-width_of-w

pub returns-in-Ok : goal.returns-in-Ok
returns-in-Ok c =
    let a = c.args in
    let p = goal.at.returns-in-Ok c in
    body a.s.now a.at _ a.least a.most a.inner _ (is p.After-number_at-value) (omega arith) (omega arith) (omega arith) (omega arith) (good tt) c.in-Ok.ensures ∙ wide p.After-width_of-w
