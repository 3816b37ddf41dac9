use mathlib.Core.Path.{◌≡◌, subst, sym}
use mathlib.Core.List.{List}
use Prim.Native.Nat.{ℕ, ◌+◌, ◌^◌, ◌<◌, ◌≤◌}
use native.Mathlib.Omega.{arith}
use lib.ListN.{length, take, drop, get_or, length-drop}
use lib.Seq.{length-take-le, get_or-take}
use borrow.Author.Rules.{rules}
use Rattle.std.specs.Prelude.{Ok, Err}
use Rattle.octets.specs.declared.refusal.Refusal.TheVariants.{BytesAfter}
use Rattle.octets.specs.declared.number.Width.TheVariants.{One}
use Rattle.fields.specs.declared.layout.Part.{Part}
use Rattle.fields.specs.declared.layout.Field.{Field}
use Rattle.fields.specs.declared.layout.Field.TheVariants.{Uint}
use Rattle.fields.specs.Layout.{field, read, parts_found}
use Rattle.fields.specs.Answers.{LayoutRead, layout_read, told_of}
use Rattle.fields.specs.Checked.{good}
use Rattle.fields.proofs.Founds.{found_within}
use Rattle.fields.proofs.Resuming.{Held, held_first, held_stops, held_goes, held_extra, held_all}
use Rattle.fields.proofs.reading.read_layout.Goals as goal

pub loop-i-init : goal.loop-i-init
loop-i-init c = let a = c.args in (search rules, omega (arith, c.ranges.at), held_first (take c.counted-n.result a.layout) a.s.now a.at)

-- the first n fields of a layout, and the one of them at i
module _ (all : List Field) (n i : ℕ) (some : n ≤ length all) where
  count : length (take n all) ≡ n
  count = length-take-le n all some

  left : i < n → i < length (take n all)
  left h = omega (arith, count)

  is : i < n → get_or all i (Uint One) ≡ get_or (take n all) i (Uint One)
  is h = sym (get_or-take n all i (Uint One) h)

-- what is said of its first n fields is said of the whole layout
whole : (C : ℕ → LayoutRead → Type 0) (all : List Field) (some n : ℕ) (s : List ℕ) (at : ℕ) → length all ≡ 8 → ((l : List Field) → length l ≡ 8 → take some l ≡ take n l)
    → C (length (take n all)) (layout_read (parts_found (take n all) s at) (read (take n all) s at)) → C (length (take some all)) (layout_read (parts_found (take some all) s at) (read (take some all) s at))
whole C all some n s at l h e = subst (λ (fs : List Field). C (length fs) (layout_read (parts_found fs s at) (read fs s at))) (sym (h all l)) e

-- a field that was found ends where a place can be
near : (f : Field) (s : List ℕ) (h : ℕ) (p : Part) → field f (drop h s) h ≡ good p → h < 2 ^ 64 → length s < 2 ^ 63 → p.start + p.len < 2 ^ 64
near f s h p e far long = omega (arith, found_within f (drop h s) h p e, length-drop h s)

pub returns-in-Err : goal.returns-in-Err
returns-in-Err c =
    let l = c.loop-i in
    let a = c.args in
    let n = c.counted-n.result in
    let some : n ≤ length a.layout = omega (arith, l.invariant.0, c.counted-n.ensures.0) in
    whole (λ m w. told_of m (Err (record { refusal = c.in-Err.e.refusal; place = c.in-Err.e.place; met = l.i; parts = l.parts })) ≡ w) a.layout a.count n a.s.now a.at l.invariant.0 c.counted-n.ensures.1
    (held_stops (take n a.layout) a.s.now a.at l.parts l.here l.i (omega (arith, c.counted-n.ensures.0)) l.invariant.2 (left a.layout n l.i some (omega arith)) _ (is a.layout n l.i some (omega arith)) _ _ (sym c.in-Err.ensures))

pub overflow_add-here : goal.overflow_add-here
overflow_add-here c =
    let l = c.loop-i in
    omega (arith, near _ c.args.s.now l.here c.in-Ok.p (sym c.in-Ok.ensures) l.invariant.1 (omega arith))

pub loop-i-preserved : goal.loop-i-preserved
loop-i-preserved c =
    let l = c.loop-i in
    let a = c.args in
    let n = c.counted-n.result in
    let some : n ≤ length a.layout = omega (arith, l.invariant.0, c.counted-n.ensures.0) in (
      l.invariant.0,
      near _ a.s.now l.here c.in-Ok.p (sym c.in-Ok.ensures) l.invariant.1 (omega arith),
      held_goes (take n a.layout) a.s.now a.at l.parts l.here l.i (omega (arith, c.counted-n.ensures.0)) l.invariant.2 (left a.layout n l.i some (omega arith)) _ (is a.layout n l.i some (omega arith)) c.in-Ok.p (omega (arith, c.counted-n.ensures.0)) (sym c.in-Ok.ensures),
    )

pub returns-then-here-s : goal.returns-then-here-s
returns-then-here-s c =
    let l = c.loop-i in
    let a = c.args in
    let n = c.counted-n.result in
    let some : n ≤ length a.layout = omega (arith, l.invariant.0, c.counted-n.ensures.0) in
    let all : n ≡ length (take n a.layout) = sym (count a.layout n l.i some) in
    whole (λ m w. told_of m (Err (record { refusal = BytesAfter; place = l.here; met = n; parts = l.parts })) ≡ w) a.layout a.count n a.s.now a.at l.invariant.0 c.counted-n.ensures.1
    (held_extra (take n a.layout) a.s.now a.at l.parts l.here n (omega (arith, c.counted-n.ensures.0)) (subst (λ (k : ℕ). Held (take n a.layout) a.s.now a.at l.parts l.here k) (omega arith) l.invariant.2) all (omega arith))

pub returns : goal.returns
returns c =
    let l = c.loop-i in
    let a = c.args in
    let n = c.counted-n.result in
    let some : n ≤ length a.layout = omega (arith, l.invariant.0, c.counted-n.ensures.0) in
    whole (λ m w. told_of m (Ok l.parts) ≡ w) a.layout a.count n a.s.now a.at l.invariant.0 c.counted-n.ensures.1
    (held_all (take n a.layout) a.s.now a.at l.parts l.here l.i (omega (arith, c.counted-n.ensures.0)) l.invariant.2 (omega (arith, count a.layout n l.i some)) (omega arith))
