-- `octets::copy` meets its contract: one law for each return. Assumes nothing.
use mathlib.Core.Path.{◌≡◌, ap, sym, ◌∙◌}
use mathlib.Core.List.{List}
use Prim.Native.Nat.{ℕ, ◌+◌, ◌-◌, ◌≤◌}
use native.Mathlib.Omega.{arith}
use lib.ListN.{length, take, drop}
use Rattle.octets.specs.Bytes.{put_within, copied}
use Rattle.octets.proofs.Putting.{beyond, within, copied_within, copied_short}
use Rattle.octets.proofs.writing.copy.Goals.{Else-not-reaches}
use Rattle.octets.proofs.writing.copy.Goals as goal

part : (s out out₁ : List ℕ) (from len at : ℕ) → from + len ≤ length s → out₁ ≡ put_within out at (take (from + len - from) (drop from s)) → out₁ ≡ copied s from len out at
part s out out₁ from len at h e =
    let z : from + len - from ≡ len = omega arith in
    e ∙ ap (λ (k : ℕ). put_within out at (take k (drop from s))) z ∙ sym (copied_within s from len out at h)

-- the bytes are there
there : (c : Else-not-reaches) → (let a = c.args in a.from + a.len ≤ length a.s.now)
there c = within _ _ _ c.reaches.ensures c.if-not-reaches.false

pub returns-then-not-reaches : goal.returns-then-not-reaches
returns-then-not-reaches c =
    let a = c.args in
    sym (copied_short a.s.now a.from a.len a.out.now a.at (beyond _ _ _ c.reaches.ensures c.if-not-reaches.true))

pub returns : goal.returns
returns c =
    let e = c in
    let a = e.args in
    part a.s.now a.out.now _ a.from a.len a.at (there (goal.at.returns c).Else-not-reaches) c.put.ensures

pub overflow_add-end : goal.overflow_add-end
overflow_add-end c = omega (arith, there (goal.at.overflow_add-end c).Else-not-reaches)

pub slice_bounds-put-end : goal.slice_bounds-put-end
slice_bounds-put-end c = omega (arith, there (goal.at.slice_bounds-put-end c).Else-not-reaches)
