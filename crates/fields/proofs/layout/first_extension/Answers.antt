use mathlib.Core.Path.{◌≡◌, sym, ◌∙◌}
use mathlib.Core.List.{List}
use mathlib.Core.Bool.{Bool, true, false, cond}
use Prim.Native.Nat.{ℕ, ◌+◌, ◌-◌, ◌≤◌, ◌<◌}
use native.Mathlib.Omega.{arith}
use lib.ListN.{length, take, drop}
use lib.Seq.{take-take}
use borrow.Author.Tests.{lt-ltb, le-ltb}
use Rattle.fields.specs.declared.layout.Order.{Order}
use Rattle.fields.specs.declared.layout.Inner.TheVariants.{ExtensionList}
use Rattle.octets.specs.Numbers.{unbe}
use Rattle.fields.specs.Layout.{out_of_order, element, sized}
use Rattle.fields.specs.Inner.{part}
use Rattle.octets.specs.Answer.{refused}
use Rattle.fields.proofs.Elements.{part_length, part_drop}
use Rattle.fields.proofs.layout.first_extension.Goals as goal

-- the cases of an extension, over plain lists
module _ (s : List ℕ) (at end : ℕ) (o : Order) (last : ℕ) (some : at < end) (fit : end ≤ length s) where
  size : length (part s at end) ≡ end - at
  size = part_length s at end (omega arith) fit

  no_header : end - at < 4 → refused 2 ≡ element (ExtensionList o) last (part s at end)
  unfolding element
  no_header h = rw (size, lt-ltb _ _ h)

  module _ (n : ℕ) (is : n ≡ unbe (take 2 (drop (at + 2) s))) (room : 4 ≤ end - at) where
    data_length : unbe (take 2 (drop 2 (part s at end))) ≡ n
    data_length = rw (part_drop s at end 2, take-take 2 (end - (at + 2)) (drop (at + 2) s) (omega arith)) (sym is)

    cut_short : end - at - 4 < n → refused 2 ≡ element (ExtensionList o) last (part s at end)
    unfolding element
    cut_short h = rw (data_length, size, le-ltb _ _ room, lt-ltb _ _ h)

    judged : n ≤ end - at - 4 → (k : ℕ) → k ≡ unbe (take 2 (drop at s)) → (b : Bool) → b ≡ out_of_order o last k → cond b (refused 15) (sized (4 + n) (k + 1)) ≡ element (ExtensionList o) last (part s at end)
    unfolding element
    judged h k e b w =
        let t : unbe (take 2 (part s at end)) ≡ k = rw (take-take 2 (end - at) (drop at s) (omega arith)) (sym e) in
        rw (data_length, t, size, le-ltb _ _ room, le-ltb _ _ h, w)

pub returns-then-room-lt4 : goal.returns-then-room-lt4
returns-then-room-lt4 c = let a = c.args in no_header a.s.now a.at a.end a.order a.last (omega arith) (omega arith) c.if-room-lt4.true

pub returns-then-room-n : goal.returns-then-room-n
returns-then-room-n c =
    let a = c.args in
    cut_short a.s.now a.at a.end a.order a.last (omega arith) (omega arith) _ c.number_at-n.ensures.0 (omega arith) (omega arith)

pub returns-then-wrong : goal.returns-then-wrong
returns-then-wrong c =
    let a = c.args in
    judged a.s.now a.at a.end a.order a.last (omega arith) (omega arith) _ c.number_at-n.ensures.0 (omega arith) (omega arith) _
    c.number_at-kind.ensures.0 true (sym c.if-wrong.true ∙ c.is_out_of_order-wrong.ensures)

pub returns : goal.returns
returns c =
    let a = c.args in
    judged a.s.now a.at a.end a.order a.last (omega arith) (omega arith) _ c.number_at-n.ensures.0 (omega arith) (omega arith) _
    c.number_at-kind.ensures.0 false (sym c.if-wrong.false ∙ c.is_out_of_order-wrong.ensures)
