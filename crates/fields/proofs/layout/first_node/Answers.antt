use mathlib.Core.Path.{◌≡◌, ap, ◌∙◌}
use mathlib.Core.List.{List}
use Prim.Native.Nat.{ℕ, ◌-◌, ◌≤◌, ◌<◌}
use native.Mathlib.Omega.{arith}
use native.Mathlib.Nat.{add-zero}
use lib.ListN.{length, drop, get_or}
use lib.Seq.{get_or-take, get_or-drop}
use borrow.Author.Tests.{lt-ltb, le-ltb, eq-eqb, ne_eqb}
use Rattle.fields.specs.declared.layout.Inner.TheVariants.{NodeList}
use Rattle.fields.specs.Layout.{element, sized}
use Rattle.fields.specs.Inner.{part}
use Rattle.octets.specs.Answer.{refused}
use Rattle.fields.proofs.Elements.{part_length}
use Rattle.fields.proofs.layout.first_node.Goals as goal

-- the cases of a node hash, over plain lists
module _ (s : List ℕ) (at end : ℕ) (some : at < end) (fit : end ≤ length s) where
  size : length (part s at end) ≡ end - at
  size = part_length s at end (omega arith) fit

  first : get_or (part s at end) 0 0 ≡ get_or s at 0
  first = let h : 0 < end - at = omega arith in get_or-take (end - at) (drop at s) 0 0 h ∙ get_or-drop at s 0 0 ∙ ap (λ (k : ℕ). get_or s k 0) (add-zero at)

  other_length : (get_or s at 0 ≡ 32 → ⊥) → refused 5 ≡ element NodeList 0 (part s at end)
  unfolding element
  other_length h = rw (first, ne_eqb _ _ h)

  module _ (is : get_or s at 0 ≡ 32) where
    cut_short : end - at < 33 → refused 2 ≡ element NodeList 0 (part s at end)
    unfolding element
    cut_short h = rw (first, size, eq-eqb _ _ is, lt-ltb _ _ h)

    whole : 33 ≤ end - at → sized 33 0 ≡ element NodeList 0 (part s at end)
    unfolding element
    whole h = rw (first, size, eq-eqb _ _ is, le-ltb _ _ h)

pub returns-then-s-at-ne32 : goal.returns-then-s-at-ne32
returns-then-s-at-ne32 c = let a = c.args in other_length a.s.now a.at a.end (omega arith) (omega arith) c.if-s-at-ne32.true

pub returns-then-end-at-lt33 : goal.returns-then-end-at-lt33
returns-then-end-at-lt33 c = let a = c.args in cut_short a.s.now a.at a.end (omega arith) (omega arith) c.if-s-at-ne32.false (omega arith)

pub returns : goal.returns
returns c = let a = c.args in whole a.s.now a.at a.end (omega arith) (omega arith) c.if-s-at-ne32.false (omega arith)
