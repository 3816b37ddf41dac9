-- `growing::add::leaves_by` meets its contract: each return by the outcome that it gives. Assumes nothing.
use mathlib.Core.Path.{◌≡◌, sym, ap, ◌∙◌}
use Prim.Native.Nat.{◌/◌}
use native.Mathlib.Omega.{arith}
use lib.ListN.{length}
use Rattle.hash.specs.Digest.{hash_of}
use Rattle.growing.specs.Hashes.{with_leaves}
use Rattle.growing.specs.Calls.{of_leaves, room_number}
use Rattle.growing.proofs.Adding.{room_6, room_fits, leaves_10, leaves_rest, refused_by, accepted_by, brought_leaves}
use Rattle.growing.proofs.add.leaves_by.Goals as goal

pub returns-then-bad_leaves : goal.returns-then-bad_leaves
returns-then-bad_leaves c =
    let b = c in
    let a = b.args in
    let s = a.leaves.now in
    refused_by (hash_of a.alg) c.refused.result a.g (of_leaves s) 9 (leaves_10 a.g.count s (sym b.bad_leaves.ensures ∙ c.if-bad_leaves.true)) c.refused.ensures

pub returns-then-room_number-ne0 : goal.returns-then-room_number-ne0
returns-then-room_number-ne0 c =
    let d = c in
    let b = d in
    let a = b.args in
    let s = a.leaves.now in
    let fit = sym b.bad_leaves.ensures ∙ d.if-bad_leaves.false in
    let full : room_number a.g.count (length s / 32) ≡ 0 → ⊥ = λ z. c.if-room_number-ne0.true (d.room_number.ensures ∙ z) in
    refused_by (hash_of a.alg) c.refused-then-room_number-ne0.result a.g (of_leaves s) 5 (leaves_rest a.g.count s fit ∙ room_6 a.g.count (length s / 32) full) c.refused-then-room_number-ne0.ensures

pub with_leaves-requires : goal.with_leaves-requires
with_leaves-requires c =
    let a = c.args in
    let f = room_fits a.g.count (length a.leaves.now / 32) (sym c.room_number.ensures ∙ c.if-room_number-ne0.false) in
    (omega arith, omega arith)

pub returns : goal.returns
returns c =
    let a = c.args in
    let s = a.leaves.now in
    let fit = sym c.bad_leaves.ensures ∙ c.if-bad_leaves.false in
    let room : room_number a.g.count (length s / 32) ≡ 0 = sym c.room_number.ensures ∙ c.if-room_number-ne0.false in
    accepted_by (hash_of a.alg) c.with_leaves.result a.g (of_leaves s) (leaves_rest a.g.count s fit ∙ room)
    (c.with_leaves.ensures ∙ ap (with_leaves (hash_of a.alg) a.g) (sym (brought_leaves (hash_of a.alg) s)))
