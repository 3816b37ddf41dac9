-- `growing::add::page_by` meets its contract: each return by the outcome that it gives. Assumes nothing.
use mathlib.Core.Path.{◌≡◌, sym, ap, ◌∙◌}
use native.Mathlib.Omega.{arith}
use Rattle.hash.specs.Digest.{hash_of}
use Rattle.octets.specs.Limits.{most_item}
use Rattle.hash.specs.Answers.{value_number}
use Rattle.growing.specs.Hashes.{with_leaves}
use Rattle.growing.specs.Calls.{of_page, room_number}
use Rattle.growing.proofs.Adding.{room_6, room_fits, page_1, page_rest, refused_by, accepted_by, brought_page}
use Rattle.growing.proofs.OfHash.{leaf_value, leaf_32}
use Rattle.growing.proofs.add.page_by.Goals as goal

pub returns-then-hashed-ne0 : goal.returns-then-hashed-ne0
returns-then-hashed-ne0 c =
    let b = c in
    let a = b.args in
    let s = a.page.now in
    let long : value_number most_item s ≡ 0 → ⊥ = λ z. c.if-hashed-ne0.true (b.leaf-hashed.ensures.number_value ∙ z) in
    refused_by (hash_of a.alg) c.refused.result a.g (of_page s) 0 (page_1 a.g.count s long) c.refused.ensures

pub returns-then-room_number-ne0 : goal.returns-then-room_number-ne0
returns-then-room_number-ne0 c =
    let d = c in
    let b = d in
    let a = b.args in
    let s = a.page.now in
    let short : value_number most_item s ≡ 0 = sym b.leaf-hashed.ensures.number_value ∙ d.if-hashed-ne0.false in
    let full : room_number a.g.count 1 ≡ 0 → ⊥ = λ z. c.if-room_number-ne0.true (d.room_number.ensures ∙ z) in
    refused_by (hash_of a.alg) c.refused-then-room_number-ne0.result a.g (of_page s) 5 (page_rest a.g.count s short ∙ room_6 a.g.count 1 full) c.refused-then-room_number-ne0.ensures

pub with_leaves-requires : goal.with_leaves-requires
with_leaves-requires c =
    let a = c.args in
    let s = a.page.now in
    let l = c.leaf-hashed in
    let short : value_number most_item s ≡ 0 = sym l.ensures.number_value ∙ c.if-hashed-ne0.false in
    let f = room_fits a.g.count 1 (sym c.room_number.ensures ∙ c.if-room_number-ne0.false) in
    let w = leaf_32 a.alg s l.result.digest.bytes (leaf_value a.alg s l.result.digest.bytes short l.ensures.bytes_value) in
    (omega arith, omega arith)

pub returns : goal.returns
returns c =
    let a = c.args in
    let s = a.page.now in
    let l = c.leaf-hashed in
    let short : value_number most_item s ≡ 0 = sym l.ensures.number_value ∙ c.if-hashed-ne0.false in
    let room : room_number a.g.count 1 ≡ 0 = sym c.room_number.ensures ∙ c.if-room_number-ne0.false in
    let v = leaf_value a.alg s l.result.digest.bytes short l.ensures.bytes_value in
    accepted_by (hash_of a.alg) c.with_leaves.result a.g (of_page s) (page_rest a.g.count s short ∙ room)
    (c.with_leaves.ensures ∙ ap (with_leaves (hash_of a.alg) a.g) (brought_page (hash_of a.alg) s l.result.digest.bytes (leaf_32 a.alg s l.result.digest.bytes v) v))
