use borrow.Author.Rules.{rules}
use mathlib.Core.Path.{refl, ◌∙◌}
use Prim.Native.Nat.{◌+◌}
use lib.ListN.{length}
use Rattle.hash.specs.Algorithm.{step_of}
use Rattle.hash.proofs.Algorithms.{step_same}
use Rattle.hash.proofs.Padding.{parts_length, one_block, two_blocks}
use Rattle.hash.proofs.message.finish.Goals as goal

pub pack-requires : goal.pack-requires
pack-requires c = record {
  rest_len_bound = (search rules, search rules, search rules);
  end_value = (search rules, refl, refl);
}

pub returns-then-end-le64 : goal.returns-then-end-le64
returns-then-end-le64 c =
    let p = c in
    let s = p in
    let a = s.args in
    let h = a.head.now in
    let t = a.rest.now in
    c.compress-t.ensures
    ∙ one_block (step_of a.alg) (step_same a.alg) a.s _ _ (length h + length t) _ p.pack.ensures (search rules) (parts_length h t a.n s.requires.2) c.if-end-le64.true

pub returns : goal.returns
returns c =
    let p = c in
    let s = p in
    let a = s.args in
    let h = a.head.now in
    let t = a.rest.now in
    c.compress.ensures
    ∙ rw c.compress-t.ensures
    (two_blocks (step_of a.alg) (step_same a.alg) a.s _ _ (length h + length t) _ p.pack.ensures (search rules) (parts_length h t a.n s.requires.2) c.if-end-le64.false s.requires.0)
