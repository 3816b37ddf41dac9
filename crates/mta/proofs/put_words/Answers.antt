use borrow.Author.Rules.{rules}
use native.Mathlib.Omega.{arith}
use mathlib.Core.Path.{◌∙◌}
use mathlib.Core.List.{append-nil}
use lib.ListN.{length-set, drop_of_length-le}
use lib.Seq.{sets-eq}
use Rattle.mta.specs.Slices.{words_of}
use Rattle.mta.proofs.put_words.Goals as goal

pub bounds-l-4 : goal.bounds-l-4
bounds-l-4 c = simp length-set (omega arith)

pub bounds-l-5 : goal.bounds-l-5
bounds-l-5 c = simp length-set (omega arith)

pub bounds-l-6 : goal.bounds-l-6
bounds-l-6 c = simp length-set (omega arith)

pub bounds-l-7 : goal.bounds-l-7
bounds-l-7 c = simp length-set (omega arith)

pub returns : goal.returns
returns c =
    let l = c.args.l.now in
    let s = c.args.s in
    sets-eq (words_of s) l 0 (search rules) ∙ rw (drop_of_length-le l {i = 8} (search rules)) (append-nil (words_of s))
