-- What the builders answer and what they leave in the lent output, over any hash H: the refusals in the order 10, 6, 9 of document 01.
-- Assumes nothing: these are definitions.
use Rattle.std.specs.Prelude.{Bool, cond, not, ◌||◌, List, ℕ, ◌/◌, ◌%◌, leb, ltb, eqb, length, replicate}
use Rattle.octets.specs.Bytes.{over, joined}
use Rattle.octets.specs.Answer.{Answer, done}
use Rattle.tree.specs.declared.build.Built.{Built}
use Rattle.tree.specs.declared.build.Built.TheVariants.{Wrote, Refused}
use Rattle.tree.specs.Limits.{most_leaves}
use Rattle.tree.specs.Joined.{nodes}
use Rattle.tree.specs.Tree.{root, path, consistency}

-- a builder refuses with a number of document 01, or writes bytes at the start of its output
pub data Outcome : Type 0 where
  refused : ℕ → Outcome
  wrote : List ℕ → Outcome

-- what it reports: the number, or how many bytes were written
unfoldable pub build_report : Outcome → Answer ℕ
build_report (refused n) = Answer.refused n
build_report (wrote w) = done (length w)

-- what each case of the code's answer reports
abbrev pub building : Built → Answer ℕ
building (Refused n) = Answer.refused n
building (Wrote n) = done n

-- the output after it: a refusal changes nothing, and the bytes past what was written stay
unfoldable pub output : Outcome → List ℕ → List ℕ
output (refused n) out = out
output (wrote w) out = over w out

-- 9: the output is shorter than the answer
unfoldable pub into : ℕ → List ℕ → Outcome
into room w = cond (ltb room (length w)) (refused 9) (wrote w)

-- 10: not whole hashes, or too many of them
unfoldable pub unfit : List ℕ → Bool
unfit leaves = not (eqb (length leaves % 32) 0) || ltb most_leaves (length leaves / 32)

-- the number beside a root by value
unfoldable pub root_number : List ℕ → ℕ
root_number leaves = cond (unfit leaves) 10 0

module _ (H : List ℕ → List ℕ) where
  -- into an output of `room` bytes
  unfoldable pub root_built : List ℕ → ℕ → Outcome
  root_built leaves room = cond (unfit leaves) (refused 10) (into room (root H (nodes leaves)))

  unfoldable pub inclusion_built : List ℕ → ℕ → ℕ → Outcome
  inclusion_built leaves place room =
      cond (unfit leaves) (refused 10)
      (cond (leb (length leaves / 32) place) (refused 6) (into room (joined (path H place (nodes leaves)))))

  unfoldable pub consistency_built : List ℕ → ℕ → ℕ → Outcome
  consistency_built leaves first room =
      cond (unfit leaves) (refused 10)
      (cond (eqb first 0 || ltb (length leaves / 32) first) (refused 6) (into room (joined (consistency H first (nodes leaves)))))

  -- the root by value: 32 zeros on a refusal
  unfoldable pub root_bytes : List ℕ → List ℕ
  root_bytes leaves = cond (unfit leaves) (replicate 32 0) (root H (nodes leaves))
