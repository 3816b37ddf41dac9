-- The limits of documents 01 and 02. No definition or law of the tree has a limit in it: only the verdicts and the builders do.
-- Assumes nothing: these are definitions.
use Rattle.std.specs.Prelude.{ℕ, ◌-◌, ◌^◌}

-- the largest size of a tree: all 64 bits
abbrev pub largest_size : ℕ
largest_size = 2 ^ 64 - 1

-- the most nodes of an inclusion path at the largest size; a consistency path has at most one more
abbrev pub most_nodes : ℕ
most_nodes = 64

-- the most leaf hashes that one lent buffer may join
abbrev pub most_leaves : ℕ
most_leaves = 2 ^ 32
