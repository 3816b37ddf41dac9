-- What the crate hash answers, as the contracts name it, for either hash. Assumes nothing.
use mathlib.Core.Path.{◌≡◌, ap, ◌∙◌}
use mathlib.Core.List.{List, ◌∷◌}
use Prim.Native.Nat.{ℕ}
use lib.ListN.{length}
use Rattle.hash.specs.declared.Algorithm.{Algorithm}
use Rattle.hash.specs.Digest.{hash_of, leaf_hash, node_hash}
use Rattle.octets.specs.Limits.{most_item}
use Rattle.hash.specs.Answers.{value_number, value_bytes}
use Rattle.hash.specs.declared.Digest.{Digest}
use Rattle.hash.proofs.Promises.{hash_length}
use Rattle.tree.specs.Tree.{leaf, node}
use Rattle.growing.specs.Hashes.{digest, parent}
use Rattle.growing.proofs.Adding.{value_0}

module _ (alg : Algorithm) where
  -- what `hash::node` answers
  pub node_parent : (a b r : Digest) → r.bytes ≡ node_hash alg a.bytes b.bytes → r ≡ parent (hash_of alg) a b
  unfolding node
  node_parent a b r e = ap digest e

  -- what `hash::leaf` answers
  pub leaf_value : (page r : List ℕ) → value_number most_item page ≡ 0 → r ≡ value_bytes most_item page (leaf_hash alg page) → r ≡ leaf (hash_of alg) page
  unfolding leaf
  leaf_value page r z e = e ∙ value_0 most_item page (leaf_hash alg page) z

  pub leaf_32 : (page r : List ℕ) → r ≡ leaf (hash_of alg) page → length r ≡ 32
  unfolding leaf
  leaf_32 page r e = ap length e ∙ hash_length alg (0 ∷ page)
