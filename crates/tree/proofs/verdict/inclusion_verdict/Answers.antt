-- `tree::verdict::inclusion_verdict` meets its contract: one law for each return. Assumes nothing.
use mathlib.Core.Path.{◌≡◌, sym, ap, ap₂, ◌∙◌}
use mathlib.Core.List.{List}
use Prim.Native.Nat.{ℕ, ◌/◌}
use native.Mathlib.Omega.{arith}
use lib.ListN.{length}
use Rattle.tree.specs.Yield.{inclusion_root}
use Rattle.octets.specs.Bytes.{same}
use Rattle.tree.specs.Joined.{first_nodes, nodes, hash_at}
use Rattle.tree.proofs.Joining.{whole_hash, nodes_first}
use Rattle.tree.specs.Verdict.{inclusion_verdict}
use Rattle.tree.proofs.Answering.{one_5, two_5, path_10, outside_6, count_7, other_8, right_0, place_none, place_past, place_in}
use Rattle.tree.proofs.verdict.inclusion_verdict.Goals as goal

-- what the code yields is what the definition yields
yielded : (H : List ℕ → List ℕ) (leaf : List ℕ) (place size : ℕ) (root path : List ℕ) {x l : List ℕ} → x ≡ inclusion_root H place size l (first_nodes (length path / 32) path) → l ≡ hash_at 0 leaf → length leaf ≡ 32 → same (inclusion_root H place size leaf (nodes path)) root ≡ same x root
yielded H leaf place size root path e d h = ap (λ (x : List ℕ). same x root) (sym (e ∙ ap₂ (λ (y : List ℕ) (p : List (List ℕ)). inclusion_root H place size y p) (d ∙ whole_hash leaf h) (sym (nodes_first path))))

pub returns-then-leaf-ne32 : goal.returns-then-leaf-ne32
unfolding inclusion_verdict
returns-then-leaf-ne32 c = one_5 _ _ _ _ _ _ (omega arith)

pub returns-then-root-ne32 : goal.returns-then-root-ne32
unfolding inclusion_verdict
returns-then-root-ne32 c = two_5 _ _ _ _ _ _ (omega arith) (omega arith)

pub returns-then-path-ne0 : goal.returns-then-path-ne0
unfolding inclusion_verdict
returns-then-path-ne0 c = path_10 _ _ _ _ _ _ (omega arith) (omega arith) (omega arith)

pub returns-then-size-eq0 : goal.returns-then-size-eq0
unfolding inclusion_verdict
returns-then-size-eq0 c = outside_6 _ _ _ _ _ _ (omega arith) (omega arith) (omega arith) (place_none _ _ (omega arith))

pub returns-then-size-place : goal.returns-then-size-place
unfolding inclusion_verdict
returns-then-size-place c = outside_6 _ _ _ _ _ _ (omega arith) (omega arith) (omega arith) (place_past _ _ (omega arith))

pub returns-then-count-inclusion_count : goal.returns-then-count-inclusion_count
unfolding inclusion_verdict
returns-then-count-inclusion_count c = count_7 _ _ _ _ _ _ (omega arith) (omega arith) (omega arith) (place_in _ _ (omega arith) (omega arith) (omega arith)) (omega arith)

pub returns-then-not-equals : goal.returns-then-not-equals
unfolding inclusion_verdict
returns-then-not-equals c =
    let y = yielded _ _ _ _ _ _ c.inclusion_root-yielded.ensures c.node_at.ensures (omega arith) in
    other_8 _ _ _ _ _ _ (omega arith) (omega arith) (omega arith) (place_in _ _ (omega arith) (omega arith) (omega arith)) (omega arith) (y ∙ sym c.equals.ensures ∙ c.if-not-equals.true)

pub returns : goal.returns
unfolding inclusion_verdict
returns c =
    let y = yielded _ _ _ _ _ _ c.inclusion_root-yielded.ensures c.node_at.ensures (omega arith) in
    right_0 _ _ _ _ _ _ (omega arith) (omega arith) (omega arith) (place_in _ _ (omega arith) (omega arith) (omega arith)) (omega arith) (y ∙ sym c.equals.ensures ∙ c.if-not-equals.false)
