-- `tree::verdict::consistency_verdict` meets its contract: one law for each return. Assumes nothing.
use mathlib.Core.Path.{◌≡◌, sym, ap, ap₂, ◌∙◌}
use mathlib.Core.Bool.{true}
use mathlib.Core.List.{List}
use Prim.Native.Nat.{ℕ, ◌/◌}
use lib.ListN.{length}
use native.Mathlib.Omega.{arith}
use Rattle.tree.specs.Count.{consistency_count}
use Rattle.tree.specs.Yield.{old_root, new_root}
use Rattle.octets.specs.Bytes.{same}
use Rattle.tree.specs.Joined.{first_nodes, nodes, hash_at}
use Rattle.tree.proofs.Joining.{whole_hash, nodes_first}
use Rattle.tree.specs.Verdict.{consistency_verdict}
use Rattle.tree.proofs.Answering.{one_5, two_5, path_10, outside_6, count_7, other_8, right_0, sizes_none, sizes_past, sizes_in, first_apart_lem, second_apart, both_agree}
use Rattle.tree.proofs.verdict.consistency_verdict.Goals as goal

-- what the code yields is what the definition yields
module _ (H : List ℕ → List ℕ) (first second : ℕ) (old new path : List ℕ) {x l : List ℕ} where
  pub new_is : x ≡ new_root H first second true l (first_nodes (length path / 32) path) → l ≡ hash_at 0 old → length old ≡ 32 → same (new_root H first second true old (nodes path)) new ≡ same x new
  new_is e d h = ap (λ (y : List ℕ). same y new) (sym (e ∙ ap₂ (λ (y : List ℕ) (p : List (List ℕ)). new_root H first second true y p) (d ∙ whole_hash old h) (sym (nodes_first path))))

module _ (H : List ℕ → List ℕ) (first second : ℕ) (old path : List ℕ) {x l : List ℕ} where
  pub old-is : x ≡ old_root H first second true l (first_nodes (length path / 32) path) → l ≡ hash_at 0 old → length old ≡ 32 → same (old_root H first second true old (nodes path)) old ≡ same x old
  old-is e d h = ap (λ (y : List ℕ). same y old) (sym (e ∙ ap₂ (λ (y : List ℕ) (p : List (List ℕ)). old_root H first second true y p) (d ∙ whole_hash old h) (sym (nodes_first path))))

pub returns-then-old-ne32 : goal.returns-then-old-ne32
unfolding consistency_verdict consistency_count
returns-then-old-ne32 c = one_5 _ _ _ _ _ _ (omega arith)

pub returns-then-new-ne32 : goal.returns-then-new-ne32
unfolding consistency_verdict consistency_count
returns-then-new-ne32 c = two_5 _ _ _ _ _ _ (omega arith) (omega arith)

pub returns-then-path-ne0 : goal.returns-then-path-ne0
unfolding consistency_verdict consistency_count
returns-then-path-ne0 c = path_10 _ _ _ _ _ _ (omega arith) (omega arith) (omega arith)

pub returns-then-first-eq0 : goal.returns-then-first-eq0
unfolding consistency_verdict consistency_count
returns-then-first-eq0 c = outside_6 _ _ _ _ _ _ (omega arith) (omega arith) (omega arith) (sizes_none _ _ (omega arith))

pub returns-then-second-first : goal.returns-then-second-first
unfolding consistency_verdict consistency_count
returns-then-second-first c = outside_6 _ _ _ _ _ _ (omega arith) (omega arith) (omega arith) (sizes_past _ _ (omega arith))

pub returns-then-count-subproof_count : goal.returns-then-count-subproof_count
unfolding consistency_verdict consistency_count
returns-then-count-subproof_count c = count_7 _ _ _ _ _ _ (omega arith) (omega arith) (omega arith) (sizes_in _ _ (omega arith) (omega arith) (omega arith)) (omega arith)

pub consistency_roots-yielded-requires : goal.consistency_roots-yielded-requires
unfolding consistency_verdict consistency_count
consistency_roots-yielded-requires c = (omega arith, omega arith, omega arith, omega arith)

pub returns-then-not-equals : goal.returns-then-not-equals
unfolding consistency_verdict consistency_count
returns-then-not-equals c =
    let e = c.consistency_roots-yielded.ensures in
    let f = c.node_at.ensures in
    other_8 _ _ _ _ _ _ (omega arith) (omega arith) (omega arith) (sizes_in _ _ (omega arith) (omega arith) (omega arith)) (omega arith) (first_apart_lem _ _ (old-is _ _ _ _ _ e.0 f (omega arith) ∙ sym c.equals.ensures ∙ c.if-not-equals.true))

pub returns-then-not-equals-2 : goal.returns-then-not-equals-2
unfolding consistency_verdict consistency_count
returns-then-not-equals-2 c =
    let e = c.consistency_roots-yielded.ensures in
    let f = c.node_at.ensures in
    other_8 _ _ _ _ _ _ (omega arith) (omega arith) (omega arith) (sizes_in _ _ (omega arith) (omega arith) (omega arith)) (omega arith) (second_apart _ _ (old-is _ _ _ _ _ e.0 f (omega arith) ∙ sym c.equals.ensures ∙ c.if-not-equals.false) (new_is _ _ _ _ _ _ e.1 f (omega arith) ∙ sym c.equals-2.ensures ∙ c.if-not-equals-2.true))

pub returns : goal.returns
unfolding consistency_verdict consistency_count
returns c =
    let e = c.consistency_roots-yielded.ensures in
    let f = c.node_at.ensures in
    right_0 _ _ _ _ _ _ (omega arith) (omega arith) (omega arith) (sizes_in _ _ (omega arith) (omega arith) (omega arith)) (omega arith) (both_agree _ _ (old-is _ _ _ _ _ e.0 f (omega arith) ∙ sym c.equals.ensures ∙ c.if-not-equals.false) (new_is _ _ _ _ _ _ e.1 f (omega arith) ∙ sym c.equals-2.ensures ∙ c.if-not-equals-2.false))
