-- The laws of the journal: what joining one head on answers and writes. Assumes nothing.
use mathlib.Core.Path.{◌≡◌, refl, sym, ap, ◌∙◌}
use mathlib.Core.List.{List, ◌++◌, append_assoc, append-nil}
use Prim.Native.Nat.{ℕ, ◌+◌, ◌-◌, ◌*◌, ◌/◌, ◌%◌, ◌≤◌, ◌<◌}
use native.Mathlib.Omega.{arith}
use lib.ListN.{length, length-append}
use borrow.Author.Tests.{eq-eqb, ne_eqb, lt-ltb, le-ltb}
use Rattle.octets.specs.Bytes.{put, put_within}
use Rattle.tree.specs.Build.{Outcome, refused, wrote, into}
use Rattle.octets.proofs.Putting.{put_in, put_length, put_then}
use Rattle.tree.proofs.Building.{short, long}
use Rattle.octets.specs.Numbers.{be}
use Rattle.octets.proofs.Numbers.{be_length}
use Rattle.auditor.specs.declared.journal.Appended.TheVariants.{Refused}
use Rattle.auditor.specs.Heads.{end, then, joined_heads}
use Rattle.auditor.specs.Journal.{most_count, append, append_report, journal_after, appending}

-- the bytes of one head
pub one_head : (size : ℕ) (root path : List ℕ) → joined_heads (then size root path end) ≡ be 8 size ++ (root ++ (be 2 (length path / 32) ++ path))
unfolding joined_heads
one_head size root path = ap (λ (p : List ℕ). be 8 size ++ (root ++ (be 2 (length path / 32) ++ p))) (append-nil path)

pub head_length : (size : ℕ) (root path : List ℕ) → length root ≡ 32 → length (joined_heads (then size root path end)) ≡ 42 + length path
head_length size root path h =
    let a = be_length 8 size in
    let b = be_length 2 (length path / 32) in
    ap length (one_head size root path) ∙ simp length-append (omega arith)

-- the answers, in the order of their tests
module _ (room used size : ℕ) (root path : List ℕ) where
  pub root_short : (length root ≡ 32 → ⊥) → append room used size root path ≡ refused 5
  unfolding append
  root_short z = simp (ne_eqb _ _ z)

  module _ (root_32 : length root ≡ 32) where
    pub path_long : 32 * most_count < length path → append room used size root path ≡ refused 5
    unfolding append
    path_long l = simp (eq-eqb _ _ root_32, lt-ltb _ _ l)

    module _ (few : length path ≤ 32 * most_count) where
      pub path_part_lem : (length path % 32 ≡ 0 → ⊥) → append room used size root path ≡ refused 10
      unfolding append
      path_part_lem z = simp (eq-eqb _ _ root_32, le-ltb _ _ few, ne_eqb _ _ z)

      module _ (whole : length path % 32 ≡ 0) where
        asked : append room used size root path ≡ into (room - used) (joined_heads (then size root path end))
        unfolding append
        asked = simp (eq-eqb _ _ root_32, le-ltb _ _ few, eq-eqb _ _ whole)

        pub full : room < used + (42 + length path) → append room used size root path ≡ refused 9
        full l = let k = head_length size root path root_32 in asked ∙ short (room - used) (joined_heads (then size root path end)) (omega arith)

        pub fits : used + (42 + length path) ≤ room → append room used size root path ≡ wrote (joined_heads (then size root path end))
        fits l = let k = head_length size root path root_32 in asked ∙ long (room - used) (joined_heads (then size root path end)) (omega arith)

-- a refusal says its number, and the buffer keeps its bytes
pub reports_refused : (used : ℕ) (o : Outcome) (n : ℕ) (b : List ℕ) → o ≡ refused n → (appending (Refused n) ≡ append_report used o) × (b ≡ journal_after used o b)
unfolding append_report journal_after
reports_refused used o n b e = rw e (refl, refl)

-- the four pieces of a head, one behind the other
module _ (size used : ℕ) (root path : List ℕ) (root_32 : length root ≡ 32) where
  pub joined_on : (o x y z w : List ℕ) → used + (42 + length path) ≤ length o → x ≡ put_within o used (be 8 size) → y ≡ put_within x (used + 8) root →
      z ≡ put_within y (used + 40) (be 2 (length path / 32)) → w ≡ put_within z (used + 42) path → w ≡ put o used (joined_heads (then size root path end))
  joined_on o x y z w room ex ey ez ew =
      let size-8 = be_length 8 size in
      let count-2 = be_length 2 (length path / 32) in
      let px : x ≡ put o used (be 8 size) = ex ∙ put_in o (be 8 size) used (omega arith) in
      let lx : length x ≡ length o = ap length px ∙ put_length o (be 8 size) used (omega arith) in
      let py : y ≡ put x (used + 8) root = ey ∙ put_in x root (used + 8) (omega arith) in
      let ly : length y ≡ length o = ap length py ∙ put_length x root (used + 8) (omega arith) ∙ lx in
      let pz : z ≡ put y (used + 40) (be 2 (length path / 32)) = ez ∙ put_in y (be 2 (length path / 32)) (used + 40) (omega arith) in
      let lz : length z ≡ length o = ap length pz ∙ put_length y (be 2 (length path / 32)) (used + 40) (omega arith) ∙ ly in
      let pw : w ≡ put z (used + 42) path = ew ∙ put_in z path (used + 42) (omega arith) in
      let i : used + 8 ≡ used + length (be 8 size) = omega arith in
      let qy : y ≡ put o used (be 8 size ++ root) = py ∙ rw (px, i) (put_then o (be 8 size) root used (omega arith)) in
      let j : used + 40 ≡ used + length (be 8 size ++ root) = simp length-append (omega arith) in
      let qz : z ≡ put o used ((be 8 size ++ root) ++ be 2 (length path / 32)) = pz ∙ rw (qy, j) (put_then o (be 8 size ++ root) (be 2 (length path / 32)) used (omega arith)) in
      let k : used + 42 ≡ used + length ((be 8 size ++ root) ++ be 2 (length path / 32)) = simp length-append (omega arith) in
      let qw : w ≡ put o used (((be 8 size ++ root) ++ be 2 (length path / 32)) ++ path) = pw ∙ rw (qz, k) (put_then o ((be 8 size ++ root) ++ be 2 (length path / 32)) path used (omega arith)) in
      let l : ((be 8 size ++ root) ++ be 2 (length path / 32)) ++ path ≡ joined_heads (then size root path end) =
      append_assoc (be 8 size ++ root) (be 2 (length path / 32)) path ∙ append_assoc (be 8 size) root (be 2 (length path / 32) ++ path) ∙ sym (one_head size root path) in
      qw ∙ ap (put o used) l
