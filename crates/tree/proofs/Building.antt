-- What the builders build is accepted, and what each of their tests reports. Assumes nothing but the hash's length, where it is asked.
use mathlib.Core.Path.{◌≡◌, refl, sym, ap, ap₂, ◌∙◌}
use mathlib.Core.Bool.{Bool, true, false, false≢true, cond, not, ◌||◌}
use mathlib.Core.List.{List, []}
use Prim.Native.Nat.{ℕ, ◌*◌, ◌/◌, ◌%◌, ◌≤◌, ◌<◌}
use native.Mathlib.Omega.{arith}
use lib.Dec.{leb, ltb, eqb}
use lib.ListN.{length, take, get_or, replicate, length-take, length-drop}
use lib.Seq.{take_all, paste}
use borrow.Author.Tests.{ltb-false, leb-false, eqb-false, lt-ltb, le-ltb, le-leb, lt-leb, eq-eqb, ne_eqb}
use Rattle.tree.specs.Limits.{most_leaves}
use Rattle.tree.specs.Count.{inclusion_count, consistency_count}
use Rattle.tree.specs.Tree.{root, path, subproof, consistency}
use Rattle.tree.specs.Yield.{inclusion_root, old_root, new_root}
use Rattle.octets.specs.Answer.{Answer, done}
use Rattle.tree.specs.Joined.{first_nodes, nodes, node_at, nodes_from}
use Rattle.tree.specs.Verdict.{inclusion_verdict, consistency_verdict}
use Rattle.octets.specs.Bytes.{over, joined}
use Rattle.tree.specs.Build.{Outcome, refused, wrote, build_report, output, into, unfit, root_built, inclusion_built, consistency_built, root_number, root_bytes}
use Rattle.tree.specs.Claims.{Complete}
use Rattle.tree.proofs.Counting.{path_length, subproof_length}
use Rattle.tree.proofs.Joining.{All32, at_first, nodes_length, nodes_first, all_nodes, all_take, joined_length, nodes_joined}
use Rattle.tree.proofs.Completing.{inclusion_complete, consistency_complete, root_32, path_32, subproof_32}
use Rattle.tree.proofs.Accepting.{inclusion_accepts, consistency_accepts}

-- the tests, one law each
pub unfit_part : (s : List ℕ) → (length s % 32 ≡ 0 → ⊥) → unfit s ≡ true
unfolding unfit
unfit_part s h = rw (ne_eqb (length s % 32) 0 h)

pub unfit_rest : (s : List ℕ) → length s % 32 ≡ 0 → unfit s ≡ ltb most_leaves (length s / 32)
unfolding unfit
unfit_rest s e = rw (eq-eqb (length s % 32) 0 e)

pub short : (room : ℕ) (w : List ℕ) → room < length w → into room w ≡ refused 9
unfolding into
short room w h = rw (lt-ltb room (length w) h)

pub long : (room : ℕ) (w : List ℕ) → length w ≤ room → into room w ≡ wrote w
unfolding into
long room w h = rw (le-ltb room (length w) h)

pub number_10 : (s : List ℕ) → unfit s ≡ true → root_number s ≡ 10
unfolding root_number
number_10 s u = rw u

pub number_0 : (s : List ℕ) → unfit s ≡ false → root_number s ≡ 0
unfolding root_number
number_0 s u = rw u

module _ (H : List ℕ → List ℕ) (s : List ℕ) where
  pub bytes_10 : unfit s ≡ true → root_bytes H s ≡ replicate 32 0
  unfolding root_bytes
  bytes_10 u = rw u

  pub bytes_0 : unfit s ≡ false → root_bytes H s ≡ root H (nodes s)
  unfolding root_bytes
  bytes_0 u = rw u

  pub root_10 : (room : ℕ) → unfit s ≡ true → root_built H s room ≡ refused 10
  unfolding root_built
  root_10 room u = rw u

  pub root_in : (room : ℕ) → unfit s ≡ false → root_built H s room ≡ into room (root H (nodes s))
  unfolding root_built
  root_in room u = rw u

  pub path_10 : (place room : ℕ) → unfit s ≡ true → inclusion_built H s place room ≡ refused 10
  unfolding inclusion_built
  path_10 place room u = rw u

  pub path_6 : (place room : ℕ) → unfit s ≡ false → length s / 32 ≤ place → inclusion_built H s place room ≡ refused 6
  unfolding inclusion_built
  path_6 place room u h = rw (u, le-leb (length s / 32) place h)

  pub path_in : (place room : ℕ) → unfit s ≡ false → place < length s / 32 → inclusion_built H s place room ≡ into room (joined (path H place (nodes s)))
  unfolding inclusion_built
  path_in place room u h = rw (u, lt-leb (length s / 32) place h)

  pub proof_10 : (first room : ℕ) → unfit s ≡ true → consistency_built H s first room ≡ refused 10
  unfolding consistency_built
  proof_10 first room u = rw u

  pub proof_zero : (first room : ℕ) → unfit s ≡ false → first ≡ 0 → consistency_built H s first room ≡ refused 6
  unfolding consistency_built
  proof_zero first room u h = rw (u, eq-eqb first 0 h)

  pub proof_6 : (first room : ℕ) → unfit s ≡ false → (first ≡ 0 → ⊥) → length s / 32 < first → consistency_built H s first room ≡ refused 6
  unfolding consistency_built
  proof_6 first room u z h = rw (u, ne_eqb first 0 z, lt-ltb (length s / 32) first h)

  pub proof_in : (first room : ℕ) → unfit s ≡ false → (first ≡ 0 → ⊥) → first ≤ length s / 32 → consistency_built H s first room ≡ into room (joined (consistency H first (nodes s)))
  unfolding consistency_built
  proof_in first room u z h = rw (u, ne_eqb first 0 z, le-ltb (length s / 32) first h)

-- what is reported and the output, by the outcome
pub reports_refused : {o : Outcome} {n : ℕ} (out : List ℕ) → o ≡ refused n → (Answer.refused n ≡ build_report o) × (out ≡ output o out)
unfolding build_report output
reports_refused out e = rw e (refl, refl)

pub reports_wrote : {o : Outcome} {w : List ℕ} {n : ℕ} {y : List ℕ} (out : List ℕ) → o ≡ wrote w → n ≡ length w → y ≡ over w out → (done n ≡ build_report o) × (y ≡ output o out)
unfolding build_report output
reports_wrote out e d f = rw (e, d, f) (refl, refl)

-- a root, written over the output
pub over_whole : (h out : List ℕ) {y : List ℕ} → length h ≡ 32 → y ≡ paste out 0 h 32 → y ≡ over h out
unfolding over
over_whole h out e p = let k : take 32 h ≡ h = take_all 32 h (omega arith) in p ∙ rw (k, e)

-- all the hashes of a buffer
pub from_start : (s : List ℕ) → nodes_from 0 (length s / 32) s ≡ nodes s
from_start s = sym (nodes_first s)

-- what a recursion over all of them wrote
pub reports_from : (f : List (List ℕ) → List (List ℕ)) (s out : List ℕ) {o : Outcome} {n : ℕ} {y : List ℕ} → o ≡ wrote (joined (f (nodes s))) → n ≡ length (joined (f (nodes_from 0 (length s / 32) s))) → y ≡ over (joined (f (nodes_from 0 (length s / 32) s))) out → (done n ≡ build_report o) × (y ≡ output o out)
reports_from f s out e d g =
    let p = from_start s in
    reports_wrote out e (d ∙ ap (λ (l : List (List ℕ)). length (joined (f l))) p) (g ∙ ap (λ (l : List (List ℕ)). over (joined (f l)) out) p)

pub nodes_none : (s : List ℕ) → length s / 32 ≡ 0 → nodes s ≡ []
unfolding first_nodes
nodes_none s e = nodes_first s ∙ ap (λ (n : ℕ). first_nodes n s) e

-- a builder that wrote gave no refusal
opened : (b : Bool) (n : ℕ) (o : Outcome) (w : List ℕ) → cond b (refused n) o ≡ wrote w → (b ≡ false) × (o ≡ wrote w)
opened true n o w e = absurd (let z : ◌≡◌ {A = ℕ} 0 1 = cc in omega arith)
opened false n o w e = (refl, e)

inside : (room : ℕ) (x w : List ℕ) → into room x ≡ wrote w → x ≡ w
unfolding into
inside room x w e = let p = opened (ltb room (length x)) 9 (wrote x) w e in let q = p.1 in cc

fits : (s : List ℕ) → unfit s ≡ false → length s / 32 ≤ most_leaves
unfolding unfit
fits s e = go (eqb (length s % 32) 0) e
  where
    go : (b : Bool) → (not b || ltb most_leaves (length s / 32)) ≡ false → length s / 32 ≤ most_leaves
    go true d = ltb-false most_leaves (length s / 32) d
    go false d = absurd (false≢true (sym d))

module _ (H : List ℕ → List ℕ) (H32 : (s : List ℕ) → length (H s) ≡ 32) where
  -- how many bytes the paths are
  pub path_bytes : (m : ℕ) (s : List ℕ) → m < length s / 32 → length (joined (path H m (nodes s))) ≡ 32 * inclusion_count m (length s / 32)
  path_bytes m s h =
      let n = nodes_length s in
      joined_length (path H m (nodes s)) (path_32 H H32 (nodes s) (omega arith) m (all_nodes s)) ∙ ap (λ (i : ℕ). 32 * i) (path_length H m (nodes s)) ∙ rw n

  pub proof_bytes : (m : ℕ) (s : List ℕ) → 0 < m → m ≤ length s / 32 → length (joined (consistency H m (nodes s))) ≡ 32 * consistency_count m (length s / 32)
  unfolding consistency consistency_count
  proof_bytes m s z h =
      let n = nodes_length s in
      joined_length (subproof H m (nodes s) true) (subproof_32 H H32 (nodes s) (omega arith) m true z (omega arith) (all_nodes s)) ∙ ap (λ (i : ℕ). 32 * i) (subproof_length H m (nodes s) true) ∙ rw n

  proof_32 : (m : ℕ) (l : List (List ℕ)) → 0 < m → m ≤ length l → All32 l → All32 (consistency H m l)
  unfolding consistency
  proof_32 m l z le a = subproof_32 H H32 l (omega arith) m true z le a

  inclusion_built_lem : (s w : List ℕ) (place room : ℕ) → inclusion_built H s place room ≡ wrote w → inclusion_verdict H (node_at place s) place (length s / 32) (root H (nodes s)) w ≡ 0
  unfolding inclusion_built
  inclusion_built_lem s w place room e =
      let a = opened (unfit s) 10 _ w e in
      let b = opened (leb (length s / 32) place) 6 _ w a.1 in
      let lt = leb-false (length s / 32) place b.0 in
      let d = inside room (joined (path H place (nodes s))) w b.1 in
      let n = nodes_length s in
      let p = path_32 H H32 (nodes s) (omega arith) place (all_nodes s) in
      let g : inclusion_root H place (length s / 32) (node_at place s) (nodes w) ≡ root H (nodes s) =
      ap₂ (λ (x : List ℕ) (q : List (List ℕ)). inclusion_root H place (length s / 32) x q) (sym (ap (λ (l : List (List ℕ)). get_or l place []) (nodes_first s) ∙ at_first (length s / 32) place s lt)) (ap nodes (sym d) ∙ nodes_joined (path H place (nodes s)) p)
      ∙ ap (λ (i : ℕ). inclusion_root H place i (get_or (nodes s) place []) (path H place (nodes s))) (sym n)
      ∙ inclusion_complete H place (nodes s) (omega arith) in
      inclusion_accepts H (node_at place s) place (length s / 32) (root H (nodes s)) w record {
        leaf_32 = simp (length-take, length-drop) (omega arith);
        root_32 = root_32 H H32 (nodes s) (all_nodes s);
        below = lt;
        in_range = let f = fits s a.0 in omega arith;
        counted = ap length (sym d) ∙ path_bytes place s lt;
        yields = g;
      }

  consistency_built_lem : (s w : List ℕ) (first room : ℕ) → consistency_built H s first room ≡ wrote w → consistency_verdict H first (length s / 32) (root H (take first (nodes s))) (root H (nodes s)) w ≡ 0
  unfolding consistency_built
  consistency_built_lem s w first room e =
      let a = opened (unfit s) 10 _ w e in
      let b = opened (eqb first 0 || ltb (length s / 32) first) 6 _ w a.1 in
      let r = in_order (eqb first 0) b.0 in
      let z : 0 < first = let f = eqb-false first 0 r.0 in omega arith in
      let le = ltb-false (length s / 32) first r.1 in
      let d = inside room (joined (consistency H first (nodes s))) w b.1 in
      let n = nodes_length s in
      let p : nodes w ≡ consistency H first (nodes s) = ap nodes (sym d) ∙ nodes_joined (consistency H first (nodes s)) (proof_32 first (nodes s) z (omega arith) (all_nodes s)) in
      let g = consistency_complete H first (nodes s) z (omega arith) in
      let o = root H (take first (nodes s)) in
      consistency_accepts H first (length s / 32) o (root H (nodes s)) w record {
        first_32 = root_32 H H32 (take first (nodes s)) (all_take first (nodes s) (all_nodes s));
        second_32 = root_32 H H32 (nodes s) (all_nodes s);
        some = z;
        order = le;
        in_range = let f = fits s a.0 in omega arith;
        counted = ap length (sym d) ∙ proof_bytes first s z le;
        yields_first = ap₂ (λ (i : ℕ) (q : List (List ℕ)). old_root H first i true o q) (sym n) p ∙ g.0;
        yields_second = ap₂ (λ (i : ℕ) (q : List (List ℕ)). new_root H first i true o q) (sym n) p ∙ g.1;
      }
    where
      in_order : (b : Bool) → (b || ltb (length s / 32) first) ≡ false → (b ≡ false) × (ltb (length s / 32) first ≡ false)
      in_order true d = absurd (false≢true (sym d))
      in_order false d = (refl, d)

  pub complete : Complete H
  complete = record { inclusion = inclusion_built_lem; consistency = consistency_built_lem }
