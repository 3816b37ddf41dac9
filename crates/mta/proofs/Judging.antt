-- A path that was read and copied is judged by the hashes that stand in its item. Assumes nothing.
use mathlib.Core.Path.{◌≡◌, ap, ◌∙◌}
use mathlib.Core.List.{List, [], ◌∷◌}
use Prim.Native.Nat.{ℕ, ◌*◌}
use native.Mathlib.Omega.{arith}
use lib.ListN.{length}
use Rattle.tree.specs.Claims.{Inclusion, Consistency}
use Rattle.tree.specs.Joined.{nodes}
use Rattle.octets.specs.Bytes.{joined}
use Rattle.tree.proofs.Joining.{All32, nodes_joined}
use Rattle.tree.proofs.Accepting.{accepts}
use Rattle.fields.specs.Claims.{Each}
use Rattle.item.proofs.Trips.{path_is_said}
use Rattle.mta.specs.Judged.{Shows, Joins, ItemsAreJudged}

abbrev Ours : List (List ℕ) → Type 0
Ours hs = Each (λ h. length h ≡ 32) hs

-- one way of having 32 bytes
all_32 : (hs : List (List ℕ)) → Ours hs → All32 hs
unfolding All32
all_32 [] o = tt
all_32 (h ∷ hs) o = (o.0, all_32 hs o.1)

-- a path that joins hashes of 32 bytes has these nodes
the_nodes : (path : List ℕ) (hs : List (List ℕ)) → Ours hs → path ≡ joined hs → nodes path ≡ hs
the_nodes path hs o e = ap nodes e ∙ nodes_joined hs (all_32 hs o)

module _ (H : List ℕ → List ℕ) (path : List ℕ) (hashes : List (List ℕ)) (same : nodes path ≡ hashes) (long : length path ≡ 32 * length hashes) where
  shown : (leaf : List ℕ) (place size : ℕ) (claimed : List ℕ) → Inclusion H leaf place size claimed path → Shows H leaf place size claimed hashes
  shown leaf place size claimed p =
      record {
        leaf_32 = p.leaf_32;
        root_32 = p.root_32;
        below = p.below;
        in_range = p.in_range;
        counted = let c = p.counted in omega arith;
        yields = rw (← same) p.yields;
      }

  shows : (leaf : List ℕ) (place size : ℕ) (claimed : List ℕ) → Shows H leaf place size claimed hashes → Inclusion H leaf place size claimed path
  shows leaf place size claimed p =
      record {
        leaf_32 = p.leaf_32;
        root_32 = p.root_32;
        below = p.below;
        in_range = p.in_range;
        counted = let c = p.counted in omega arith;
        yields = rw same p.yields;
      }

  joined_by : (first second : ℕ) (claimed₁ claimed₂ : List ℕ) → Consistency H first second claimed₁ claimed₂ path → Joins H first second claimed₁ claimed₂ hashes
  joined_by first second claimed₁ claimed₂ p =
      record {
        first_32 = p.first_32;
        second_32 = p.second_32;
        some = p.some;
        order = p.order;
        in_range = p.in_range;
        counted = let c = p.counted in omega arith;
        yields_first = rw (← same) p.yields_first;
        yields_second = rw (← same) p.yields_second;
      }

  joins : (first second : ℕ) (claimed₁ claimed₂ : List ℕ) → Joins H first second claimed₁ claimed₂ hashes → Consistency H first second claimed₁ claimed₂ path
  joins first second claimed₁ claimed₂ p =
      record {
        first_32 = p.first_32;
        second_32 = p.second_32;
        some = p.some;
        order = p.order;
        in_range = p.in_range;
        counted = let c = p.counted in omega arith;
        yields_first = rw same p.yields_first;
        yields_second = rw same p.yields_second;
      }

pub items_are_judged : ItemsAreJudged
items_are_judged s r e h =
    let y = path_is_said s r e h in
    let j = y.says in
    let same = the_nodes y.path j.hashes j.ours j.path in
    record {
      hashes = j.hashes;
      item = j.item;
      path = y.path;
      copied = y.copied;
      inclusion = λ H leaf place size claimed. (
        λ v. shown H y.path j.hashes same j.size leaf place size claimed (((accepts H).inclusion leaf place size claimed y.path).0 v),
        λ v. ((accepts H).inclusion leaf place size claimed y.path).1 (shows H y.path j.hashes same j.size leaf place size claimed v),
      );
      consistency = λ H first second claimed₁ claimed₂. (
        λ v. joined_by H y.path j.hashes same j.size first second claimed₁ claimed₂ (((accepts H).consistency first second claimed₁ claimed₂ y.path).0 v),
        λ v. ((accepts H).consistency first second claimed₁ claimed₂ y.path).1 (joins H y.path j.hashes same j.size first second claimed₁ claimed₂ v),
      );
    }
