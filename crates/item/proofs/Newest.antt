-- The empty part comes back only where neither head is chosen, and a refused item is not. Assumes nothing.
use mathlib.Core.Path.{◌≡◌, refl, ap, sym, ◌∙◌}
use mathlib.Core.List.{List, []}
use Prim.Native.Nat.{ℕ, ◌≤◌}
use native.Mathlib.Omega.{arith}
use lib.ListN.{length}
use denote.Ref.{Bor}
use Rattle.item.specs.declared.heads.Head.{Head}
use Rattle.std.specs.Prelude.{Option, Some, None}
use Rattle.item.specs.declared.heads.Choice.{Choice}
use Rattle.item.specs.declared.heads.Choice.TheVariants.{First, Second, Neither}
use Rattle.fields.specs.Checked.{Checked, good, bad}
use Rattle.item.specs.Item.{Reading, read_item}
use Rattle.item.specs.Newer.{head_of, chosen, Returns}
use Rattle.item.specs.Claims.{EmptyIsNeither, RefusedIsNeither}
use Rattle.item.proofs.Items.{two_bytes}

-- a readable head is not empty
some : (s : List ℕ) (h : Head) → head_of (read_item s) ≡ Some h → 2 ≤ length s
some s x e = go (read_item s) refl e
  where
    go : (a : Checked Reading) → read_item s ≡ a → head_of a ≡ Some x → 2 ≤ length s
    go (good r) h e = two_bytes s r h
    go (bad x y) h e = absurd (let q : ◌≡◌ {A = ℕ} 0 1 = cc in omega arith)

only : (w : Choice) (a b r : Bor (List ℕ)) → Returns w a b r → r.now ≡ [] → 2 ≤ length a.now → 2 ≤ length b.now → w ≡ Neither
only First a b r h e la lb = absurd (omega (arith, ap length (ap (λ (x : Bor (List ℕ)). x.now) (sym h) ∙ e)))
only Second a b r h e la lb = absurd (omega (arith, ap length (ap (λ (x : Bor (List ℕ)). x.now) (sym h) ∙ e)))
only Neither a b r h e la lb = refl

pub empty_is_neither : EmptyIsNeither
empty_is_neither a b r h e = go (head_of (read_item a.now)) (head_of (read_item b.now)) refl refl h
  where
    go : (x y : Option Head) → head_of (read_item a.now) ≡ x → head_of (read_item b.now) ≡ y → Returns (chosen a.now b.now x y) a b r → chosen a.now b.now x y ≡ Neither
    go None y hx hy h = refl
    go (Some x) None hx hy h = refl
    go (Some x) (Some y) hx hy h = only _ a b r h e (some a.now x hx) (some b.now y hy)

pub refused_is_neither : RefusedIsNeither
refused_is_neither a b x y e = (rw e, go (head_of (read_item b)))
  where
    go : (h : Option Head) → chosen b a h (head_of (read_item a)) ≡ Neither
    go None = refl
    go (Some x) = rw e
