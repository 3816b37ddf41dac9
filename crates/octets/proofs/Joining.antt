-- The laws of joining. Assumes nothing.
use mathlib.Core.Path.{◌≡◌, refl, ap, sym, ◌∙◌}
use mathlib.Core.List.{List, [], ◌∷◌, ◌++◌, append_assoc, append-nil}
use Prim.Native.Nat.{ℕ}
use Rattle.octets.specs.Bytes.{joined}
use Rattle.octets.specs.Claims.{JoinedIs}

joined_one : (s : List ℕ) → joined (s ∷ []) ≡ s
unfolding joined
joined_one s = append-nil s

pub joined_append : (a b : List (List ℕ)) → joined (a ++ b) ≡ joined a ++ joined b
unfolding joined
joined_append [] b = refl
joined_append (s ∷ a) b = ap (λ (x : List ℕ). s ++ x) (joined_append a b) ∙ sym (append_assoc s (joined a) (joined b))

pub joined_is : JoinedIs
joined_is = (joined_one, joined_append)
