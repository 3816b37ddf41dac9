-- What the functions that read and write promise each other below the public promises, here and in the formats above. A reader of the public promises needs
-- none of it. Assumes nothing.
use Rattle.std.specs.Prelude.{ℕ, ◌+◌, ◌-◌, List, [], cond, length, take, drop, ltb}
use Rattle.fields.specs.Checked.{Checked, good, bad}
use Rattle.fields.specs.Effect.{longest}

-- the bytes from a place up to another
abbrev pub part : List ℕ → ℕ → ℕ → List ℕ
part s at end = take (end - at) (drop at s)

-- where some fields from a place on end
abbrev pub ends : ℕ → Checked (List ℕ) → Checked ℕ
ends at (good b) = good (at + length b)
ends at (bad x y) = bad x y

-- where they end, if a buffer can reach there
abbrev pub reached : Checked ℕ → Checked ℕ
reached (good n) = cond (ltb longest n) (bad 9 0) (good n)
reached (bad x y) = cond (ltb longest y) (bad 9 0) (bad x y)

-- the bytes of an answer that is good
abbrev pub written : Checked (List ℕ) → List ℕ
written (good b) = b
written (bad x at) = []

abbrev pub Good : Checked (List ℕ) → Type 0
Good (good b) = Unit
Good (bad x at) = ⊥
