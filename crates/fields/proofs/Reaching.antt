-- A layout filled by places: each field with its value, how far it reaches, and what is answered where no buffer does. Assumes nothing.
use mathlib.Core.Path.{◌≡◌, refl, ap, sym, ◌∙◌}
use mathlib.Core.List.{List, [], ◌∷◌, ◌++◌}
use mathlib.Core.Bool.{Bool, true, false, cond}
use Prim.Native.Nat.{ℕ, zero, suc, ◌+◌, ◌≤◌, ◌<◌}
use native.Mathlib.Omega.{arith}
use native.Mathlib.Nat.{zero-add}
use lib.ListN.{length, get_or, get_or-map, take, drop, length-append}
use lib.Dec.{ltb}
use lib.Seq.{get_or-take, get_or-drop, length-take-le}
use borrow.Author.Tests.{lt-ltb, le-ltb, ltb-true}
use Rattle.std.specs.Borrow.{Bor}
use Rattle.octets.specs.Bytes.{put}
use Rattle.octets.specs.declared.number.Width.TheVariants.{One}
use Rattle.fields.specs.declared.layout.Field.{Field}
use Rattle.fields.specs.declared.layout.Field.TheVariants.{Uint}
use Rattle.fields.specs.Checked.{Checked, good, bad, then, moved}
use Rattle.fields.specs.Write.{Value, fill, Filled, join, write, held, behind, filled_by}
use Rattle.fields.specs.Effect.{longest, within, unwritten, wrote, effect}
use Rattle.fields.specs.Inner.{ends, reached, written, Good}
use Rattle.fields.specs.Claims.{layout}
use Rattle.fields.proofs.Answers.{bad_good, good_bad, same_good, same_place}
use Rattle.fields.proofs.Fills.{most, fill_short, fill_near, fill_moved}
use Rattle.fields.proofs.Filling.{nothing}

-- reading one of some references is reading what is behind them
pub behind_at : (vs : List (Bor (List ℕ))) (i : ℕ) → (get_or vs i (record { ref_ptr = (0, 0); now = [] })).now ≡ get_or (behind vs) i []
behind_at vs i = sym (get_or-map (λ (v : Bor (List ℕ)). v.now) vs i (record { ref_ptr = (0, 0); now = [] }))

pub filled_by_length : (fs : List Field) (ns : List ℕ) (vs : List (List ℕ)) → length (filled_by fs ns vs) ≡ length fs
filled_by_length [] ns vs = refl
filled_by_length (f ∷ fs) ns vs = ap suc (filled_by_length fs (drop 1 ns) (drop 1 vs))

pub filled_by_layout : (fs : List Field) (ns : List ℕ) (vs : List (List ℕ)) → layout (filled_by fs ns vs) ≡ fs
filled_by_layout [] ns vs = refl
filled_by_layout (f ∷ fs) ns vs = ap (λ (l : List Field). f ∷ l) (filled_by_layout fs (drop 1 ns) (drop 1 vs))

-- a field with the number and the bytes of its place
abbrev pub filled_at : Field → ℕ → List ℕ → Filled
filled_at f n v = record { field = f; value = held f n v }

filled_by_at : (fs : List Field) (ns : List ℕ) (vs : List (List ℕ)) (i : ℕ) → i < length fs → get_or (filled_by fs ns vs) i nothing ≡ filled_at (get_or fs i (Uint One)) (get_or ns i 0) (get_or vs i [])
filled_by_at [] ns vs i h = absurd (omega arith)
filled_by_at (f ∷ fs) ns vs zero h = refl
filled_by_at (f ∷ fs) ns vs (suc i) h =
    let one : 1 + i ≡ suc i = omega arith in
    filled_by_at fs (drop 1 ns) (drop 1 vs) i (omega arith)
    ∙ rw (get_or-drop 1 ns i 0, get_or-drop 1 vs i [], one)

module _ (fields : List Field) (ns : List ℕ) (vs : List (List ℕ)) (k : ℕ) (fit : k ≤ length fields) where
  abbrev pub firsts : List Filled
  firsts = filled_by (take k fields) ns vs

  pub firsts_count : length (filled_by (take k fields) ns vs) ≡ k
  firsts_count = filled_by_length (take k fields) ns vs ∙ length-take-le k fields fit

  pub firsts_at : (i : ℕ) → i < k → get_or (filled_by (take k fields) ns vs) i nothing ≡ filled_at (get_or fields i (Uint One)) (get_or ns i 0) (get_or vs i [])
  firsts_at i h =
      filled_by_at (take k fields) ns vs i (rw (length-take-le k fields fit) h)
      ∙ ap (λ (f : Field). filled_at f (get_or ns i 0) (get_or vs i [])) (get_or-take k fields i (Uint One) h)

-- a field's refusal lies between its start and the most that it takes
fill_between : (f : Field) (v : Value) (at x y : ℕ) → fill f v at ≡ bad x y → (at ≤ y) × (y ≤ at + most f)
fill_between f v at x y e = go (fill f v 0) refl (sym (fill_moved f v at) ∙ e)
  where
    go : (a : Checked (List ℕ)) → fill f v 0 ≡ a → moved at a ≡ bad x y → (at ≤ y) × (y ≤ at + most f)
    go (good b) h e = good_bad x y b e
    go (bad u z) h e =
        let q = same_place u x (at + z) y e in
        (omega arith, omega (arith, fill_near f v u z h))

-- the most bytes that all fields of a layout take
abbrev pub most_all : List Field → ℕ
most_all [] = 0
most_all (f ∷ fs) = most f + most_all fs

write_between : (fs : List Filled) (at x y : ℕ) → write fs at ≡ bad x y → (at ≤ y) × (y ≤ at + most_all (layout fs))
unfolding write
write_between [] at x y e = good_bad x y [] e
write_between (f ∷ fs) at x y e = go (fill f.field f.value at) refl e (λ n. write_between fs n x y)
  where
    go : (a : Checked (List ℕ)) → fill f.field f.value at ≡ a → then a (λ b. join b (write fs (at + length b))) ≡ bad x y → ((n : ℕ) → write fs n ≡ bad x y → (n ≤ y) × (y ≤ n + most_all (layout fs))) → (at ≤ y) × (y ≤ at + (most f.field + most_all (layout fs)))
    go (bad u z) h e less = let k = fill_between f.field f.value at x y (h ∙ e) in (k.0, omega (arith, k.1))
    go (good b) h e less = more (write fs (at + length b)) refl e
      where
        more : (a : Checked (List ℕ)) → write fs (at + length b) ≡ a → join b a ≡ bad x y → (at ≤ y) × (y ≤ at + (most f.field + most_all (layout fs)))
        more (good c) ha e = good_bad x y _ e
        more (bad u z) ha e =
            let k = less (at + length b) (ha ∙ e) in
            (omega (arith, k.0), omega (arith, k.1, fill_short f.field f.value at b h))

-- and what is written is no longer
pub write_short : (fs : List Filled) (at : ℕ) (b : List ℕ) → write fs at ≡ good b → length b ≤ most_all (layout fs)
unfolding write
write_short [] at b e = omega (arith, ap length (same_good [] b e))
write_short (f ∷ fs) at b e = go (fill f.field f.value at) refl e (λ c. write_short fs (at + length c))
  where
    go : (x : Checked (List ℕ)) → fill f.field f.value at ≡ x → then x (λ c. join c (write fs (at + length c))) ≡ good b → ((c d : List ℕ) → write fs (at + length c) ≡ good d → length d ≤ most_all (layout fs)) → length b ≤ most f.field + most_all (layout fs)
    go (bad x y) h e less = bad_good x y b e
    go (good c) h e less = deep (write fs (at + length c)) refl e
      where
        deep : (a : Checked (List ℕ)) → write fs (at + length c) ≡ a → join c a ≡ good b → length b ≤ most f.field + most_all (layout fs)
        deep (bad x y) k e = bad_good x y b e
        deep (good d) k e = omega (arith, ap length (same_good (c ++ d) b e), length-append c d, less c d k, fill_short f.field f.value at c h)

-- where a layout takes little, every place is one that a buffer can have
pub within_write : (fs : List Filled) → most_all (layout fs) ≤ longest → within (write fs 0) ≡ write fs 0
within_write fs h = go (write fs 0) refl
  where
    go : (a : Checked (List ℕ)) → write fs 0 ≡ a → within a ≡ a
    go (good b) e = refl
    go (bad x y) e =
        let k : y ≤ 9223372036854775807 = omega (arith, (write_between fs 0 x y e).1) in
        rw (le-ltb _ _ k)

-- what comes past the longest buffer
pub reached_far : (fs : List Filled) (at : ℕ) → longest < at → reached (ends at (write fs at)) ≡ bad 9 0
reached_far fs at h = go (write fs at) refl
  where
    go : (a : Checked (List ℕ)) → write fs at ≡ a → reached (ends at a) ≡ bad 9 0
    go (good b) e = let l : longest < at + length b = omega arith in rw (lt-ltb _ _ l)
    go (bad x y) e = let l : longest < y = omega (arith, (write_between fs at x y e).0) in rw (lt-ltb _ _ l)

pub reached_not : (x y : ℕ) → y ≤ longest → reached (bad x y) ≡ bad x y
reached_not x y h = rw (le-ltb _ _ h)

pub reached_past : (x y : ℕ) → longest < y → reached (bad x y) ≡ bad 9 0
reached_past x y h = rw (lt-ltb _ _ h)

pub reached_takes : (m : ℕ) → m ≤ longest → reached (good m) ≡ good m
reached_takes m h = rw (le-ltb _ _ h)

-- what the first pass says of the whole
pub measured_not : (a : Checked (List ℕ)) (out : List ℕ) (x y : ℕ) → length out ≤ longest → reached (ends 0 a) ≡ bad x y → effect out (within a) ≡ unwritten x y out
measured_not (good b) out x y h e = go (ltb longest (0 + length b)) refl e
  where
    go : (c : Bool) → ltb longest (0 + length b) ≡ c → cond c (bad 9 0) (good (0 + length b)) ≡ bad x y → effect out (good b) ≡ unwritten x y out
    go true hc e =
        let l : length out < length b = omega (arith, ltb-true longest (0 + length b) hc) in
        let z : 9 ≡ x = cc in
        let w : 0 ≡ y = cc in
        rw (lt-ltb _ _ l, z, w)
    go false hc e = good_bad x y (0 + length b) e
measured_not (bad u v) out x y h e = go (ltb longest v) e
  where
    go : (c : Bool) → ◌≡◌ {A = Checked ℕ} (cond c (bad 9 0) (bad u v)) (bad x y) → effect out (cond c (bad 9 0) (bad u v)) ≡ unwritten x y out
    go true e = let z : 9 ≡ x = cc in let w : 0 ≡ y = cc in rw (z, w)
    go false e = let z : u ≡ x = cc in let w : v ≡ y = cc in rw (z, w)

pub record Measured (a : Checked (List ℕ)) (m : ℕ) : Type 0 where
  pub fine : Good a
  pub size : m ≡ length (written a)
  pub is : a ≡ good (written a)

pub measured_takes : (a : Checked (List ℕ)) (m : ℕ) → reached (ends 0 a) ≡ good m → Measured a m
measured_takes (good b) m e = go (ltb longest (0 + length b)) e
  where
    go : (c : Bool) → cond c (bad 9 0) (good (0 + length b)) ≡ good m → Measured (good b) m
    go true e = bad_good 9 0 m e
    go false e = record { fine = tt; size = omega (arith, same_good (0 + length b) m e); is = refl }
measured_takes (bad x y) m e = go (ltb longest y) e
  where
    go : (c : Bool) → cond c (bad 9 0) (bad x y) ≡ good m → Measured (bad x y) m
    go true e = bad_good 9 0 m e
    go false e = bad_good x y m e

-- what is then answered and left
module _ (a : Checked (List ℕ)) (m : ℕ) (out : List ℕ) (e : reached (ends 0 a) ≡ good m) where
  good_whole : effect out (within a) ≡ effect out (good (written a))
  good_whole = ap (λ (x : Checked (List ℕ)). effect out (within x)) (measured_takes a m e).is

  pub measured_short : length out < m → effect out (within a) ≡ unwritten 9 0 out
  measured_short h =
      let l : length out < length (written a) = omega (arith, (measured_takes a m e).size) in
      good_whole ∙ rw (lt-ltb _ _ l)

  pub measured_done : m ≤ length out → (out₁ : List ℕ) → out₁ ≡ put out 0 (written a) → (good m ≡ (effect out (within a)).answer) × (out₁ ≡ (effect out (within a)).bytes)
  measured_done h out₁ p =
      let k = (measured_takes a m e).size in
      let l : length (written a) ≤ length out = omega arith in
      let w : effect out (within a) ≡ wrote (written a) out = good_whole ∙ rw (le-ltb _ _ l) in
      rw w (ap good k, p ∙ ap (λ (i : ℕ). written a ++ drop i out) (zero-add (length (written a))))
