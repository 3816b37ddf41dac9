-- What an answer leaves in the lent bytes. Assumes nothing.
use mathlib.Core.Path.{◌≡◌, refl, ap, sym, ◌∙◌}
use mathlib.Core.List.{List, ◌++◌}
use mathlib.Core.Bool.{Bool, true, false, cond}
use Prim.Native.Nat.{ℕ}
use lib.ListN.{length, drop}
use lib.Dec.{ltb}
use lib.Seq.{drop_at}
use borrow.Author.Tests.{lt-ltb, le-ltb}
use Rattle.fields.specs.Checked.{Checked, good, bad}
use Rattle.fields.specs.Effect.{Effect, unwritten, wrote, effect}
use Rattle.fields.specs.Claims.{RoomLast}
use Rattle.fields.proofs.Answers.{bad_good, good_bad, same_good}

-- what is put into lent bytes
pub record Put (a : Checked (List ℕ)) (out : List ℕ) (m : ℕ) : Type 0 where
  pub bytes : List ℕ
  pub is : a ≡ good bytes
  pub size : m ≡ length bytes
  pub after : (effect out a).bytes ≡ bytes ++ drop m out

pub was_put : (a : Checked (List ℕ)) (out : List ℕ) (m : ℕ) → (effect out a).answer ≡ good m → Put a out m
was_put (bad x y) out m e = bad_good x y m e
was_put (good b) out m e = go (ltb (length out) (length b)) refl e
  where
    go : (q : Bool) → ltb (length out) (length b) ≡ q → ◌≡◌ {A = Checked ℕ} (cond {A = Effect} q (unwritten 9 0 out) (wrote b out)).answer (good m) → Put (good b) out m
    go true h e = bad_good 9 0 m e
    go false h e = let z = same_good (length b) m e in record { bytes = b; is = refl; size = sym z; after = rw h (ap (λ (i : ℕ). b ++ drop i out) z) }

-- a refusal changes nothing, and bytes past what was put stay
pub refused_keeps : (a : Checked (List ℕ)) (out : List ℕ) (x at : ℕ) → (effect out a).answer ≡ bad x at → (effect out a).bytes ≡ out
refused_keeps (bad y z) out x at e = refl
refused_keeps (good b) out x at e = last (ltb (length out) (length b)) e
  where
    last : (q : Bool) → ◌≡◌ {A = Checked ℕ} (cond {A = Effect} q (unwritten 9 0 out) (wrote b out)).answer (bad x at) → (cond {A = Effect} q (unwritten 9 0 out) (wrote b out)).bytes ≡ out
    last true e = refl
    last false e = good_bad x at _ e

pub past_keeps : (a : Checked (List ℕ)) (out : List ℕ) (m : ℕ) → (effect out a).answer ≡ good m → drop m (effect out a).bytes ≡ drop m out
past_keeps a out m e = let p = was_put a out m e in ap (drop m) p.after ∙ drop_at p.bytes (drop m out) m (sym p.size)

-- the room is asked for last
pub room_last_lem : RoomLast
room_last_lem a out =
    ((λ x y e. rw e), (λ b e l. rw (e, lt-ltb _ _ l)), λ b e l. rw (e, le-ltb _ _ l))
