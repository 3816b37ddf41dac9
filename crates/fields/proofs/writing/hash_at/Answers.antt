use mathlib.Core.Path.{◌≡◌, refl, ap, sym, ◌∙◌}
use mathlib.Core.List.{List}
use Prim.Native.Nat.{ℕ, ◌+◌, ◌-◌, ◌≤◌}
use native.Mathlib.Omega.{arith}
use lib.ListN.{length, take, drop, length-drop}
use lib.Seq.{length-take-le}
use Rattle.octets.specs.Bytes.{put_within}
use Rattle.octets.proofs.Putting.{put_in, put_whole}
use Rattle.fields.proofs.writing.hash_at.Goals as goal

hash : (v z r : List ℕ) (at : ℕ) → at + 32 ≤ length v → length z ≡ 32 → r ≡ put_within z 0 (take (at + 32 - at) (drop at v)) → r ≡ take 32 (drop at v)
hash v z r at h l e =
    let k : at + 32 - at ≡ 32 = omega arith in
    let m : length (take 32 (drop at v)) ≡ 32 = length-take-le 32 (drop at v) (rw length-drop (omega arith)) in
    e ∙ ap (λ (j : ℕ). put_within z 0 (take j (drop at v))) k ∙ put_in z (take 32 (drop at v)) 0 (omega arith) ∙ put_whole z (take 32 (drop at v)) (l ∙ sym m)

pub returns : goal.returns
returns c = let s = c in hash s.args.v.now _ _ s.args.at s.requires refl c.put.ensures
