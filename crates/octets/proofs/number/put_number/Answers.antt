-- `octets::put_number` meets its contract. Assumes nothing.
use mathlib.Core.Path.{◌≡◌, sym, ap, ◌∙◌}
use mathlib.Core.List.{List}
use Prim.Native.Nat.{ℕ, ◌+◌, ◌-◌, ◌≤◌}
use native.Mathlib.Omega.{arith}
use lib.ListN.{length, take, drop}
use lib.Seq.{take_all}
use Rattle.octets.specs.Bytes.{put_within, copied}
use Rattle.octets.specs.Numbers.{width_of, be}
use Rattle.octets.proofs.Numbers.{be_length, be_tail}
use Rattle.octets.proofs.Putting.{copied_within}
use Rattle.octets.proofs.number.put_number.Goals as goal

-- the last bytes of a number's eight
last-bytes : (m w n : ℕ) (x y out : List ℕ) (at : ℕ) → m ≡ w → m ≤ 8 → x ≡ be 8 n → y ≡ copied x (8 - m) m out at → y ≡ put_within out at (be w n)
last-bytes m w n x y out at e h f g =
    let l : length x ≡ 8 = ap length f ∙ be_length 8 n in
    let z : 8 - m + m ≡ 8 = omega arith in
    let b : drop (8 - m) x ≡ be m n = ap (drop (8 - m)) f ∙ ap (λ (k : ℕ). drop (8 - m) (be k n)) (sym z) ∙ be_tail (8 - m) m n in
    g ∙ copied_within x (8 - m) m out at (omega arith) ∙ ap (put_within out at) (ap (take m) b ∙ take-be m n ∙ ap (λ (k : ℕ). be k n) e)
  where
    take-be : (k j : ℕ) → take k (be k j) ≡ be k j
    take-be k j = take_all k (be k j) (omega (arith, be_length k j))

pub returns : goal.returns
returns c =
    let w = c in
    let b = w in
    let a = b.args in
    last-bytes w.width_of-m.result (width_of a.w) a.n b.be8-digits.result _ a.out.now a.at w.width_of-m.ensures.0 w.width_of-m.ensures.2 b.be8-digits.ensures c.copy.ensures
