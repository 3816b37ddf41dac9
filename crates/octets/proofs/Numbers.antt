-- Laws of big-endian numbers. Assumes nothing.
use mathlib.Core.Path.{◌≡◌, refl, ap, ap₂, sym, ◌∙◌}
use mathlib.Core.List.{List, [], ◌∷◌, ◌++◌}
use Prim.Native.Nat.{ℕ, zero, suc, ◌+◌, ◌-◌, ◌*◌, ◌^◌, ◌/◌, ◌%◌, ◌≤◌, ◌<◌}
use native.Mathlib.Omega.{arith}
use native.Mathlib.Numerals.{add-one}
use native.Mathlib.Nat.{pow-suc, pow-le-pow_right, mul_assoc, mul_comm, suc-mul, mul-add-div_right, div-eq_of_lt, mod-eq_of_lt, mul-le-mul_right, add-zero, zero-add, suc-add, lt_of_lt_of_le}
use lib.ListN.{length, get_or, take, drop, length-append, length-drop, drop_of_length-le}
use lib.Seq.{take-suc, take-nil, take_all, get_or-drop}
use lib.Arith.{mod-mul}
use Rattle.octets.specs.Bytes.{Bytes, no_bytes, one_byte}
use Rattle.octets.specs.Numbers.{unbe, be}

-- one more byte at the end
pub unbe_snoc : (xs : List ℕ) (b : ℕ) → unbe (xs ++ (b ∷ [])) ≡ unbe xs * 256 + b
unfolding unbe
unbe_snoc [] b = omega arith
unbe_snoc (x ∷ xs) b =
    let e = unbe_snoc xs b in
    let l : length (xs ++ (b ∷ [])) ≡ suc (length xs) = length-append xs (b ∷ []) ∙ omega arith in
    let m : x * 256 ^ suc (length xs) ≡ x * 256 ^ length xs * 256 = ap (λ (k : ℕ). x * k) (pow-suc 256 (length xs)) ∙ sym (mul_assoc x (256 ^ length xs) 256) in
    ap₂ (λ (a b : ℕ). x * 256 ^ a + b) l e ∙ omega (arith, m)

-- one more byte of a list
pub unbe_more : (s : List ℕ) (at i : ℕ) → at + i < length s → unbe (take (i + 1) (drop at s)) ≡ unbe (take i (drop at s)) * 256 + get_or s (at + i) 0
unbe_more s at i h =
    let l : i < length (drop at s) = simp length-drop (omega arith) in
    rw (add-one, take-suc (drop at s) i 0 l, get_or-drop) (unbe_snoc (take i (drop at s)) (get_or s (at + i) 0))

pub pow_some : (w : ℕ) → 0 < 256 ^ w
pow_some zero = omega arith
pow_some (suc w) = let h = pow_some w in rw pow-suc (omega arith)

pub pow_small : (i : ℕ) → i ≤ 7 → 256 ^ i ≤ 72057594037927936
pow_small i h = pow-le-pow_right {n = 256} (omega arith) {i = i} {j = 7} h

pub be_length : (w n : ℕ) → length (be w n) ≡ w
unfolding be
be_length zero n = refl
be_length (suc w) n = ap suc (be_length w n)

-- what the last w bytes of a number are the number of
pub unbe_low : (w n : ℕ) → unbe (be w n) ≡ n % 256 ^ w
unfolding be unbe
unbe_low zero n = omega arith
unbe_low (suc w) n =
    ap₂ (λ (a b : ℕ). n / 256 ^ w % 256 * 256 ^ a + b) (be_length w n) (unbe_low w n)
    ∙ sym (ap (λ (k : ℕ). n % k) (pow-suc 256 w ∙ mul_comm (256 ^ w) 256) ∙ mod-mul n {m = 256} {c = 256 ^ w} (omega arith) (pow_some w))

pub unbe_be : (w n : ℕ) → n < 256 ^ w → unbe (be w n) ≡ n
unbe_be w n h = unbe_low w n ∙ mod-eq_of_lt h

pub unbe_below : {xs : List ℕ} → Bytes xs → unbe xs < 256 ^ length xs
unfolding unbe
unbe_below no_bytes = omega arith
unbe_below (one_byte {b = b} {bs = bs} h t) =
    let u = unbe_below t in
    let m : suc b * 256 ^ length bs ≤ 256 * 256 ^ length bs = mul-le-mul_right (256 ^ length bs) h in
    let e : suc b * 256 ^ length bs ≡ 256 ^ length bs + b * 256 ^ length bs = omega (arith, suc-mul b (256 ^ length bs)) in
    rw pow-suc (omega arith)

-- bytes above the last w change none of them
be_above : (w k u : ℕ) → be w (k * 256 ^ w + u) ≡ be w u
unfolding be
be_above zero k u = refl
be_above (suc w) k u =
    let p = 256 ^ w in
    let q : k * 256 ^ suc w ≡ k * 256 * p = ap (λ (j : ℕ). k * j) (pow-suc 256 w ∙ mul_comm p 256) ∙ sym (mul_assoc k 256 p) in
    let d : (k * 256 * p + u) / p ≡ k * 256 + u / p = mul-add-div_right (pow_some w) (k * 256) u in
    let h : (k * 256 * p + u) / p % 256 ≡ u / p % 256 = ap (λ (j : ℕ). j % 256) d ∙ omega arith in
    ap (λ (j : ℕ). (j + u) / p % 256 ∷ be w (j + u)) q ∙ ap₂ (λ (x : ℕ) (l : List ℕ). x ∷ l) h (be_above w (k * 256) u)

-- bytes read as a number and written again
pub be_unbe : {xs : List ℕ} → Bytes xs → be (length xs) (unbe xs) ≡ xs
unfolding be unbe
be_unbe no_bytes = refl
be_unbe (one_byte {b = b} {bs = bs} h t) =
    let p = 256 ^ length bs in
    let u : unbe bs < p = unbe_below t in
    let d : (b * p + unbe bs) / p ≡ b = mul-add-div_right (pow_some (length bs)) b (unbe bs) ∙ ap (λ (k : ℕ). b + k) (div-eq_of_lt u) ∙ add-zero b in
    let m : (b * p + unbe bs) / p % 256 ≡ b = ap (λ (k : ℕ). k % 256) d ∙ mod-eq_of_lt h in
    ap₂ (λ (x : ℕ) (l : List ℕ). x ∷ l) m (be_above (length bs) b (unbe bs) ∙ be_unbe t)

-- what is written of a number are bytes
low : (y : ℕ) → y % 256 < 256
low y = omega arith

pub be_bytes : (w n : ℕ) → Bytes (be w n)
unfolding be
be_bytes zero n = no_bytes
be_bytes (suc w) n = one_byte (low (n / 256 ^ w)) (be_bytes w n)

-- the last bytes of a number
pub be_tail : (k w n : ℕ) → drop k (be (k + w) n) ≡ be w n
unfolding be
be_tail zero w n = ap (λ (j : ℕ). be j n) (zero-add w)
be_tail (suc k) w n = ap (λ (j : ℕ). drop (suc k) (be j n)) (suc-add k w) ∙ be_tail k w n

-- a number at a place where no byte, or fewer bytes, are there
pub none_there : (s : List ℕ) (at w : ℕ) → length s < at → (0 ≡ unbe (take w (drop at s))) × (0 < 256 ^ w)
unfolding unbe
none_there s at w h = (sym (ap (λ (l : List ℕ). unbe (take w l)) (drop_of_length-le s {i = at} (omega arith)) ∙ ap unbe (take-nil w)), pow_some w)

pub fewer_there : (s : List ℕ) (at w n k : ℕ) → k ≡ length s - at → k < w → n ≡ unbe (take k (drop at s)) → n < 256 ^ k →
    (n ≡ unbe (take w (drop at s))) × (n < 256 ^ w)
fewer_there s at w n k e h is low =
    let p : 256 ^ k ≤ 256 ^ w = pow-le-pow_right {n = 256} (omega arith) {i = k} {j = w} (omega arith) in
    let l : length (drop at s) ≡ k = length-drop at s ∙ sym e in
    let t : take k (drop at s) ≡ take w (drop at s) = take_all k (drop at s) (omega arith) ∙ sym (take_all w (drop at s) (omega arith)) in
    (is ∙ ap unbe t, lt_of_lt_of_le low p)
