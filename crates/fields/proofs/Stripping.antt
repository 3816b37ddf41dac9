-- Elements without their lengths, one after the other; and what is copied of the path at a part. Assumes nothing.
use mathlib.Core.Path.{◌≡◌, refl, ap, sym, ◌∙◌}
use mathlib.Core.List.{List, ◌++◌}
use Prim.Native.Nat.{ℕ, zero, suc, ◌+◌, ◌-◌, ◌*◌, ◌/◌, ◌≤◌, ◌<◌}
use native.Mathlib.Omega.{arith}
use native.Mathlib.Nat.{zero-add}
use lib.ListN.{length, take, drop, length-append, length-drop}
use lib.Seq.{drop_at, length-take-le, drop-drop, take-take}
use borrow.Author.Tests.{lt-ltb, le-ltb}
use Rattle.fields.specs.declared.layout.Part.{Part}
use Rattle.fields.specs.declared.layout.Inner.TheVariants.{NodeList}
use Rattle.fields.specs.Checked.{good, Checked, bad}
use Rattle.fields.specs.Layout.{inside, bytes_at}
use Rattle.fields.specs.Write.{stripped, unwrap, fine}
use Rattle.fields.specs.Effect.{unwritten, effect}
use Rattle.fields.specs.Path.{path_at, copy_path}
use Rattle.fields.specs.Inner.{part}
use Rattle.octets.specs.Bytes.{put}
use Rattle.fields.proofs.Elements.{drop_take}
use Rattle.octets.proofs.Putting.{put_more}

-- one hash of an element
first_hash : (b : List ℕ) → 33 ≤ length b → length (take 32 (drop 1 b)) ≡ 32
first_hash b h = length-take-le 32 (drop 1 b) (rw length-drop (omega arith))

pub stripped_length : (n : ℕ) (b : List ℕ) → n * 33 ≤ length b → length (stripped n b) ≡ n * 32
unfolding stripped
stripped_length zero b h = omega arith
stripped_length (suc n) b h =
    let l = first_hash b (omega arith) in
    omega (arith, length-append (take 32 (drop 1 b)) (stripped n (drop 33 b)), stripped_length n (drop 33 b) (rw length-drop (omega arith)))

-- what is left after k hashes
stripped_drop : (k n : ℕ) (b : List ℕ) → k ≤ n → n * 33 ≤ length b → drop (k * 32) (stripped n b) ≡ stripped (n - k) (drop (k * 33) b)
unfolding stripped
stripped_drop zero n b h g = let z : n - 0 ≡ n = omega arith in rw z
stripped_drop (suc k) zero b h g = absurd (omega arith)
stripped_drop (suc k) (suc n) b h g =
    let l = first_hash b (omega arith) in
    let r = stripped n (drop 33 b) in
    let a : suc k * 33 ≡ 33 + k * 33 = omega arith in
    let c : suc k * 32 ≡ 32 + k * 32 = omega arith in
    let m : suc n - suc k ≡ n - k = omega arith in
    let i = stripped_drop k n (drop 33 b) (omega arith) (rw length-drop (omega arith)) in
    rw (a, c, m) (sym (drop-drop (k * 32) 32 (take 32 (drop 1 b) ++ r)) ∙ ap (drop (k * 32)) (drop_at (take 32 (drop 1 b)) r 32 l) ∙ i ∙ ap (stripped (n - k)) (drop-drop (k * 33) 33 b))

next_stripped : (k n : ℕ) (b : List ℕ) → k < n → n * 33 ≤ length b → drop (k * 32) (stripped n b) ≡ take 32 (drop (k * 33 + 1) b) ++ stripped (n - k - 1) (drop 33 (drop (k * 33) b))
unfolding stripped
next_stripped k n b h g =
    let z : n - k ≡ suc (n - k - 1) = omega arith in
    stripped_drop k n b (omega arith) g ∙ ap (λ (j : ℕ). stripped j (drop (k * 33) b)) z
    ∙ ap (λ (x : List ℕ). take 32 x ++ stripped (n - k - 1) (drop 33 (drop (k * 33) b))) (drop-drop 1 (k * 33) b)

-- one more hash put after those before
pub one_more : (out₀ out s : List ℕ) (start n k : ℕ) → start + n * 33 ≤ length s → n * 32 ≤ length out₀ → k < n → out ≡ put out₀ 0 (take (k * 32) (stripped n (drop start s))) → put out (k * 32) (take 32 (drop (start + k * 33 + 1) s)) ≡ put out₀ 0 (take ((k + 1) * 32) (stripped n (drop start s)))
one_more out₀ out s start n k g r h e =
    let b = drop start s in
    let lb : n * 33 ≤ length b = rw length-drop (omega arith) in
    let a : start + k * 33 + 1 ≡ start + (k * 33 + 1) = omega arith in
    let d : drop (start + k * 33 + 1) s ≡ drop (k * 33 + 1) b = ap (λ (j : ℕ). drop j s) a ∙ sym (drop-drop (k * 33 + 1) start s) in
    let l : length (take 32 (drop (k * 33 + 1) b)) ≡ 32 = length-take-le 32 (drop (k * 33 + 1) b) (rw (length-drop (k * 33 + 1) b) (omega arith)) in
    let q = stripped_length n b lb in
    let t = put_more out₀ (stripped n b) (take 32 (drop (k * 33 + 1) b)) _ 0 (k * 32) (omega arith) (omega arith) (next_stripped k n b h lb) in
    let m : k * 32 + length (take 32 (drop (k * 33 + 1) b)) ≡ (k + 1) * 32 = omega arith in
    rw (d, e) (rw (zero-add (k * 32)) at t ∙ ap (λ (j : ℕ). put out₀ 0 (take j (stripped n b))) m)

-- what is past n elements is not looked at
stripped_take : (n m : ℕ) (b : List ℕ) → n * 33 ≤ m → m ≤ length b → stripped n (take m b) ≡ stripped n b
unfolding stripped
stripped_take zero m b h g = refl
stripped_take (suc n) m b h g =
    let a : take 32 (drop 1 (take m b)) ≡ take 32 (drop 1 b) = ap (take 32) (drop_take 1 m b) ∙ take-take 32 (m - 1) (drop 1 b) (omega arith) in
    let c : drop 33 (take m b) ≡ take (m - 33) (drop 33 b) = drop_take 33 m b in
    rw (a, c) (ap (λ (x : List ℕ). take 32 (drop 1 b) ++ x) (stripped_take n (m - 33) (drop 33 b) (omega arith) (rw length-drop (omega arith))))

-- what is answered, case by case
module _ (s out : List ℕ) (p : Part) where
  pub outside : length s < p.start + p.len → copy_path s p out ≡ unwritten 2 p.start out
  unfolding copy_path path_at
  outside h = rw (lt-ltb _ _ h)

  module _ (h : p.start + p.len ≤ length s) where
    lies : part s p.start (p.start + p.len) ≡ bytes_at s p
    lies = let z : p.start + p.len - p.start ≡ p.len = omega arith in rw z

    found : (x : Checked Unit) → x ≡ inside NodeList (part s p.start (p.start + p.len)) p.start → path_at s p ≡ fine x (unwrap NodeList (bytes_at s p))
    unfolding path_at
    found x e = rw (le-ltb _ _ h, ← lies, ← e)

    pub wrong : (x at : ℕ) → bad x at ≡ inside NodeList (part s p.start (p.start + p.len)) p.start → copy_path s p out ≡ unwritten x at out
    unfolding copy_path
    wrong x at e = ap (effect out) (found (bad x at) e)

    module _ (e : (good tt) ≡ inside NodeList (part s p.start (p.start + p.len)) p.start) where
      size : length (bytes_at s p) ≡ p.len
      size = length-take-le p.len (drop p.start s) (rw length-drop (omega arith))

      hashes : List ℕ
      hashes = stripped (p.len / 33) (drop p.start s)

      hashes_length : length hashes ≡ p.len / 33 * 32
      unfolding hashes
      hashes_length = stripped_length (p.len / 33) (drop p.start s) (rw length-drop (omega arith))

      all : path_at s p ≡ good hashes
      unfolding hashes unwrap
      all =
          found (good tt) e ∙ ap good (ap (λ (n : ℕ). stripped (n / 33) (bytes_at s p)) size
          ∙ stripped_take (p.len / 33) p.len (drop p.start s) (omega arith) (rw length-drop (omega arith)))

      pub short : length out < p.len / 33 * 32 → copy_path s p out ≡ unwritten 9 0 out
      unfolding copy_path
      short g = let q : length out < length hashes = omega (arith, hashes_length) in rw (all, lt-ltb _ _ q)

      pub copied : p.len / 33 * 32 ≤ length out → (out' : List ℕ) → out' ≡ put out 0 (stripped (p.len / 33) (drop p.start s)) → (good (p.len / 33 * 32) ≡ (copy_path s p out).answer) × (out' ≡ (copy_path s p out).bytes)
      unfolding copy_path hashes
      copied g out' e =
          let q : length hashes ≤ length out = omega (arith, hashes_length) in
          rw (all, le-ltb _ _ q) (ap good (sym hashes_length), e ∙ ap (λ (i : ℕ). hashes ++ drop i out) (zero-add (length hashes)))
