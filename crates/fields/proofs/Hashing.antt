-- A path's elements and its joined hashes, and what is copied of a part. Assumes nothing.
use mathlib.Core.Path.{◌≡◌, refl, ap, ap₂, sym, ◌∙◌}
use mathlib.Core.List.{List, [], ◌∷◌, ◌++◌}
use mathlib.Core.Bool.{Bool, true, false, cond}
use Prim.Native.Nat.{ℕ, zero, suc, ◌+◌, ◌*◌, ◌/◌, ◌≤◌, ◌<◌}
use native.Mathlib.Omega.{arith}
use lib.ListN.{length, get_or, take, drop, length-append, length-drop, take-append-drop}
use lib.Dec.{ltb}
use lib.Seq.{take_at, drop_at, drop-drop, length-take-le}
use borrow.Author.Tests.{le-ltb, ltb-false}
use Rattle.fields.specs.declared.layout.Part.{Part}
use Rattle.fields.specs.declared.layout.Inner.TheVariants.{NodeList}
use Rattle.fields.specs.Checked.{good, bad, Checked}
use Rattle.octets.specs.Numbers.{be}
use Rattle.fields.specs.Layout.{inside, bytes_at}
use Rattle.fields.specs.Write.{prefixed, stripped, unwrap, fine}
use Rattle.fields.specs.Path.{encoded, path_at, copy_path}
use Rattle.octets.specs.Bytes.{joined}
use Rattle.fields.specs.Claims.{Each, CopiedIsJoined, JoinedIsCopied, CopyKeeps}
use Rattle.fields.proofs.Lent.{refused_keeps, past_keeps}
use Rattle.fields.proofs.Answers.{bad_good, same_good}
use Rattle.fields.proofs.Bodies.{path_hashes, strip}
use Rattle.fields.proofs.Places.{nodes_fine}

abbrev Ours : List (List ℕ) → Type 0
Ours hs = Each (λ h. length h ≡ 32) hs

-- joined hashes, each with its length in front
joined_length : (hs : List (List ℕ)) → Ours hs → length (joined hs) ≡ 32 * length hs
unfolding joined
joined_length [] o = refl
joined_length (h ∷ hs) o = omega (arith, length-append h (joined hs), o.0, joined_length hs o.1)

encoded_prefixed : (hs : List (List ℕ)) → Ours hs → encoded hs ≡ prefixed (length hs) (joined hs)
unfolding encoded joined prefixed be
encoded_prefixed [] o = refl
encoded_prefixed (h ∷ hs) o =
    rw (o.0, take_at h (joined hs) 32 o.0, drop_at h (joined hs) 32 o.0) (ap (λ (x : List ℕ). 32 ∷ (h ++ x)) (encoded_prefixed hs o.1))

joined_at : (hs : List (List ℕ)) → Ours hs → (i : ℕ) → i < length hs → take 32 (drop (32 * i) (joined hs)) ≡ get_or hs i []
unfolding joined
joined_at [] o i l = absurd (omega arith)
joined_at (h ∷ hs) o zero l = take_at h (joined hs) 32 o.0
joined_at (h ∷ hs) o (suc i) l =
    let z : 32 * suc i ≡ 32 + 32 * i = omega arith in
    let d : drop (32 * suc i) (h ++ joined hs) ≡ drop (32 * i) (joined hs) = ap (λ (k : ℕ). drop k (h ++ joined hs)) z ∙ sym (drop-drop (32 * i) 32 (h ++ joined hs)) ∙ ap (drop (32 * i)) (drop_at h (joined hs) 32 o.0) in
    ap (take 32) d ∙ joined_at hs o.1 i (omega arith)

-- k joined hashes, one by one
parted : ℕ → List ℕ → List (List ℕ)
parted zero w = []
parted (suc k) w = take 32 w ∷ parted k (drop 32 w)

parted_is : (k : ℕ) (w : List ℕ) → length w ≡ 32 * k → Ours (parted k w) × (joined (parted k w) ≡ w) × (length (parted k w) ≡ k)
unfolding joined parted
parted_is zero [] h = (tt, refl, refl)
parted_is zero (x ∷ w) h = absurd (omega arith)
parted_is (suc k) w h =
    let r = parted_is k (drop 32 w) (length-drop 32 w ∙ omega arith) in
    ((length-take-le 32 w (omega arith), r.0), ap (λ (x : List ℕ). take 32 w ++ x) r.1 ∙ take-append-drop 32 w, ap suc r.2)

-- a part that is copied
pub record WasCopied (s : List ℕ) (p : Part) (w : List ℕ) : Type 0 where
  pub within : p.start + p.len ≤ length s
  pub fine : inside NodeList (bytes_at s p) p.start ≡ good tt
  pub is : w ≡ unwrap NodeList (bytes_at s p)

pub was_copied : (s : List ℕ) (p : Part) (w : List ℕ) → path_at s p ≡ good w → WasCopied s p w
unfolding path_at
was_copied s p w e = go (ltb (length s) (p.start + p.len)) (inside NodeList (bytes_at s p) p.start) refl refl e
  where
    go : (b : Bool) (x : Checked Unit) → ltb (length s) (p.start + p.len) ≡ b → inside NodeList (bytes_at s p) p.start ≡ x → cond b (bad 2 p.start) (fine x (unwrap NodeList (bytes_at s p))) ≡ good w → WasCopied s p w
    go true x hb hx e = bad_good 2 p.start w e
    go false (bad y z) hb hx e = bad_good y z w e
    go false (good u) hb hx e = record { within = ltb-false _ _ hb; fine = hx; is = sym (same_good _ w e) }

pub copied_is : (s : List ℕ) (p : Part) → p.start + p.len ≤ length s → inside NodeList (bytes_at s p) p.start ≡ good tt → path_at s p ≡ good (unwrap NodeList (bytes_at s p))
unfolding path_at
copied_is s p h e = rw (le-ltb _ _ h, e)

-- what is copied are the hashes that stand there, and all such are copied
pub copied_is_joined : CopiedIsJoined
unfolding unwrap
copied_is_joined s p w e =
    let c = was_copied s p w e in
    let h = path_hashes (bytes_at s p) p.start c.fine in
    let k = h.count in
    let z : length (bytes_at s p) / 33 ≡ k = omega (arith, h.size) in
    let i : w ≡ stripped k (bytes_at s p) = c.is ∙ ap (λ (n : ℕ). stripped n (bytes_at s p)) z in
    let l : length w ≡ 32 * k = ap length i ∙ h.plain in
    let q = parted_is k w l in
    let hs = parted k w in
    let b : bytes_at s p ≡ encoded hs = sym h.again ∙ ap (prefixed k) (sym i) ∙ sym (encoded_prefixed hs q.0 ∙ ap₂ prefixed q.2 q.1) in
    record {
      within = c.within;
      hashes = hs;
      ours = q.0;
      item = b;
      path = sym q.1;
      size = omega (arith, q.2);
      each = λ j m. ap (λ (x : List ℕ). take 32 (drop (32 * j) x)) (sym q.1) ∙ joined_at hs q.0 j m;
    }

pub joined_is_copied : JoinedIsCopied
unfolding unwrap
joined_is_copied s p hs h o e =
    let b : bytes_at s p ≡ prefixed (length hs) (joined hs) = e ∙ encoded_prefixed hs o in
    let l = joined_length hs o in
    let f : inside NodeList (bytes_at s p) p.start ≡ good tt = ap (λ (x : List ℕ). inside NodeList x p.start) b ∙ nodes_fine (length hs) (joined hs) p.start l in
    let t = strip (length hs) (joined hs) l in
    let n : length (bytes_at s p) / 33 ≡ length hs = omega (arith, ap length b, t.1) in
    copied_is s p h f ∙ ap good (ap₂ stripped n b ∙ t.0)

-- a refused copy changes nothing
pub copy_keeps : CopyKeeps
unfolding copy_path
copy_keeps s p out = (refused_keeps (path_at s p) out, past_keeps (path_at s p) out)
