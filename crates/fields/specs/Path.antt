-- A path as it lies in an item, and as the verdicts take it (RFC 9162, sections 4.9, 4.11 and 4.12; document 01, 'Items'). Assumes nothing.
use Rattle.std.specs.Prelude.{ℕ, ◌+◌, List, [], ◌∷◌, ◌++◌, cond, length, ltb}
use Rattle.octets.specs.Numbers.{be}
use Rattle.fields.specs.declared.layout.Part.{Part}
use Rattle.fields.specs.declared.layout.Inner.TheVariants.{NodeList}
use Rattle.fields.specs.Checked.{Checked, bad}
use Rattle.fields.specs.Layout.{inside, bytes_at}
use Rattle.fields.specs.Write.{fine, unwrap}
use Rattle.fields.specs.Effect.{Effect, effect}

-- NodeHash is an opaque vector <32..2^8-1> (section 4.9): its length in one byte, then its bytes. A vector's elements stand one after the other.
unfoldable pub encoded : List (List ℕ) → List ℕ
encoded [] = []
encoded (h ∷ hs) = (be 1 (length h) ++ h) ++ encoded hs

-- The joined hashes of the path that lies at a part. A part that does not lie in the bytes is a field cut short, where it starts; an element that is
-- not of ours is refused as the reader refuses it, where it starts. The part's number is not looked at.
unfoldable pub path_at : List ℕ → Part → Checked (List ℕ)
path_at s p =
    cond (ltb (length s) (p.start + p.len)) (bad 2 p.start)
    (fine (inside NodeList (bytes_at s p) p.start) (unwrap NodeList (bytes_at s p)))

-- put into the lent bytes; 9 at 0 where they are too short for it
unfoldable pub copy_path : List ℕ → Part → List ℕ → Effect
copy_path s p out = effect out (path_at s p)
