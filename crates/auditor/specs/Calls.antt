-- Lists of calls that an auditor gets, and what they answer. Assumes nothing: these are definitions.
use Rattle.std.specs.Prelude.{◌≡◌, List, [], ◌∷◌, ℕ, zero, suc}
use Rattle.auditor.specs.declared.Record.{Record}
use Rattle.auditor.specs.declared.Answered.{Answered}
use Rattle.auditor.specs.Held.{Held}
use Rattle.auditor.specs.Offer.{offer_number, kept, offered}
use Rattle.auditor.specs.Page.{page_number, asked}
use Rattle.auditor.specs.Heads.{Heads, end, then}

-- a call with all its arguments
pub data Call : Type 0 where
  offer : (id : List ℕ) (time size : ℕ) (root path : List ℕ) → Call
  ask : (place : ℕ) (page path : List ℕ) → Call

-- a call and the number it answered: accepted is 0
pub data Entry : Type 0 where
  answered : Call → ℕ → Entry

-- a call, or an entry, with the number of the hash that the call names
pub data Numbered (A : Type 0) : Type 0 where
  under : ℕ → A → Numbered A

-- without the numbers
unfoldable pub plain : {A : Type 0} → List (Numbered A) → List A
plain [] = []
plain (under n a ∷ l) = a ∷ plain l

-- the code's calls: the first is given the record r, each later one the record that the call before returned, refused or not
unfoldable pub called : Record → Numbered Call → Answered
called r (under n (offer id time size root path)) = offered n r id time size root path
called r (under n (ask place page path)) = asked n r place page path

-- what a call answered, with its number
unfoldable pub entry : Numbered Call → ℕ → Numbered Entry
entry (under n c) k = under n (answered c k)

unfoldable pub answers : Record → List (Numbered Call) → List (Numbered Entry)
answers r [] = []
answers r (c ∷ calls) = entry c (called r c).number ∷ answers (called r c).after calls

-- the code's record after them
unfoldable pub final : Record → List (Numbered Call) → Record
final r [] = r
final r (c ∷ calls) = final (called r c).after calls

-- the same in the paper's terms, over any hash H
module _ (H : List ℕ → List ℕ) where
  unfoldable pub paper_number : Held → Call → ℕ
  paper_number held (offer id time size root path) = offer_number H held id time size root path
  paper_number held (ask place page path) = page_number H held place page path

  -- the record after a call that answered a number
  unfoldable pub paper_after : Held → Call → ℕ → Held
  paper_after held (offer id time size root path) n = kept held id time size root n
  paper_after held (ask place page path) n = held

  unfoldable pub run : Held → List Call → List Entry
  run held [] = []
  run held (c ∷ calls) = answered c (paper_number held c) ∷ run (paper_after held c (paper_number held c)) calls

-- the number of every accepted call is this one
unfoldable pub AllUnder : ℕ → List (Numbered Entry) → Type 0
AllUnder n [] = Unit {0}
AllUnder n (under m (answered c zero) ∷ entries) = (m ≡ n) × AllUnder n entries
AllUnder n (under m (answered c (suc k)) ∷ entries) = AllUnder n entries

-- the call of an entry
unfoldable pub call_of : Numbered Entry → Numbered Call
call_of (under n (answered c k)) = under n c

-- the entries of accepted calls
unfoldable pub accepted : List (Numbered Entry) → List (Numbered Entry)
accepted [] = []
accepted (under n (answered c zero) ∷ entries) = under n (answered c zero) ∷ accepted entries
accepted (under n (answered c (suc k)) ∷ entries) = accepted entries

-- the heads accepted, in order, by the arguments of their offers
unfoldable pub heads : List Entry → Heads
heads [] = end
heads (answered (offer id time size root path) zero ∷ entries) = then size root path (heads entries)
heads (answered (offer id time size root path) (suc n) ∷ entries) = heads entries
heads (answered (ask place page path) n ∷ entries) = heads entries
