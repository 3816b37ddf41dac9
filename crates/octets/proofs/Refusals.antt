-- The laws of refusals by their numbers. Assumes nothing.
use Rattle.std.proofs.Common.{◌≡◌, ℕ, ◌<◌, Result, Ok, Err, IsOk, refl, sym, ap, ◌∙◌, ◌↔◌, [], ◌∷◌, get_or, true≢false, arith}
use Rattle.octets.specs.Answer.{Faithful}
use Rattle.octets.specs.declared.refusal.Refusal.{Refusal}
use Rattle.octets.specs.declared.refusal.Refusal.TheVariants.{TooLong, CutShort, BytesAfter, UnknownType, Length, OutOfRange, NodeCount, RootDisagrees}
use Rattle.octets.specs.declared.refusal.Refusal.TheVariants.{NoRoom, Joined, OtherLog, EarlierTimestamp, OtherRoot, NoHead, OutOfOrder, UnknownHash}
use Rattle.octets.specs.Refusals.{refusal_number, answered, told}
use Rattle.octets.specs.Claims.{RefusalsTellApart, AnswersTellApart}

-- the refusal that has a number
numbered : ℕ → Refusal
numbered n =
    get_or
    (TooLong ∷ TooLong ∷ CutShort ∷ BytesAfter ∷ UnknownType ∷ Length ∷ OutOfRange ∷ NodeCount ∷ RootDisagrees ∷
    NoRoom ∷ Joined ∷ OtherLog ∷ EarlierTimestamp ∷ OtherRoot ∷ NoHead ∷ OutOfOrder ∷ []) n UnknownHash

numbered_number : (r : Refusal) → numbered (refusal_number r) ≡ r
unfolding numbered
numbered_number TooLong = refl
numbered_number CutShort = refl
numbered_number BytesAfter = refl
numbered_number UnknownType = refl
numbered_number Length = refl
numbered_number OutOfRange = refl
numbered_number NodeCount = refl
numbered_number RootDisagrees = refl
numbered_number NoRoom = refl
numbered_number Joined = refl
numbered_number OtherLog = refl
numbered_number EarlierTimestamp = refl
numbered_number OtherRoot = refl
numbered_number NoHead = refl
numbered_number OutOfOrder = refl
numbered_number UnknownHash = refl

pub refusal_number_faithful : (r s : Refusal) → refusal_number r ≡ refusal_number s → r ≡ s
refusal_number_faithful r s e = sym (numbered_number r) ∙ ap numbered e ∙ numbered_number s

pub refusal_number_pos : (r : Refusal) → 0 < refusal_number r
refusal_number_pos TooLong = omega arith
refusal_number_pos CutShort = omega arith
refusal_number_pos BytesAfter = omega arith
refusal_number_pos UnknownType = omega arith
refusal_number_pos Length = omega arith
refusal_number_pos OutOfRange = omega arith
refusal_number_pos NodeCount = omega arith
refusal_number_pos RootDisagrees = omega arith
refusal_number_pos NoRoom = omega arith
refusal_number_pos Joined = omega arith
refusal_number_pos OtherLog = omega arith
refusal_number_pos EarlierTimestamp = omega arith
refusal_number_pos OtherRoot = omega arith
refusal_number_pos NoHead = omega arith
refusal_number_pos OutOfOrder = omega arith
refusal_number_pos UnknownHash = omega arith

module _ {A : Type 0} where
  pub answered_faithful : Faithful (answered {A = A})
  answered_faithful (Ok a) (Ok b) e = let f : a ≡ b = cc in ap Ok f
  answered_faithful (Ok a) (Err s) e = absurd (let z : ◌≡◌ {A = ℕ} 0 1 = cc in omega arith)
  answered_faithful (Err r) (Ok b) e = absurd (let z : ◌≡◌ {A = ℕ} 0 1 = cc in omega arith)
  answered_faithful (Err r) (Err s) e = let f : refusal_number r ≡ refusal_number s = cc in ap Err (refusal_number_faithful r s f)

  pub told_ok : (r : Result A Refusal) → (told r ≡ 0) ↔ IsOk r
  told_ok (Ok a) = (λ e. refl, λ e. refl)
  told_ok (Err r) = (λ e. absurd (omega (arith, refusal_number_pos r)), λ e. absurd (true≢false (sym e)))

  pub answers_tell_apart : AnswersTellApart A
  answers_tell_apart = record { lose_nothing = answered_faithful; told_0 = told_ok }

pub refusals_tell_apart : RefusalsTellApart
refusals_tell_apart = record { refused = refusal_number_pos; apart = refusal_number_faithful }
