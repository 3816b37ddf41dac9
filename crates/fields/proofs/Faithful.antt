-- What is said of the code's answers loses nothing. Assumes nothing.
use mathlib.Core.Path.{◌≡◌, ap, ap₂, sym, ◌∙◌}
use mathlib.Core.List.{List}
use Prim.Native.Nat.{ℕ}
use native.Mathlib.Omega.{arith}
use Rattle.std.specs.Prelude.{Result, Ok, Err}
use Rattle.octets.specs.Refusals.{refusal_number}
use Rattle.octets.specs.declared.refusal.Refusal.{Refusal}
use Rattle.octets.proofs.Refusals.{refusal_number_faithful, refusal_number_pos, answers_tell_apart}
use Rattle.fields.specs.declared.layout.Part.{Part}
use Rattle.fields.specs.declared.layout.RefusedAt.{RefusedAt}
use Rattle.fields.specs.declared.reading.LayoutRefused.{LayoutRefused}
use Rattle.fields.specs.Checked.{checked}
use Rattle.fields.specs.Answers.{LayoutRead, told_of}
use Rattle.fields.specs.Claims.{AnswersLoseNothing}
use Rattle.fields.proofs.Answers.{good_bad, bad_good, same_good, same_place, same_number}

checked_faithful : {A : Type 0} (x y : Result A RefusedAt) → checked x ≡ checked y → x ≡ y
checked_faithful (Ok a) (Ok b) e = ap Ok (same_good a b e)
checked_faithful (Ok a) (Err s) e = good_bad (refusal_number s.refusal) s.place a e
checked_faithful (Err r) (Ok b) e = bad_good (refusal_number r.refusal) r.place b e
checked_faithful (Err r) (Err s) e =
    let n : refusal_number s.refusal ≡ refusal_number r.refusal = same_number (refusal_number r.refusal) (refusal_number s.refusal) r.place s.place e in
    let p : s.place ≡ r.place = same_place (refusal_number r.refusal) (refusal_number s.refusal) r.place s.place e in
    let same : r ≡ s = ap₂ (λ (x : Refusal) (at : ℕ). record { refusal = x; place = at }) (refusal_number_faithful r.refusal s.refusal (sym n)) (sym p) in
    ap Err same

told_faithful : (n : ℕ) (x y : Result (List Part) LayoutRefused) → told_of n x ≡ told_of n y → x ≡ y
told_faithful n (Ok ps) (Ok qs) e = ap Ok (ap (λ (w : LayoutRead). w.parts) e)
told_faithful n (Ok ps) (Err s) e = absurd (omega (arith, refusal_number_pos s.refusal, ap (λ (w : LayoutRead). w.number) e))
told_faithful n (Err r) (Ok qs) e = absurd (omega (arith, refusal_number_pos r.refusal, ap (λ (w : LayoutRead). w.number) e))
told_faithful n (Err r) (Err s) e =
    let f : r.refusal ≡ s.refusal = refusal_number_faithful r.refusal s.refusal (ap (λ (w : LayoutRead). w.number) e) in
    let p : r.place ≡ s.place = ap (λ (w : LayoutRead). w.place) e in
    let m : r.met ≡ s.met = ap (λ (w : LayoutRead). w.met) e in
    let ps : r.parts ≡ s.parts = ap (λ (w : LayoutRead). w.parts) e in
    let first : r ≡ record { refusal = s.refusal; place = s.place; met = r.met; parts = r.parts } =
    ap₂ (λ (x : Refusal) (at : ℕ). record { refusal = x; place = at; met = r.met; parts = r.parts }) f p in
    let rest : record { refusal = s.refusal; place = s.place; met = r.met; parts = r.parts } ≡ s =
    ap₂ (λ (k : ℕ) (ps : List Part). record { refusal = s.refusal; place = s.place; met = k; parts = ps }) m ps in
    ap Err (first ∙ rest)

pub answers_lose_nothing : AnswersLoseNothing
answers_lose_nothing =
    record {
      of_an_element = answers_tell_apart;
      of_a_field = checked_faithful;
      of_a_length = checked_faithful;
      of_a_layout = told_faithful;
    }
