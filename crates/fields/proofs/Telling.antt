-- What the answer of reading a layout tells. Assumes nothing.
use mathlib.Core.Path.{◌≡◌, refl, ap, ap₂, sym, ◌∙◌}
use mathlib.Core.List.{List, ◌++◌}
use Prim.Native.Nat.{ℕ, ◌≤◌}
use native.Mathlib.Omega.{arith}
use lib.ListN.{length, take, drop, length-append, length-drop}
use lib.Seq.{take_at}
use Rattle.fields.specs.declared.layout.Part.{Part}
use Rattle.fields.specs.declared.layout.Field.{Field}
use Rattle.std.specs.Prelude.{Ok, Err}
use Rattle.octets.specs.Refusals.{refusal_number}
use Rattle.fields.specs.declared.reading.LayoutRefused.{LayoutRefused}
use Rattle.fields.specs.Checked.{Checked, good, bad}
use Rattle.fields.specs.Layout.{read, parts_found}
use Rattle.fields.specs.Answers.{no_parts, with_zeros, LayoutRead, layout_read, told_of}
use Rattle.fields.proofs.Within.{read_found, read_count, found_few}
use Rattle.fields.proofs.Numbered.{told_number, read_numbered}

module _ (fs : List Field) (s : List ℕ) (at : ℕ) where
  abbrev parts : List Part
  parts = parts_found fs s at

  -- what the struct says, whatever was read
  says : (a : Checked (List Part)) → ((layout_read parts a).met ≡ length parts) × ((layout_read parts a).parts ≡ with_zeros parts)
  says (good ps) = (refl, refl)
  says (bad x y) = (refl, refl)

  module _ (ps : List Part) (e : told_of (length fs) (Ok ps) ≡ layout_read (parts_found fs s at) (read fs s at)) where
    pub told_eight : length fs ≤ 8 → length ps ≡ 8
    told_eight h =
        let padded : length (with_zeros parts) ≡ 8 = omega (arith, length-append parts (drop (length parts) no_parts), length-drop (length parts) no_parts, found_few fs s at) in
        ap (λ (x : LayoutRead). length x.parts) e ∙ ap length (says (read fs s at)).1 ∙ padded

    pub told_read : read fs s at ≡ good (take (length fs) ps)
    told_read = go (read fs s at) refl e
      where
        go : (a : Checked (List Part)) → read fs s at ≡ a → told_of (length fs) (Ok ps) ≡ layout_read (parts_found fs s at) a → a ≡ good (take (length fs) ps)
        go (bad x y) ha e = absurd (let n : 0 ≡ x = ap (λ (w : LayoutRead). w.number) e in omega (arith, read_numbered fs s at x y ha))
        go (good qs) ha e =
            let p : ps ≡ qs ++ drop (length qs) no_parts = ap (λ (w : LayoutRead). w.parts) e ∙ ap with_zeros (read_found fs s at qs ha) in
            let t : take (length fs) (qs ++ drop (length qs) no_parts) ≡ qs = take_at qs (drop (length qs) no_parts) (length fs) (read_count fs s at qs ha) in
            rw (p, t)

  module _ (r : LayoutRefused) (e : told_of (length fs) (Err r) ≡ layout_read (parts_found fs s at) (read fs s at)) where
    pub told_met : r.met ≡ length (parts_found fs s at)
    told_met = ap (λ (x : LayoutRead). x.met) e ∙ (says (read fs s at)).0

    pub told_refused : read fs s at ≡ bad (refusal_number r.refusal) r.place
    told_refused = go (read fs s at) e
      where
        go : (a : Checked (List Part)) → told_of (length fs) (Err r) ≡ layout_read (parts_found fs s at) a → a ≡ bad (refusal_number r.refusal) r.place
        go (good ps) e = absurd (omega (arith, told_number r.refusal, ap (λ (x : LayoutRead). x.number) e))
        go (bad x y) e = ap₂ bad (sym (ap (λ (w : LayoutRead). w.number) e)) (sym (ap (λ (w : LayoutRead). w.place) e))
