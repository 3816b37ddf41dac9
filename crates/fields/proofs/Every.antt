-- What `path_into` may answer by its contract as the source states it, so that a weaker `ensures` does not prove this. Assumes nothing.
use mathlib.Core.Path.{◌≡◌, refl, ap, sym, ◌∙◌}
use mathlib.Core.List.{List, [], ◌++◌}
use Prim.Native.Nat.{ℕ, ◌≤◌}
use native.Mathlib.Omega.{arith}
use lib.ListN.{length, take, drop}
use lib.Seq.{take_at}
use borrow.Author.Tests.{le-ltb}
use contract.Lifetimes.{Lfts}
use denote.Ref.{Bor}
use denote.MutBor.{MutBor}
use Rattle.fields.specs.declared.layout.Part.{Part}
use Rattle.std.specs.Prelude.{Result, Ok, Err}
use Rattle.octets.specs.Refusals.{refusal_number}
use Rattle.fields.specs.declared.layout.RefusedAt.{RefusedAt}
use Rattle.fields.specs.Checked.{good, checked}
use Rattle.fields.specs.Effect.{Effect, wrote}
use Rattle.fields.specs.Path.{path_at, copy_path}
use Rattle.fields.proofs.Answers.{bad_good, same_good}
use Rattle.fields.proofs.Lent.{was_put}
use Rattle.fields.proofs.Numbered.{Numbered, answer_of, answer_is, effect_numbered, path_numbered}
use Rattle.fields.proofs.path.path_into.Reads as path-reads

-- the copy of a path, with the lent bytes before and after
pub record Copies (s : Bor (List ℕ)) (p : Part) (out out' : MutBor (List ℕ)) (a : Result ℕ RefusedAt) : Type 0 where
  pub lives : Lfts 2
  pub learnt : path-reads.Learnt lives (s, (p, (out, tt))) a (s, (p, (out', tt)))

-- a path as a caller has it: the first bytes of what `path_into` was lent, as many as it answered
pub record Through (s : Bor (List ℕ)) (p : Part) (w : List ℕ) : Type 0 where
  pub out : MutBor (List ℕ)
  pub after : MutBor (List ℕ)
  pub count : ℕ
  pub copies : Copies s p out after (Ok count)
  pub is : w ≡ take count after.now

-- whatever `path_into` answers where the lent bytes are long enough, it has copied this path
abbrev pub Comes : Bor (List ℕ) → Part → List ℕ → Type 0
Comes s p w =
    (out after : MutBor (List ℕ)) (a : Result ℕ RefusedAt) → Copies s p out after a → length w ≤ length out.now → (a ≡ Ok (length w)) × (after.now ≡ w ++ drop (length w) out.now)

pub written_length : (a : Result ℕ RefusedAt) (m : ℕ) → checked a ≡ good m → a ≡ Ok m
written_length (Ok n) m e = ap Ok (same_good n m e)
written_length (Err r) m e = bad_good (refusal_number r.refusal) r.place m e

pub through_copied : (s : Bor (List ℕ)) (p : Part) (w : List ℕ) → Through s p w → path_at s.now p ≡ good w
unfolding copy_path
through_copied s p w h =
    let l = h.copies.learnt in
    let b = was_put (path_at s.now p) h.out.now h.count (sym l.0) in
    let t : take h.count h.after.now ≡ b.bytes = ap (take h.count) (l.1 ∙ b.after) ∙ take_at b.bytes (drop h.count h.out.now) h.count (sym b.size) in
    b.is ∙ ap good (sym (h.is ∙ t))

wrote_comes : (s : Bor (List ℕ)) (p : Part) (w : List ℕ) → ((out : List ℕ) → length w ≤ length out → copy_path s.now p out ≡ wrote w out) → Comes s p w
wrote_comes s p w e out after a c fit =
    let q = e out.now fit in
    (written_length a (length w) (c.learnt.0 ∙ ap (λ (o : Effect). o.answer) q), c.learnt.1 ∙ ap (λ (o : Effect). o.bytes) q)

pub copied_comes : (s : Bor (List ℕ)) (p : Part) (w : List ℕ) → path_at s.now p ≡ good w → Comes s p w
unfolding copy_path
copied_comes s p w e = wrote_comes s p w (λ out fit. rw (e, le-ltb _ _ fit))

-- Any bytes can stand behind a reference, and what a definition says is one of the answers that the contract allows.
unfoldable pub ref : List ℕ → Bor (List ℕ)
ref l = record { ref_ptr = (0, 0); now = l }

unfoldable pub mut_ref : List ℕ → MutBor (List ℕ)
mut_ref l = record { ref_ptr = (0, 0); ghost_name = 0; now = l }

pub copied_through : (s : List ℕ) (p : Part) (w : List ℕ) → path_at s p ≡ good w → Through (ref s) p w
unfolding copy_path ref mut_ref
copied_through s p w e =
    let l : length w ≤ length w = omega arith in
    let q : copy_path s p w ≡ wrote w w = rw (e, le-ltb _ _ l) in
    record {
      out = mut_ref w;
      after = mut_ref (copy_path s p w).bytes;
      count = length w;
      copies = record { lives = ([], ([], tt)); learnt = (sym (ap (λ (o : Effect). o.answer) q), refl) };
      is = sym (ap (λ (o : Effect). take (length w) o.bytes) q ∙ take_at w (drop (length w) w) (length w) refl);
    }

pub comes_copied : (s : List ℕ) (p : Part) (w : List ℕ) → Comes (ref s) p w → path_at s p ≡ good w
unfolding copy_path ref mut_ref
comes_copied s p w c =
    let a = (copy_path s p w).answer in
    let t : Numbered a = effect_numbered w (path_at s p) (path_numbered s p) in
    let r = c (mut_ref w) (mut_ref (copy_path s p w).bytes) (answer_of a t) (record { lives = ([], ([], tt)); learnt = (answer_is a t, refl) }) (omega arith) in
    let b = was_put (path_at s p) w (length w) (sym (answer_is a t) ∙ ap checked r.0) in
    let z : b.bytes ≡ w = sym (take_at b.bytes (drop (length w) w) (length w) (sym b.size)) ∙ ap (take (length w)) (sym b.after ∙ r.1) ∙ take_at w (drop (length w) w) (length w) refl in
    b.is ∙ ap good z
