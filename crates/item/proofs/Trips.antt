-- Both round trips as a caller makes them, and the path of an item that was read. Assumes nothing.
use mathlib.Core.Path.{◌≡◌, refl, ap, sym, subst, ◌∙◌}
use mathlib.Core.List.{List, [], ◌∷◌}
use Prim.Native.Nat.{ℕ}
use native.Mathlib.Omega.{arith}
use lib.ListN.{length, get_or, take}
use borrow.Author.Tests.{le-ltb}
use Rattle.std.specs.Prelude.{Result, Ok, Err}
use Rattle.octets.specs.Refusals.{refusal_number}
use Rattle.fields.specs.declared.layout.Part.{Part}
use Rattle.fields.specs.declared.layout.Inner.{Inner}
use Rattle.fields.specs.declared.layout.Inner.TheVariants.{NodeList}
use Rattle.fields.specs.declared.layout.Field.{Field}
use Rattle.fields.specs.declared.layout.Field.TheVariants.{Vector}
use Rattle.item.specs.declared.table.Case.{Case}
use Rattle.item.specs.declared.table.Case.TheVariants.{Entry, Receipt, SignedHead, Consistency, Inclusion, Page}
use Rattle.item.specs.declared.reader.Item.{Item}
use Rattle.item.specs.declared.reader.Item.TheVariants.{Entry as entry, Receipt as receipt, SignedHead as signed_head, Consistency as consistency, Inclusion as inclusion, Page as page}
use Rattle.item.specs.declared.reader.ItemRefused.{ItemRefused}
use Rattle.item.specs.declared.writer.Numbers.{Numbers}
use Rattle.fields.specs.Checked.{Checked, good, bad}
use Rattle.octets.specs.declared.number.Width.{Width}
use Rattle.fields.specs.Layout.{bytes_at}
use Rattle.fields.specs.Write.{Filled, number_in, bytes_in, unwrap, opened, values}
use Rattle.item.specs.declared.table.Name.TheVariants.{LogId, Size, SizeOne, SizeTwo, Place, Path}
use Rattle.item.specs.Table.{field_of, names_of, layout_of}
use Rattle.item.specs.Item.{Reading, reading, read_item, Vectors, filled, write_item}
use Rattle.fields.specs.Effect.{wrote}
use Rattle.fields.specs.Path.{path_at, copy_path}
use Rattle.fields.specs.Answers.{no_part}
use Rattle.item.specs.Claims.{Given, HasPath, path_part, PathIsSaid, Taken, Copied, TakenThenWritten, WrittenThenTaken}
use Rattle.fields.proofs.Answers.{bad_good, good_bad, same_good}
use Rattle.fields.proofs.Within.{Both, parts_all, Whole, found_whole}
use Rattle.fields.proofs.Filling.{nothing}
use Rattle.fields.proofs.Hashing.{was_copied, copied_is, copied_is_joined}
use Rattle.item.proofs.Items.{was_read, read_then_written, written_then_read}

-- the path of an item that was read is copied
path_copied : (s : List ℕ) (r : Reading) → read_item s ≡ good r → HasPath r.case → path_at s (path_part r) ≡ good (unwrap NodeList (bytes_at s (path_part r)))
path_copied s r e h = let w = was_read s r e in go r.case r.fields h (parts_all s (Whole s) (found_whole s) (layout_of r.case) 2 r.fields w.typed w.fields)
  where
    fourth : (f g k l : Field) (ps : List Part) → Both (Whole s) (f ∷ (g ∷ (k ∷ (l ∷ [])))) ps → Whole s l (get_or ps 3 no_part)
    fourth f g k l [] b = absurd b
    fourth f g k l (p ∷ []) b = absurd b.1
    fourth f g k l (p ∷ (q ∷ [])) b = absurd b.1.1
    fourth f g k l (p ∷ (q ∷ (x ∷ []))) b = absurd b.1.1.1
    fourth f g k l (p ∷ (q ∷ (x ∷ (y ∷ ps)))) b = b.1.1.1.0

    go : (c : Case) (ps : List Part) → HasPath c → Both (Whole s) (layout_of c) ps → path_at s (get_or ps 3 no_part) ≡ good (unwrap NodeList (bytes_at s (get_or ps 3 no_part)))
    go Entry ps h b = absurd h
    go Receipt ps h b = absurd h
    go SignedHead ps h b = absurd h
    go Page ps h b = absurd h
    go Consistency ps h b = let d : Whole s (field_of Path) (get_or ps 3 no_part) = fourth (field_of LogId) (field_of SizeOne) (field_of SizeTwo) (field_of Path) ps b in copied_is s (get_or ps 3 no_part) d.0 d.1
    go Inclusion ps h b = let d : Whole s (field_of Path) (get_or ps 3 no_part) = fourth (field_of LogId) (field_of Size) (field_of Place) (field_of Path) ps b in copied_is s (get_or ps 3 no_part) d.0 d.1

-- the value of a fourth field that is a vector
fourth_value : (s : List ℕ) (f g k : Field) (w : Width) (least most : ℕ) (i : Inner) (a : List Filled) (ps : List Part) → length a ≡ 4 → a ≡ values (f ∷ (g ∷ (k ∷ (Vector w least most i ∷ [])))) ps s → bytes_in (get_or a 3 nothing).value ≡ unwrap i (bytes_at s (get_or ps 3 no_part))
unfolding values opened
fourth_value s f g k w least most i a [] l e = absurd (omega (arith, ap length e))
fourth_value s f g k w least most i a (p ∷ []) l e = absurd (omega (arith, ap length e))
fourth_value s f g k w least most i a (p ∷ (q ∷ [])) l e = absurd (omega (arith, ap length e))
fourth_value s f g k w least most i a (p ∷ (q ∷ (x ∷ []))) l e = absurd (omega (arith, ap length e))
fourth_value s f g k w least most i a (p ∷ (q ∷ (x ∷ (y ∷ ps)))) l e = ap (λ (b : List Filled). bytes_in (get_or b 3 nothing).value) e

given_path : (s : List ℕ) (r : Reading) (k : ℕ) (n : Numbers) (t : Vectors) → HasPath r.case → Given s r k n t → t.path ≡ unwrap NodeList (bytes_at s (path_part r))
given_path s r k n t h (is, e) = go r.case r.fields h e
  where
    go : (c : Case) (ps : List Part) → HasPath c → filled n t (names_of c) ≡ values (layout_of c) ps s → t.path ≡ unwrap NodeList (bytes_at s (get_or ps 3 no_part))
    go Entry ps h e = absurd h
    go Receipt ps h e = absurd h
    go SignedHead ps h e = absurd h
    go Page ps h e = absurd h
    go Consistency ps h e = fourth_value s _ _ _ _ _ _ NodeList _ ps refl e
    go Inclusion ps h e = fourth_value s _ _ _ _ _ _ NodeList _ ps refl e

-- what the item says of its path is what is copied and what the writer is given
pub path_is_said : PathIsSaid
unfolding copy_path
path_is_said s r e h =
    let p = path_part r in
    let c = path_copied s r e h in
    record {
      path = unwrap NodeList (bytes_at s p);
      copied = λ out l. rw (c, le-ltb _ _ l);
      says = copied_is_joined s p (unwrap NodeList (bytes_at s p)) c;
      given = λ k n t g. given_path s r k n t h g;
    }

-- what was taken is what the writer is to be given
taken_given : (s : List ℕ) (i : Result Item ItemRefused) (r : Reading) (k : ℕ) (n : Numbers) (t : Vectors) → reading i ≡ good r → Taken (Copied s) s i k n t → Given s r k n t
unfolding values opened unwrap
taken_given s i r k n t e h = go i e h
  where
    is : (q : Reading) → good q ≡ good r → Given s q k n t → Given s r k n t
    is q e g = subst (λ (x : Reading). Given s x k n t) (same_good q r e) g

    path : (p : Part) → Copied s p t.path → t.path ≡ unwrap NodeList (bytes_at s p)
    path p e = (was_copied s p t.path e).is

    go : (i : Result Item ItemRefused) → reading i ≡ good r → Taken (Copied s) s i k n t → Given s r k n t
    go (Err w) e h = absurd h
    go (Ok (entry kind a b c d)) e (hk, h₀, h₁, h₂, h₃) = is _ e (hk, rw (h₀, h₁, h₂, h₃))
    go (Ok (receipt kind a b c d)) e (hk, h₀, h₁, h₂, h₃) = is _ e (hk, rw (h₀, h₁, h₂, h₃))
    go (Ok (signed_head kind a b c d f g)) e (hk, h₀, h₁, h₂, h₃, h₄, h₅) = is _ e (hk, rw (h₀, h₁, h₂, h₃, h₄, h₅))
    go (Ok (consistency kind a b c d)) e (hk, h₀, h₁, h₂, h₃) = is _ e (hk, rw (h₀, h₁, h₂, path d h₃))
    go (Ok (inclusion kind a b c d)) e (hk, h₀, h₁, h₂, h₃) = is _ e (hk, rw (h₀, h₁, h₂, path d h₃))
    go (Ok (page kind a b c d)) e (hk, h₀, h₁, h₂, h₃) = is _ e (hk, rw (h₀, h₁, h₂, h₃))

-- and the other way round, of an item that was read
given_taken : (s : List ℕ) (i : Result Item ItemRefused) (r : Reading) (k : ℕ) (n : Numbers) (t : Vectors) → reading i ≡ good r → read_item s ≡ good r → Given s r k n t → Taken (Copied s) s i k n t
unfolding values opened unwrap
given_taken s i r k n t e d g = go i e
  where
    is : (q : Reading) → good q ≡ good r → Given s q k n t
    is q e = subst (λ (x : Reading). Given s x k n t) (sym (same_good q r e)) g

    path : (q : Reading) → good q ≡ good r → HasPath q.case → Copied s (path_part q) t.path
    path q e h =
        let d' : read_item s ≡ good q = d ∙ sym e in
        rw (given_path s q k n t h (is q e)) (path_copied s q d' h)

    number : ℕ → List Filled → ℕ
    number j l = number_in (get_or l j nothing).value

    vector : ℕ → List Filled → List ℕ
    vector j l = bytes_in (get_or l j nothing).value

    go : (i : Result Item ItemRefused) → reading i ≡ good r → Taken (Copied s) s i k n t
    go (Err w) e = bad_good (refusal_number w.refusal) w.place r e
    go (Ok (entry kind a b c d)) e = let h = is _ e in (h.0, ap (number 0) h.1, ap (vector 1) h.1, ap (vector 2) h.1, ap (vector 3) h.1)
    go (Ok (receipt kind a b c d)) e = let h = is _ e in (h.0, ap (vector 0) h.1, ap (number 1) h.1, ap (vector 2) h.1, ap (vector 3) h.1)
    go (Ok (signed_head kind a b c d f g)) e = let h = is _ e in (h.0, ap (vector 0) h.1, ap (number 1) h.1, ap (number 2) h.1, ap (vector 3) h.1, ap (vector 4) h.1, ap (vector 5) h.1)
    go (Ok (consistency kind a b c d)) e = let h = is _ e in (h.0, ap (vector 0) h.1, ap (number 1) h.1, ap (number 2) h.1, path _ e tt)
    go (Ok (inclusion kind a b c d)) e = let h = is _ e in (h.0, ap (vector 0) h.1, ap (number 1) h.1, ap (number 2) h.1, path _ e tt)
    go (Ok (page kind a b c d)) e = let h = is _ e in (h.0, ap (number 0) h.1, ap (number 1) h.1, ap (number 2) h.1, ap (vector 3) h.1)

pub taken_then_written : TakenThenWritten
taken_then_written s out i k n t bs e h fit = go (reading i) refl e
  where
    go : (a : Checked Reading) → reading i ≡ a → a ≡ read_item s → write_item k n t out ≡ wrote s out
    go (good r) ha e = read_then_written s out r k n t bs (sym e) (taken_given s i r k n t ha h) fit
    go (bad x y) ha e = absurd (refused_not i ha h)
      where
        refused_not : (i : Result Item ItemRefused) → reading i ≡ bad x y → Taken (Copied s) s i k n t → ⊥
        refused_not (Err w) e h = h
        refused_not (Ok (entry kind a b c d)) e h = good_bad x y _ e
        refused_not (Ok (receipt kind a b c d)) e h = good_bad x y _ e
        refused_not (Ok (signed_head kind a b c d f g)) e h = good_bad x y _ e
        refused_not (Ok (consistency kind a b c d)) e h = good_bad x y _ e
        refused_not (Ok (inclusion kind a b c d)) e h = good_bad x y _ e
        refused_not (Ok (page kind a b c d)) e h = good_bad x y _ e

pub written_then_taken : WrittenThenTaken
written_then_taken k n t out m i z e d =
    let b = written_then_read k n t out m z e in
    given_taken (take m (write_item k n t out).bytes) i b.reading k n t (d ∙ b.reads) b.reads b.given
