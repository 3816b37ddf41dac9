-- Which calls are accepted, whatever the tree. Over any hash. Assumes nothing.
use mathlib.Core.Path.{◌≡◌, refl, sym, ap, ◌∙◌}
use mathlib.Core.Logic.{⊎_elim}
use mathlib.Core.Bool.{true, false, false≢true}
use mathlib.Core.List.{List, []}
use Prim.Native.Nat.{ℕ, ◌+◌, ◌/◌, ◌%◌, ◌≤◌, ◌<◌}
use native.Mathlib.Omega.{arith}
use lib.Dec.{ltb}
use lib.ListN.{length}
use borrow.Author.Tests.{lt-ltb, le-ltb, ltb-false}
use Rattle.octets.specs.Limits.{most_item}
use Rattle.tree.specs.Limits.{largest_size, most_leaves}
use Rattle.tree.specs.Build.{unfit}
use Rattle.octets.proofs.Order.{lt_or_ge}
use Rattle.tree.proofs.Building.{unfit_part, unfit_rest}
use Rattle.growing.specs.declared.Growing.{Growing}
use Rattle.growing.specs.Hashes.{with_leaves}
use Rattle.growing.specs.Calls.{Call, of_page, of_leaves, room_number, call_number, grown_by}
use Rattle.growing.specs.Claims.{AcceptsAll}
use Rattle.growing.proofs.Adding.{given, room_fits, room_left, leaves_10, leaves_rest, accepted, brought_leaves, with_none}

-- 10 is given exactly for these
fit : (leaves : List ℕ) → unfit leaves ≡ false → (length leaves % 32 ≡ 0) × (length leaves / 32 ≤ most_leaves)
fit leaves e =
    ⊎_elim
    (λ h. let z : length leaves % 32 ≡ 0 = omega arith in (z, ltb-false most_leaves (length leaves / 32) (sym (unfit_rest leaves z) ∙ e)))
    (λ h. absurd (false≢true (sym e ∙ unfit_part leaves (λ z. omega arith))))
    (lt_or_ge (length leaves % 32) 1)

fits : (leaves : List ℕ) → length leaves % 32 ≡ 0 → length leaves / 32 ≤ most_leaves → unfit leaves ≡ false
fits leaves z h = unfit_rest leaves z ∙ le-ltb most_leaves (length leaves / 32) h

page_0 : (count : ℕ) (page : List ℕ) → call_number count (of_page page) ≡ 0 → (length page ≤ most_item) × (count + 1 ≤ largest_size)
unfolding call_number
page_0 count page e =
    let g = given 0 (ltb most_item (length page)) (room_number count 1) e in
    (ltb-false most_item (length page) g.0, room_fits count 1 g.1)

page_good : (count : ℕ) (page : List ℕ) → length page ≤ most_item → count + 1 ≤ largest_size → call_number count (of_page page) ≡ 0
unfolding call_number
page_good count page h r = rw (le-ltb most_item (length page) h) (room_left count 1 r)

page_long : (count : ℕ) (page : List ℕ) → most_item < length page → call_number count (of_page page) ≡ 1
unfolding call_number
page_long count page h = rw (lt-ltb most_item (length page) h)

leaves_0 : (count : ℕ) (leaves : List ℕ) → call_number count (of_leaves leaves) ≡ 0 → (length leaves % 32 ≡ 0) × (length leaves / 32 ≤ most_leaves) × (count + length leaves / 32 ≤ largest_size)
unfolding call_number
leaves_0 count leaves e =
    let g = given 9 (unfit leaves) (room_number count (length leaves / 32)) e in
    let f = fit leaves g.0 in
    (f.0, f.1, room_fits count (length leaves / 32) g.1)

leaves_good : (count : ℕ) (leaves : List ℕ) → length leaves % 32 ≡ 0 → length leaves / 32 ≤ most_leaves → count + length leaves / 32 ≤ largest_size → call_number count (of_leaves leaves) ≡ 0
leaves_good count leaves z h r = leaves_rest count leaves (fits leaves z h) ∙ room_left count (length leaves / 32) r

module _ (H : List ℕ → List ℕ) where
  number_of : (g : Growing) (c : Call) → (grown_by H g c).number ≡ call_number g.count c
  unfolding grown_by
  number_of g c = refl

  pub accepts_all : AcceptsAll H
  accepts_all g = record {
    page = λ page. (λ e. page_0 g.count page (sym (number_of g (of_page page)) ∙ e), λ p. number_of g (of_page page) ∙ page_good g.count page p.0 p.1);
    leaves = λ leaves. (
      λ e. leaves_0 g.count leaves (sym (number_of g (of_leaves leaves)) ∙ e),
      λ p. number_of g (of_leaves leaves) ∙ leaves_good g.count leaves p.0 p.1 p.2,
    );
    page_first = λ page h. number_of g (of_page page) ∙ page_long g.count page h;
    joined_first = λ leaves h. number_of g (of_leaves leaves) ∙ leaves_10 g.count leaves (unfit_part leaves h);
    many_first = λ leaves h. number_of g (of_leaves leaves) ∙ leaves_10 g.count leaves (many leaves h);
    no_leaves = λ h.
        accepted H g (of_leaves []) (leaves_good g.count [] (omega arith) (omega arith) (omega arith))
        ∙ ap (λ (t : Growing). record { number = 0; after = t }) (ap (with_leaves H g) (brought_leaves H []) ∙ with_none H g []);
  }
    where
      many : (leaves : List ℕ) → most_leaves < length leaves / 32 → unfit leaves ≡ true
      many leaves h =
          ⊎_elim (λ k. unfit_rest leaves (omega arith) ∙ lt-ltb most_leaves (length leaves / 32) h) (λ k. unfit_part leaves (λ z. omega arith)) (lt_or_ge (length leaves % 32) 1)
