use mathlib.Core.Path.{◌≡◌}
use Prim.Native.Nat.{ℕ}
use native.Mathlib.Omega.{arith}
use borrow.Author.Tests.{eq-eqb, ne_eqb}
use Rattle.fields.specs.Checked.{good, bad}
use Rattle.first.specs.declared.table.Line.TheVariants.{X509Entry, PrecertEntry, CertificateTimestamp, TreeHead}
use Rattle.first.specs.Table.{line_of}
use Rattle.first.proofs.table.line_of.Goals as goal

module _ (e w k : ℕ) where
  other_edition : (e ≡ 1 → ⊥) → bad 4 0 ≡ line_of e w k
  unfolding line_of
  other_edition h = rw (ne_eqb _ _ h)

  module _ (edition : e ≡ 1) where
    precert : w ≡ 1 → k ≡ 1 → good PrecertEntry ≡ line_of e w k
    unfolding line_of
    precert h g = rw (eq-eqb _ _ edition, eq-eqb _ _ h, eq-eqb _ _ g)

    x509 : w ≡ 1 → (k ≡ 1 → ⊥) → good X509Entry ≡ line_of e w k
    unfolding line_of
    x509 h g = rw (eq-eqb _ _ edition, eq-eqb _ _ h, ne_eqb _ _ g)

    timestamp : w ≡ 2 → good CertificateTimestamp ≡ line_of e w k
    unfolding line_of
    timestamp h = rw (eq-eqb _ _ edition, h)

    head : w ≡ 3 → good TreeHead ≡ line_of e w k
    unfolding line_of
    head h = rw (eq-eqb _ _ edition, h)

    none : (w ≡ 1 → ⊥) → (w ≡ 2 → ⊥) → (w ≡ 3 → ⊥) → bad 4 0 ≡ line_of e w k
    unfolding line_of
    none h g f = rw (eq-eqb _ _ edition, ne_eqb _ 1 h, ne_eqb _ 2 g, ne_eqb _ 3 f)

pub returns-then-edition-ne-RFC_6962 : goal.returns-then-edition-ne-RFC_6962
returns-then-edition-ne-RFC_6962 c = other_edition _ _ _ c.if-edition-ne-RFC_6962.true

pub returns-in-1 : goal.returns-in-1
returns-in-1 c = precert _ _ _ c.if-edition-ne-RFC_6962.false c.in-1.is c.if-entry-eq-PRECERT_ENTRY.true

pub returns-in-1-2 : goal.returns-in-1-2
returns-in-1-2 c = x509 _ _ _ c.if-edition-ne-RFC_6962.false c.in-1.is c.if-entry-eq-PRECERT_ENTRY.false

pub returns-in-2 : goal.returns-in-2
returns-in-2 c = timestamp _ _ _ c.if-edition-ne-RFC_6962.false c.in-2.is

pub returns-in-3 : goal.returns-in-3
returns-in-3 c = head _ _ _ c.if-edition-ne-RFC_6962.false c.in-3.is

pub returns-in_default : goal.returns-in_default
returns-in_default c = none _ _ _ c.if-edition-ne-RFC_6962.false (λ e. omega arith) (λ e. omega arith) (λ e. omega arith)
