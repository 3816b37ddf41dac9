-- What the cases of a dispute's and a journal's answers report loses nothing. Assumes nothing.
use mathlib.Core.Path.{◌≡◌, refl, ap}
use Prim.Native.Nat.{ℕ}
use native.Mathlib.Omega.{arith}
use Rattle.octets.specs.Answer.{Faithful}
use Rattle.auditor.specs.declared.dispute.Settled.TheVariants.{Same, Nodes, Pages, Refused}
use Rattle.auditor.specs.declared.journal.Appended.TheVariants as appended
use Rattle.auditor.specs.Dispute.{settling}
use Rattle.auditor.specs.Journal.{appending}

no : ◌≡◌ {A = ℕ} 0 1 → ⊥
no e = omega arith

pub settling_faithful : Faithful settling
settling_faithful Same Same e = refl
settling_faithful Same Nodes e = absurd (no (cc))
settling_faithful Same Pages e = absurd (no (cc))
settling_faithful Same (Refused y) e = absurd (no (cc))
settling_faithful Nodes Same e = absurd (no (cc))
settling_faithful Nodes Nodes e = refl
settling_faithful Nodes Pages e = absurd (no (cc))
settling_faithful Nodes (Refused y) e = absurd (no (cc))
settling_faithful Pages Same e = absurd (no (cc))
settling_faithful Pages Nodes e = absurd (no (cc))
settling_faithful Pages Pages e = refl
settling_faithful Pages (Refused y) e = absurd (no (cc))
settling_faithful (Refused x) Same e = absurd (no (cc))
settling_faithful (Refused x) Nodes e = absurd (no (cc))
settling_faithful (Refused x) Pages e = absurd (no (cc))
settling_faithful (Refused x) (Refused y) e = let f : x ≡ y = cc in ap Refused f

pub appending_faithful : Faithful appending
appending_faithful (appended.Used x) (appended.Used y) e = let f : x ≡ y = cc in ap appended.Used f
appending_faithful (appended.Used x) (appended.Refused y) e = absurd (no (cc))
appending_faithful (appended.Refused x) (appended.Used y) e = absurd (no (cc))
appending_faithful (appended.Refused x) (appended.Refused y) e = let f : x ≡ y = cc in ap appended.Refused f
