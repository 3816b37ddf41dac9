use mathlib.Core.Path.{◌≡◌, ap, ◌∙◌}
use mathlib.Core.List.{List, [], ◌∷◌}
use Prim.Native.Nat.{ℕ}
use Rattle.fields.specs.Write.{filled_by}
use Rattle.fields.specs.Effect.{Effect}
use Rattle.first.specs.declared.table.Line.{Line}
use Rattle.first.specs.declared.table.Line.TheVariants.{X509Entry, PrecertEntry, CertificateTimestamp, TreeHead}
use Rattle.first.specs.declared.writer.Numbers.{Numbers}
use Rattle.first.specs.Table.{layout_of}
use Rattle.first.specs.First.{Vectors, lent, filled}
use Rattle.first.proofs.Lines.{line_written}
use Rattle.first.proofs.writer.write_line.Goals as goal

-- what each line is filled with, by the places of its fields
module _ (n : Numbers) (t : Vectors) (l : Line) where
  x509 : l ≡ X509Entry → (a : List ℕ) → filled_by (layout_of l) (0 ∷ 0 ∷ n.timestamp ∷ n.entry_type ∷ 0 ∷ 0 ∷ 0 ∷ 0 ∷ []) (a ∷ a ∷ a ∷ a ∷ t.certificate ∷ t.extensions ∷ a ∷ a ∷ []) ≡ filled n t l
  x509 e a = rw e

  precert : l ≡ PrecertEntry → (a : List ℕ) → filled_by (layout_of l) (0 ∷ 0 ∷ n.timestamp ∷ n.entry_type ∷ 0 ∷ 0 ∷ 0 ∷ 0 ∷ []) (a ∷ a ∷ a ∷ a ∷ t.issuer_key_hash ∷ t.certificate ∷ t.extensions ∷ a ∷ []) ≡ filled n t l
  precert e a = rw e

  timestamp : l ≡ CertificateTimestamp → (a : List ℕ) → filled_by (layout_of l) (0 ∷ 0 ∷ n.timestamp ∷ 0 ∷ n.algorithms ∷ 0 ∷ 0 ∷ 0 ∷ []) (a ∷ t.log_id ∷ a ∷ t.extensions ∷ a ∷ t.signature ∷ a ∷ a ∷ []) ≡ filled n t l
  timestamp e a = rw e

  head : l ≡ TreeHead → (a : List ℕ) → filled_by (layout_of l) (0 ∷ 1 ∷ n.timestamp ∷ n.size ∷ 0 ∷ 0 ∷ 0 ∷ 0 ∷ []) (a ∷ a ∷ a ∷ a ∷ t.root_hash ∷ a ∷ a ∷ a ∷ []) ≡ filled n t l
  head e a = rw e

pub returns-in-X509Entry : goal.returns-in-X509Entry
returns-in-X509Entry c =
    let s = c.args in
    let r = c.write_layout.ensures in
    let q = line_written s.line _ _ _ _ _ s.out.now c.layout_of-layout.ensures c.count_of-n.ensures (x509 s.numbers (lent s.vectors) s.line c.in-X509Entry.is s.vectors.log_id.now) in
    (r.0 ∙ ap (λ (o : Effect). o.answer) q, r.1 ∙ ap (λ (o : Effect). o.bytes) q)

pub returns-in-PrecertEntry : goal.returns-in-PrecertEntry
returns-in-PrecertEntry c =
    let s = c.args in
    let r = c.write_layout-in-PrecertEntry.ensures in
    let q = line_written s.line _ _ _ _ _ s.out.now c.layout_of-layout.ensures c.count_of-n.ensures (precert s.numbers (lent s.vectors) s.line c.in-PrecertEntry.is s.vectors.log_id.now) in
    (r.0 ∙ ap (λ (o : Effect). o.answer) q, r.1 ∙ ap (λ (o : Effect). o.bytes) q)

pub returns-in-CertificateTimestamp : goal.returns-in-CertificateTimestamp
returns-in-CertificateTimestamp c =
    let s = c.args in
    let r = c.write_layout-in-CertificateTimestamp.ensures in
    let q = line_written s.line _ _ _ _ _ s.out.now c.layout_of-layout.ensures c.count_of-n.ensures (timestamp s.numbers (lent s.vectors) s.line c.in-CertificateTimestamp.is s.vectors.log_id.now) in
    (r.0 ∙ ap (λ (o : Effect). o.answer) q, r.1 ∙ ap (λ (o : Effect). o.bytes) q)

pub returns-in-TreeHead : goal.returns-in-TreeHead
returns-in-TreeHead c =
    let s = c.args in
    let r = c.write_layout-in-TreeHead.ensures in
    let q = line_written s.line _ _ _ _ _ s.out.now c.layout_of-layout.ensures c.count_of-n.ensures (head s.numbers (lent s.vectors) s.line c.in-TreeHead.is s.vectors.log_id.now) in
    (r.0 ∙ ap (λ (o : Effect). o.answer) q, r.1 ∙ ap (λ (o : Effect). o.bytes) q)
