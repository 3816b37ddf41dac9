-- The lines of the table: how many fields each has, how much they take, and what is written of them. Assumes nothing.
use mathlib.Core.Path.{◌≡◌, ap, sym, ◌∙◌}
use mathlib.Core.List.{List}
use Prim.Native.Nat.{ℕ, ◌≤◌}
use native.Mathlib.Omega.{arith}
use lib.ListN.{length, take}
use Rattle.fields.specs.declared.layout.Field.{Field}
use Rattle.fields.specs.Write.{Filled, write, filled_by}
use Rattle.fields.specs.Effect.{within, effect}
use Rattle.fields.specs.Claims.{layout}
use Rattle.fields.proofs.Reaching.{filled_by_layout, most_all, within_write}
use Rattle.first.specs.declared.table.Line.{Line}
use Rattle.first.specs.declared.table.Line.TheVariants.{X509Entry, PrecertEntry, CertificateTimestamp, TreeHead}
use Rattle.first.specs.Table.{layout_of}

pub count_small : (l : Line) → length (layout_of l) ≤ 7
count_small X509Entry = omega arith
count_small PrecertEntry = omega arith
count_small CertificateTimestamp = omega arith
count_small TreeHead = omega arith

-- the longest structure is within the limit
pub most_small : (l : Line) → most_all (layout_of l) ≤ 33554432
most_small X509Entry = omega arith
most_small PrecertEntry = omega arith
most_small CertificateTimestamp = omega arith
most_small TreeHead = omega arith

-- what is written of a line's layout is what the line is filled with, and no place is past every buffer
pub line_written : (l : Line) (fields : List Field) (k : ℕ) (ns : List ℕ) (vs : List (List ℕ)) (fs : List Filled) (out : List ℕ) → take (length (layout_of l)) fields ≡ layout_of l → k ≡ length (layout_of l) → filled_by (layout_of l) ns vs ≡ fs → effect out (within (write (filled_by (take k fields) ns vs) 0)) ≡ effect out (write fs 0)
line_written l fields k ns vs fs out e c is =
    let a : take k fields ≡ layout_of l = ap (λ (j : ℕ). take j fields) c ∙ e in
    let b : filled_by (take k fields) ns vs ≡ fs = ap (λ (gs : List Field). filled_by gs ns vs) a ∙ is in
    let d : layout fs ≡ layout_of l = ap layout (sym is) ∙ filled_by_layout (layout_of l) ns vs in
    let m : most_all (layout fs) ≤ 9223372036854775807 = omega (arith, ap most_all d, most_small l) in
    ap (λ (gs : List Filled). effect out (within (write gs 0))) b ∙ ap (effect out) (within_write fs m)
