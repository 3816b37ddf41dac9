-- The newer of two signed heads (RFC 9162, section 4.10; document 01, 'Newer-head'). Assumes nothing.
use Rattle.std.specs.Prelude.{ℕ, ◌≡◌, List, [], cond, get_or, ltb, Option, Some, None}
use Rattle.std.specs.Borrow.{Bor}
use Rattle.octets.specs.Bytes.{same}
use Rattle.fields.specs.declared.layout.Part.{Part}
use Rattle.fields.specs.Checked.{Checked, good, bad}
use Rattle.fields.specs.Layout.{bytes_at}
use Rattle.fields.specs.Answers.{no_part}
use Rattle.item.specs.declared.table.Case.{Case}
use Rattle.item.specs.declared.table.Case.TheVariants.{Entry, Receipt, SignedHead, Consistency, Inclusion, Page}
use Rattle.item.specs.declared.heads.Head.{Head}
use Rattle.item.specs.declared.heads.Choice.{Choice}
use Rattle.item.specs.declared.heads.Choice.TheVariants.{First, Second, Neither}
use Rattle.item.specs.Item.{Reading, read_item}

-- what a signed head is compared by: its first three fields are log id, timestamp and size
abbrev pub head_in : Case → List Part → Option Head
head_in SignedHead ps = Some (record { log = get_or ps 0 no_part; timestamp = (get_or ps 1 no_part).value; size = (get_or ps 2 no_part).value })
head_in Entry ps = None
head_in Receipt ps = None
head_in Consistency ps = None
head_in Inclusion ps = None
head_in Page ps = None

abbrev pub head_of : Checked Reading → Option Head
head_of (good r) = head_in r.case r.fields
head_of (bad x at) = None

-- larger size, then later timestamp, then the first; neither where one is not a readable head, or the log ids differ
abbrev pub chosen : List ℕ → List ℕ → Option Head → Option Head → Choice
chosen a b None h = Neither
chosen a b (Some x) None = Neither
chosen a b (Some x) (Some y) =
    cond (same (bytes_at a x.log) (bytes_at b y.log))
    (cond (ltb x.size y.size) Second
    (cond (ltb y.size x.size) First
    (cond (ltb x.timestamp y.timestamp) Second First)))
    Neither

abbrev pub which : List ℕ → List ℕ → Choice
which a b = chosen a b (head_of (read_item a)) (head_of (read_item b))

-- the very reference that is chosen; for neither, the empty part that starts where the first does
abbrev pub Returns : Choice → Bor (List ℕ) → Bor (List ℕ) → Bor (List ℕ) → Type 0
Returns First a b r = r ≡ a
Returns Second a b r = r ≡ b
Returns Neither a b r = (r.now ≡ []) × (r.ref_ptr ≡ a.ref_ptr)
