-- What the private functions promise each other. A reader of the public promises needs none of it. Assumes nothing.
use Rattle.std.specs.Prelude.{ℕ, ◌+◌, ◌≤◌, List, [], length, Option, Some, None}
use Rattle.fields.specs.Checked.{Checked, good, bad}
use Rattle.fields.specs.Write.{number_in}
use Rattle.item.specs.declared.table.Case.{Case}
use Rattle.item.specs.declared.table.Name.{Name}
use Rattle.item.specs.declared.table.Name.TheVariants.{Timestamp, Size, SizeOne, SizeTwo, Place, Agreement, PageNumber}
use Rattle.item.specs.declared.table.Name.TheVariants.{LogId, IssuerKeyHash, Certificate, RootHash, Extensions, Signature, Path, Body}
use Rattle.item.specs.declared.writer.Numbers.{Numbers}
use Rattle.item.specs.declared.heads.Head.{Head}
use Rattle.item.specs.Item.{Vectors, vectors, value_of}

-- what the search for a type says
abbrev pub known : Option Case → Checked Case
known (Some c) = good c
known None = bad 4 0

-- the two halves of what the writer is given by a name; the half that its field has no use for is not looked at
abbrev pub number_by : Numbers → Name → ℕ
number_by n x = number_in (value_of n (vectors [] [] [] [] [] [] [] []) x)

abbrev pub bytes_by : Vectors → Name → List ℕ
bytes_by t Timestamp = t.log_id
bytes_by t Size = t.log_id
bytes_by t SizeOne = t.log_id
bytes_by t SizeTwo = t.log_id
bytes_by t Place = t.log_id
bytes_by t Agreement = t.log_id
bytes_by t PageNumber = t.log_id
bytes_by t LogId = t.log_id
bytes_by t IssuerKeyHash = t.issuer_key_hash
bytes_by t Certificate = t.certificate
bytes_by t RootHash = t.root_hash
bytes_by t Extensions = t.extensions
bytes_by t Signature = t.signature
bytes_by t Path = t.path
bytes_by t Body = t.body

-- a head's log id lies within its bytes
abbrev pub LogWithin : List ℕ → Option Head → Type 0
LogWithin s (Some h) = h.log.start + h.log.len ≤ length s
LogWithin s None = Unit
