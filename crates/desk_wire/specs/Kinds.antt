-- The kinds of imports.
use Rattle.std.specs.Prelude.{ℕ, List, codes, Option, Some, None, if◌then◌else◌}
use Rattle.std.specs.Str.{bytes_eq}
use Rattle.desk_wire.specs.declared.kind.ImportKind.{ImportKind}
use Rattle.desk_wire.specs.declared.kind.ImportKind.TheVariants.{Receipts, Counts}

abbrev pub import_kind_name : ImportKind → List ℕ
import_kind_name Receipts = codes "receipts"
import_kind_name Counts = codes "counts"

-- the kind of that name
abbrev pub import_kind_named : List ℕ → Option ImportKind
import_kind_named name =
    if bytes_eq name (codes "receipts") then Some Receipts
    else if bytes_eq name (codes "counts") then Some Counts
    else None
