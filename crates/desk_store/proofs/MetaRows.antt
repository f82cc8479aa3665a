-- The row of the counter is read back from its columns, and no other columns are read as it.
use Rattle.std.proofs.Common.{◌≡◌, ℕ, List, Some}
use Rattle.sheet_core.specs.Columns.{has, number_at}
use Rattle.sheet_core.specs.declared.column.Column.{Column}
use Rattle.sheet_core.proofs.ColumnLemmas.{has-is, number_at-is, same_columns}
use Rattle.desk_store.specs.MetaColumns.{meta_columns}
use Rattle.desk_store.specs.declared.meta.MetaRow.{MetaRow}

pub meta_told : (cs : List Column) (one version next entries max_numbers max_entries : ℕ)
    → has 6 cs ≡ Some tt → number_at 0 cs ≡ Some one → number_at 1 cs ≡ Some version → number_at 2 cs ≡ Some next
    → number_at 3 cs ≡ Some entries → number_at 4 cs ≡ Some max_numbers → number_at 5 cs ≡ Some max_entries
    → meta_columns (record {
      one = one;
      version = version;
      next = next;
      entries = entries;
      max_numbers = max_numbers;
      max_entries = max_entries;
    }) ≡ cs
meta_told cs one version next entries max_numbers max_entries all c0 c1 c2 c3 c4 c5 =
    let row : MetaRow = record {
      one = one;
      version = version;
      next = next;
      entries = entries;
      max_numbers = max_numbers;
      max_entries = max_entries;
    } in
    same_columns cs (meta_columns row) (has-is 6 cs tt all) (
      number_at-is 0 cs one c0,
      (
        number_at-is 1 cs version c1,
        (
          number_at-is 2 cs next c2,
          (number_at-is 3 cs entries c3, (number_at-is 4 cs max_numbers c4, (number_at-is 5 cs max_entries c5, tt))),
        ),
      ),
    )
