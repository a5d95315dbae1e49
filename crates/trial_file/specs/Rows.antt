-- The rows of the database of a trial (docs/FORMAT.md, "The database of a trial").
use Rattle.std.specs.Prelude.{ℕ, ◌*◌, ◌%◌, ◌^◌, pos, Some, List, [], ◌∷◌, ◌++◌, codes, decimal, map, replicate}
use Rattle.std.specs.List.{range_with_len}
use Rattle.record_core.specs.declared.values.Value.TheVariants.{Null, Text, Blob}
use Rattle.table_shape.specs.Keys.{StoredRow}

-- the numbers 1, 2, 3, .. in another order: no two below 2^20 give the same
abbrev pub mixed : ℕ → ℕ
mixed i = i * 40503 % 2 ^ 20

-- the text and the blob of row i
abbrev pub name_of : ℕ → List ℕ
name_of i = codes "n" ++ decimal (mixed i)

abbrev pub body_of : ℕ → List ℕ
body_of i = replicate (i % 701) (i % 256)

-- row i; its rowid stands for its first field
abbrev pub row_of : ℕ → StoredRow
row_of i = record { rowid = Some (pos i); fields = Null ∷ (Text (name_of i) ∷ (Blob (body_of i) ∷ [])) }

-- n rows from row k on
abbrev pub rows_from : ℕ → ℕ → List StoredRow
rows_from k n = map row_of (range_with_len k n)

-- the rows 1 to n
abbrev pub rows_of : ℕ → List StoredRow
rows_of n = rows_from 1 n
