-- Cells as the program has them.
use Rattle.std.specs.Prelude.{◌≤◌, length}
use Rattle.salvaged_tables.specs.declared.places.LostCell.{LostCell}

-- few enough fields for a row of a table
abbrev pub HasFewFields : LostCell → Type 0
HasFewFields c = length c.cell.fields.items ≤ 1996
