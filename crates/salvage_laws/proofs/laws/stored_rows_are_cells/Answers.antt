use Rattle.salvage_laws.proofs.Cells.{stored_are_cells}
use Rattle.salvage_laws.proofs.laws.stored_rows_are_cells.Goals as goal

pub returns : goal.returns
returns c = stored_are_cells
