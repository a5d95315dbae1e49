use Rattle.salvage_laws.proofs.Ranges.{ranges_are_apart}
use Rattle.salvage_laws.proofs.laws.cells_of_rows_are_apart.Goals as goal

pub returns : goal.returns
returns c = ranges_are_apart
