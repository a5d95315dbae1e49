use Rattle.salvaged_tables.proofs.Once.{each_cell_once}
use Rattle.salvaged_tables.proofs.laws.each_readable_cell_is_stored_or_lost.Goals as goal

pub returns : goal.returns
returns c = each_cell_once
