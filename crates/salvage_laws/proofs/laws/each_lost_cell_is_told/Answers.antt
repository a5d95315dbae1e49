use Rattle.salvage_laws.proofs.Telling.{lost_are_told}
use Rattle.salvage_laws.proofs.laws.each_lost_cell_is_told.Goals as goal

pub returns : goal.returns
returns c = lost_are_told
