use Rattle.salvage_laws.proofs.Holding.{kept_fit}
use Rattle.salvage_laws.proofs.laws.kept_cells_have_room.Goals as goal

pub returns : goal.returns
returns c = kept_fit
