use Rattle.salvage_laws.proofs.Kept.{each_once}
use Rattle.salvage_laws.proofs.laws.each_cell_is_kept_once.Goals as goal

pub returns : goal.returns
returns c = each_once
