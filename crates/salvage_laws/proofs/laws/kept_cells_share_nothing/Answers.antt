use Rattle.salvage_laws.proofs.Kept.{kept_are_apart}
use Rattle.salvage_laws.proofs.Pairs.{kept_share_nothing}
use Rattle.salvage_laws.proofs.laws.kept_cells_share_nothing.Goals as goal

pub returns-clause-counts : goal.returns-clause-counts
returns-clause-counts c = kept_are_apart

pub returns-clause-pairs : goal.returns-clause-pairs
returns-clause-pairs c = kept_share_nothing
