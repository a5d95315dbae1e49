use Rattle.salvage_laws.proofs.Good.{stored_are_good}
use Rattle.salvage_laws.proofs.laws.stored_rows_are_good.Goals as goal

pub returns : goal.returns
returns c = stored_are_good
