use Rattle.salvage_laws.proofs.Holding.{salvage_holds}
use Rattle.salvage_laws.proofs.laws.all_holds_of_a_salvage.Goals as goal

pub returns : goal.returns
returns c = salvage_holds
