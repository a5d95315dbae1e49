use Rattle.page_walk.proofs.Chains.{chains_are_unused}
use Rattle.page_walk.proofs.laws.chains_are_unused.Goals as goal

pub returns : goal.returns
returns c = chains_are_unused
