use Rattle.page_walk.proofs.Chains.{walks_are_unused}
use Rattle.page_walk.proofs.laws.walks_are_unused.Goals as goal

pub returns : goal.returns
returns c = walks_are_unused
