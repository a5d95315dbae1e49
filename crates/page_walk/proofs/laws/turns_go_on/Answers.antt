use Rattle.page_walk.proofs.Chains.{turns_go_on}
use Rattle.page_walk.proofs.laws.turns_go_on.Goals as goal

pub returns : goal.returns
returns c = turns_go_on
