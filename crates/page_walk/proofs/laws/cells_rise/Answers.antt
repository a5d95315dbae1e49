use Rattle.page_walk.proofs.Chains.{cells_rise}
use Rattle.page_walk.proofs.laws.cells_rise.Goals as goal

pub returns : goal.returns
returns c = cells_rise
