use Rattle.tree_uses.proofs.Splits.{trees_are_unused}
use Rattle.tree_uses.proofs.laws.trees_are_unused.Goals as goal

pub returns : goal.returns
returns c = trees_are_unused
