use Rattle.tree_uses.proofs.Splits.{trees_take_turns}
use Rattle.tree_uses.proofs.laws.trees_take_turns.Goals as goal

pub returns : goal.returns
returns c = trees_take_turns
