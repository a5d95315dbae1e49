use Rattle.page_walk.proofs.Trees.{walk_is_tree}
use Rattle.page_walk.proofs.laws.walk_is_tree.Goals as goal

pub returns : goal.returns
returns c = walk_is_tree
