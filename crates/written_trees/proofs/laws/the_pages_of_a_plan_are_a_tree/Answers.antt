use Rattle.written_trees.proofs.Whole.{tree_is}
use Rattle.written_trees.proofs.laws.the_pages_of_a_plan_are_a_tree.Goals as goal

pub returns : goal.returns
returns c = tree_is
