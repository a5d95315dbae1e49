use Rattle.tree_walks.proofs.Turning.{trees_are_turned}
use Rattle.tree_walks.proofs.laws.the_cells_of_a_tree_take_their_turns.Goals as goal

pub returns : goal.returns
returns c = trees_are_turned
