use Rattle.tree_walks.proofs.Ordering.{trees_are_rows}
use Rattle.tree_walks.proofs.laws.a_tree_is_its_rows.Goals as goal

pub returns : goal.returns
returns c = trees_are_rows
