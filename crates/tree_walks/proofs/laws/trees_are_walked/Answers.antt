use Rattle.tree_walks.proofs.Levels.{trees_are_walked}
use Rattle.tree_walks.proofs.Walked.{walks_have_trees}
use Rattle.tree_walks.proofs.laws.trees_are_walked.Goals as goal

pub returns-clause-rows : goal.returns-clause-rows
returns-clause-rows c = trees_are_walked

pub returns-clause-trees : goal.returns-clause-trees
returns-clause-trees c = walks_have_trees
