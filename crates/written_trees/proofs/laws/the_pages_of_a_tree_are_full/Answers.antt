use Rattle.written_trees.proofs.Sized.{schema_full, tree_full}
use Rattle.written_trees.proofs.laws.the_pages_of_a_tree_are_full.Goals as goal

pub returns-clause-tree : goal.returns-clause-tree
returns-clause-tree c = tree_full

pub returns-clause-schema : goal.returns-clause-schema
returns-clause-schema c = schema_full
