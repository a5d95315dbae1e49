use Rattle.written_trees.proofs.Few.{schema_few, tree_few}
use Rattle.written_trees.proofs.laws.a_tree_has_few_pages.Goals as goal

pub returns-clause-tree : goal.returns-clause-tree
returns-clause-tree c = tree_few

pub returns-clause-schema : goal.returns-clause-schema
returns-clause-schema c = schema_few
