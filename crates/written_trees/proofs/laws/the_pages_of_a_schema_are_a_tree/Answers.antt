use Rattle.written_trees.proofs.Whole.{schema_is}
use Rattle.written_trees.proofs.laws.the_pages_of_a_schema_are_a_tree.Goals as goal

pub returns : goal.returns
returns c = schema_is
