use Rattle.tree_forms.proofs.Trees.{one_tree}
use Rattle.tree_forms.proofs.laws.a_root_has_one_tree.Goals as goal

pub returns : goal.returns
returns c = one_tree
