use Rattle.orphan_trees.proofs.Rule.{orphans_hold}
use Rattle.orphan_trees.proofs.laws.each_orphan_page_is_in_one_tree.Goals as goal

pub returns : goal.returns
returns c = orphans_hold
