use Rattle.page_walk.proofs.Trees.{children_are_named}
use Rattle.page_walk.proofs.laws.children_are_named.Goals as goal

pub returns : goal.returns
returns c = children_are_named
