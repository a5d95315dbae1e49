use Rattle.well_formed_uses.proofs.Stored.{stored_is, tree_in}
use Rattle.well_formed_uses.proofs.laws.stored_trees_are_walked.Goals as goal

pub returns : goal.returns
returns c = λ f kind p cells used s. (tree_in s, stored_is s)
