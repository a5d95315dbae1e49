use Rattle.lost_found.proofs.Numbering.{has_first_name}
use Rattle.lost_found.proofs.laws.the_name_is_the_first_that_is_free.Goals as goal

pub returns : goal.returns
returns c = has_first_name
