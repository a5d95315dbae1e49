use Rattle.lost_found.proofs.Numbering.{has_one_name}
use Rattle.lost_found.proofs.laws.the_name_is_one.Goals as goal

pub returns : goal.returns
returns c = has_one_name
