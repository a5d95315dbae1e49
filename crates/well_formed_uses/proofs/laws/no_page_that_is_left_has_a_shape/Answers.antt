use Rattle.well_formed_uses.proofs.Left.{none_is_left}
use Rattle.well_formed_uses.proofs.laws.no_page_that_is_left_has_a_shape.Goals as goal

pub returns : goal.returns
returns c = none_is_left
