use Rattle.lost_found.proofs.Text.{text_says}
use Rattle.lost_found.proofs.laws.the_text_says_the_shape.Goals as goal

pub returns : goal.returns
returns c = text_says
