use Rattle.create_reader.proofs.One.{is_valid}
use Rattle.create_reader.proofs.laws.the_shape_of_a_text_is_valid.Goals as goal

pub returns : goal.returns
returns c = is_valid
