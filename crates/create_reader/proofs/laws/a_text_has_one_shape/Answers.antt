use Rattle.create_reader.proofs.One.{one_shape}
use Rattle.create_reader.proofs.laws.a_text_has_one_shape.Goals as goal

pub returns : goal.returns
returns c = one_shape
