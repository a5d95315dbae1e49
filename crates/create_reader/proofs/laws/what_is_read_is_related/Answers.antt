use Rattle.create_reader.proofs.One.{is_related}
use Rattle.create_reader.proofs.laws.what_is_read_is_related.Goals as goal

pub returns : goal.returns
returns c = is_related
