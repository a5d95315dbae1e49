use Rattle.create_reader.proofs.One.{is_within}
use Rattle.create_reader.proofs.laws.what_is_related_is_read.Goals as goal

pub returns : goal.returns
returns c = is_within
