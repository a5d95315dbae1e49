use Rattle.page_walk.proofs.Readable.{readable_are_read}
use Rattle.page_walk.proofs.laws.readable_cells_are_read.Goals as goal

pub returns : goal.returns
returns c = readable_are_read
