use Rattle.clear_paths.proofs.Whole.{clear_are_read}
use Rattle.clear_paths.proofs.laws.clear_cells_are_read.Goals as goal

pub returns : goal.returns
returns c = clear_are_read
