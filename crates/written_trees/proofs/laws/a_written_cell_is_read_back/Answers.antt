use Rattle.written_trees.proofs.Cells.{cell_reads}
use Rattle.written_trees.proofs.laws.a_written_cell_is_read_back.Goals as goal

pub returns : goal.returns
returns c = cell_reads
