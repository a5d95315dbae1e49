use Rattle.cell_reader.proofs.Apart.{page_apart}
use Rattle.cell_reader.proofs.laws.accepted_cells_are_apart.Goals as goal

pub returns : goal.returns
returns c = page_apart
