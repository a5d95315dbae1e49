use Rattle.cell_reader.proofs.Read.{read_spelled}
use Rattle.cell_reader.proofs.laws.a_read_cell_is_spelled.Goals as goal

pub returns : goal.returns
returns c = read_spelled
