use Rattle.cell_reader.proofs.Spelled.{reads_back, reads_on_page}
use Rattle.cell_reader.proofs.laws.a_spelled_cell_is_read_back.Goals as goal

pub returns-clause-parts : goal.returns-clause-parts
returns-clause-parts c = reads_back

pub returns-clause-page : goal.returns-clause-page
returns-clause-page c = reads_on_page
