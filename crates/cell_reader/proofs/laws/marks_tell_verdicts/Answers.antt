use Rattle.cell_reader.proofs.Ranges.{page_marked}
use Rattle.cell_reader.proofs.laws.marks_tell_verdicts.Goals as goal

pub returns : goal.returns
returns c = page_marked
