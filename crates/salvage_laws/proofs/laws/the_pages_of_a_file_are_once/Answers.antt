use Rattle.salvage_laws.proofs.Cells.{pages_are_once}
use Rattle.salvage_laws.proofs.laws.the_pages_of_a_file_are_once.Goals as goal

pub returns : goal.returns
returns c = pages_are_once
