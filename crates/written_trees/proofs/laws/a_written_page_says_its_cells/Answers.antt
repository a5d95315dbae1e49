use Rattle.written_trees.proofs.Pages.{page_says}
use Rattle.written_trees.proofs.laws.a_written_page_says_its_cells.Goals as goal

pub returns : goal.returns
returns c = page_says
