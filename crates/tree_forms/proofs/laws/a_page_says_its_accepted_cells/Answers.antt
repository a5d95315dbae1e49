use Rattle.tree_forms.proofs.Saying.{page_read}
use Rattle.tree_forms.proofs.laws.a_page_says_its_accepted_cells.Goals as goal

pub returns : goal.returns
returns c = page_read
