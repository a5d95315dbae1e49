use Rattle.layout_laws.proofs.Spelling.{layout_is_whole}
use Rattle.layout_laws.proofs.laws.a_layout_is_whole.Goals as goal

pub returns : goal.returns
returns c = layout_is_whole
