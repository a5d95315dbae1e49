use Rattle.layout_laws.proofs.Spelling.{layout_spells_one}
use Rattle.layout_laws.proofs.laws.a_layout_spells_no_other.Goals as goal

pub returns : goal.returns
returns c = layout_spells_one
