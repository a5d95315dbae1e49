use Rattle.layout_laws.proofs.Spelling.{layout_spells}
use Rattle.layout_laws.proofs.laws.a_layout_spells_its_database.Goals as goal

pub returns : goal.returns
returns c = layout_spells
