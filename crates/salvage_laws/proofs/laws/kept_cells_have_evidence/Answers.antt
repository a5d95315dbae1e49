use Rattle.salvage_laws.proofs.Kept.{kept_have_evidence}
use Rattle.salvage_laws.proofs.laws.kept_cells_have_evidence.Goals as goal

pub returns : goal.returns
returns c = kept_have_evidence
