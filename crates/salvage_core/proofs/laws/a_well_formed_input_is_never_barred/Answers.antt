use Rattle.salvage_core.proofs.Free.{never_barred}
use Rattle.salvage_core.proofs.laws.a_well_formed_input_is_never_barred.Goals as goal

pub returns : goal.returns
returns c = never_barred
