use Rattle.well_formed_load.proofs.Loads.{small_load}
use Rattle.well_formed_load.proofs.laws.a_well_formed_file_has_a_small_load.Goals as goal

pub returns : goal.returns
returns c = small_load
