use Rattle.well_formed.proofs.Once.{one_database}
use Rattle.well_formed.proofs.laws.a_file_spells_one_database.Goals as goal

pub returns : goal.returns
returns c = one_database
