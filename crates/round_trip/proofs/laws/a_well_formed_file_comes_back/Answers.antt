use Rattle.round_trip.proofs.Back.{files_come_back}
use Rattle.round_trip.proofs.laws.a_well_formed_file_comes_back.Goals as goal

pub returns : goal.returns
returns c = files_come_back
