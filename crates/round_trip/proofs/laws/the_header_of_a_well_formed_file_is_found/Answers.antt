use Rattle.round_trip.proofs.Found.{headers_are_found}
use Rattle.round_trip.proofs.laws.the_header_of_a_well_formed_file_is_found.Goals as goal

pub returns : goal.returns
returns c = headers_are_found
