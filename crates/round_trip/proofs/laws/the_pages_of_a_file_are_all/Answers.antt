use Rattle.round_trip.proofs.Back.{pages_are_all}
use Rattle.round_trip.proofs.laws.the_pages_of_a_file_are_all.Goals as goal

pub returns : goal.returns
returns c = pages_are_all
