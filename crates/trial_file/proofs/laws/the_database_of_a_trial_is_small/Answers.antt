use Rattle.trial_file.proofs.Small.{always_small}
use Rattle.trial_file.proofs.laws.the_database_of_a_trial_is_small.Goals as goal

pub returns : goal.returns
returns c = always_small
