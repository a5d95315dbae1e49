use Rattle.trial_file.proofs.Small.{always_valid}
use Rattle.trial_file.proofs.laws.the_database_of_a_trial_can_be_written.Goals as goal

pub returns : goal.returns
returns c = always_valid
