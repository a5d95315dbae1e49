use Rattle.trial_file.proofs.Text.{is_create, no_fault}
use Rattle.trial_file.proofs.laws.the_text_of_a_trial_has_no_fault.Goals as goal

pub returns-clause-means : goal.returns-clause-means
returns-clause-means c = is_create

pub returns-clause-none : goal.returns-clause-none
returns-clause-none c = no_fault
