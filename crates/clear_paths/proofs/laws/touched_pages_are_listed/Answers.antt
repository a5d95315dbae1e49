use Rattle.clear_paths.proofs.Touched.{counts_are_same, touched_are_listed}
use Rattle.clear_paths.proofs.laws.touched_pages_are_listed.Goals as goal

pub returns-clause-listed : goal.returns-clause-listed
returns-clause-listed c = touched_are_listed

pub returns-clause-counts : goal.returns-clause-counts
returns-clause-counts c = counts_are_same
