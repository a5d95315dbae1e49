use Rattle.clear_paths.proofs.Rows.{rows_come_back}
use Rattle.clear_paths.proofs.laws.clear_rows_come_back.Goals as goal

pub returns : goal.returns
returns c = rows_come_back
