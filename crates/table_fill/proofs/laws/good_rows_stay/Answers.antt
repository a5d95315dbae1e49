use Rattle.table_fill.proofs.Staying.{rows_stay}
use Rattle.table_fill.proofs.laws.good_rows_stay.Goals as goal

pub returns : goal.returns
returns c = rows_stay
