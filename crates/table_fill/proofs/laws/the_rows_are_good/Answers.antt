use Rattle.table_fill.proofs.Good.{rows_good}
use Rattle.table_fill.proofs.laws.the_rows_are_good.Goals as goal

pub returns : goal.returns
returns c = rows_good
