use Rattle.table_fill.proofs.Cells.{misfits_are}
use Rattle.table_fill.proofs.laws.misfits_do_not_fit.Goals as goal

pub returns : goal.returns
returns c = misfits_are
