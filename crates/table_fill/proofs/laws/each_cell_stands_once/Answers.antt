use Rattle.table_fill.proofs.Cells.{left_both}
use Rattle.table_fill.proofs.Good.{each_once}
use Rattle.table_fill.proofs.laws.each_cell_stands_once.Goals as goal

pub returns-clause-rows : goal.returns-clause-rows
returns-clause-rows c = each_once

pub returns-clause-left : goal.returns-clause-left
returns-clause-left c = left_both
