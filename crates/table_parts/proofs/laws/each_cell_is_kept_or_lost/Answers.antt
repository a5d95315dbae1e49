use Rattle.table_parts.proofs.Kept.{each_cell}
use Rattle.table_parts.proofs.laws.each_cell_is_kept_or_lost.Goals as goal

pub returns : goal.returns
returns c = each_cell
