use Rattle.table_fill.proofs.Cells.{in_cell_order}
use Rattle.table_fill.proofs.Clashing.{is_kept, kept_is}
use Rattle.table_fill.proofs.laws.a_cell_is_kept_where_it_is_free.Goals as goal

pub returns-clause-exactly : goal.returns-clause-exactly
returns-clause-exactly c = λ t kept r. (
  λ e. let free = kept_is t kept r e in record { fit = free.0; apart = free.1 },
  λ free. is_kept t kept r free.fit free.apart,
)

pub returns-clause-order : goal.returns-clause-order
returns-clause-order c = in_cell_order
