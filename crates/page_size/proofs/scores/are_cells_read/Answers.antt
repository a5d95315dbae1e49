use Rattle.std.proofs.Common.{◌∙◌, ap, sym, is_ok, arith}
use Rattle.page_size.proofs.Counts.{all_next}
use Rattle.page_size.proofs.scores.are_cells_read.Goals as goal

pub loop-i-preserved : goal.loop-i-preserved
loop-i-preserved c = all_next _ _ _ _ c.loop-i-test.true (ap is_ok (sym c.cell.ensures.exact) ∙ grind (arith, c.is_err.ensures, c.if-is_err.false)) c.loop-i.invariant
