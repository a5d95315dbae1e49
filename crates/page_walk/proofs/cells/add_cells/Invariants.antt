use Rattle.page_walk.proofs.Going.{Going}
use Rattle.page_walk.proofs.cells.add_cells.Given as goal

abbrev pub invariant-loop-i : goal.invariant-loop-i
invariant-loop-i g l =
    Going g.S.Source.bytes g.S.Source.attached g.S.Source.faults g.S.Source.reads l.geo l.bytes l.shape l.page
    l.fn.src l.src l.fn.table l.table l.fn.to.items l.to.items l.i l.accepted
