use Rattle.std.proofs.Common.{length}
use Rattle.page_lists.specs.Table.{unused}
use Rattle.freelist_core.proofs.Marking.{Marking}
use Rattle.freelist_core.proofs.marks.mark_free.Given as goal

abbrev pub invariant-loop-buffer : goal.invariant-loop-buffer
invariant-loop-buffer g l =
    Marking g.S.Source.bytes g.S.Source.attached g.S.Source.faults g.S.Source.reads l.geo l.first_trunk l.fn.src l.src l.fn.table l.table l.at

abbrev pub decreases-loop-buffer : goal.decreases-loop-buffer
decreases-loop-buffer g l = length (unused l.table)
