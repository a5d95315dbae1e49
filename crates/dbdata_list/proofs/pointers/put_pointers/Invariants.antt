use Rattle.std.proofs.Common.{drop}
use Rattle.page_access.specs.Outside.{KeepsSink}
use Rattle.page_access.proofs.Gains.{WroteFront}
use Rattle.dbdata_list.specs.Text.{pointer_lines}
use Rattle.dbdata_list.proofs.pointers.put_pointers.Given as goal

-- the lines of the children before this one are written
abbrev pub invariant-loop-child : goal.invariant-loop-child
invariant-loop-child g l =
    let s = g.R.Sink in
    WroteFront (s.bytes l.initial.to) (s.bytes l.to) (s.faults l.initial.to) (s.faults l.to)
    (pointer_lines l.page (drop l.child-index l.children)) (pointer_lines l.page l.children)
    × KeepsSink s.created s.finished s.faults l.initial.to l.to
