use Rattle.std.proofs.Common.{ℕ, List, drop, length}
use Rattle.page_access.specs.Outside.{KeepsSink}
use Rattle.page_access.proofs.Gains.{WroteFront}
use Rattle.tree_writer.specs.Numbers.{number_of}
use Rattle.tree_writer.specs.Planned.{IsHeld}
use Rattle.db_builder.specs.Layout.{paged}
use Rattle.db_builder.specs.Written.{ArePages}
use Rattle.db_builder.proofs.writes.put_pages.Given as goal

-- the payload that is held, and the pages before this one are put
abbrev pub invariant-loop-j : goal.invariant-loop-j
invariant-loop-j g l =
    let s = g.O.Sink in
    let es = g.N.Entries.entries l.entries in
    let number = number_of l.numbers.start l.numbers.lock in
    IsHeld es l.held l.scratch
    × ((pages : List (List ℕ)) → ArePages es number l.plan l.first pages
    → WroteFront (s.bytes l.initial.out) (s.bytes l.out) (s.faults l.initial.out) (s.faults l.out)
    (paged (length l.fn.page) number l.j (drop l.j pages)) (paged (length l.fn.page) number 0 pages))
    × KeepsSink s.created s.finished s.faults l.initial.out l.out
