use Rattle.std.proofs.Common.{◌≡◌, ◌≤◌, ◌+◌, ◌-◌, length}
use Rattle.page_access.specs.Cache.{IsCacheOf}
use Rattle.page_access.specs.Files.{file_of}
use Rattle.page_access.specs.Outside.{KeepsSink}
use Rattle.page_access.proofs.Keeps.{Passed}
use Rattle.page_lists.specs.Table.{unused}
use Rattle.dbdata_list.specs.Listing.{data_text, pages_data}
use Rattle.dbdata_list.specs.Reads.{FewReadsOf}
use Rattle.dbdata_list.proofs.Told.{ToldFront}
use Rattle.dbdata_list.proofs.cells.list_data.Given as goal

-- the pages before this one are listed
abbrev pub invariant-loop-done : goal.invariant-loop-done
invariant-loop-done g l =
    let s = g.S.Source in
    let r = g.R.Sink in
    ToldFront (s.bytes l.initial.src) (r.bytes l.initial.to) (r.bytes l.to) (r.faults l.initial.to) (r.faults l.to)
    (λ all. pages_data (file_of all l.geo) (l.geo.pages - l.done) (l.done + 1) (unused l.table)) (λ all. data_text (file_of all l.geo))
    × Passed s.bytes s.attached s.faults s.reads l.initial.src l.src
    × KeepsSink r.created r.finished r.faults l.initial.to l.to
    × (r.faults l.to ≡ r.faults l.initial.to)
    × (l.table.pages ≡ l.geo.pages)
    × (7 ≤ length l.table.lists)
    × IsCacheOf (s.bytes l.src) l.geo l.cache
    × (length l.accepted ≡ l.geo.usable)
    × FewReadsOf (s.bytes l.initial.src) l.geo l.table (s.reads l.initial.src) (s.reads l.src) l.done
