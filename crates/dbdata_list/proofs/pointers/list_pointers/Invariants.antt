use Rattle.std.proofs.Common.{◌≡◌, ◌+◌, ◌-◌, length}
use Rattle.page_access.specs.Cache.{IsCacheOf}
use Rattle.page_access.specs.Files.{FewReads, file_of}
use Rattle.page_access.specs.Outside.{KeepsSink}
use Rattle.page_access.proofs.Keeps.{Passed}
use Rattle.dbdata_list.specs.Listing.{page_pointers, pages_text, pointers_text}
use Rattle.dbdata_list.proofs.Told.{ToldFront}
use Rattle.dbdata_list.proofs.pointers.list_pointers.Given as goal

-- the pages before this one are listed
abbrev pub invariant-loop-done : goal.invariant-loop-done
invariant-loop-done g l =
    let s = g.S.Source in
    let r = g.R.Sink in
    ToldFront (s.bytes l.initial.src) (r.bytes l.initial.to) (r.bytes l.to) (r.faults l.initial.to) (r.faults l.to)
    (λ all. pages_text (page_pointers (file_of all l.geo)) (l.geo.pages - l.done) (l.done + 1)) (λ all. pointers_text (file_of all l.geo))
    × Passed s.bytes s.attached s.faults s.reads l.initial.src l.src
    × KeepsSink r.created r.finished r.faults l.initial.to l.to
    × (r.faults l.to ≡ r.faults l.initial.to)
    × IsCacheOf (s.bytes l.src) l.geo l.cache
    × (length l.accepted ≡ l.geo.usable)
    × FewReads (s.bytes l.initial.src) l.geo (s.reads l.initial.src) (s.reads l.src) l.done
