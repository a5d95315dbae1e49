use Rattle.std.proofs.Common.{◌≡◌, ◌<◌, ◌≤◌, ◌+◌, ◌-◌, ◌*◌, length, count_by, IfSome}
use Rattle.std.specs.List.{range_with_len}
use Rattle.page_access.specs.Outside.{KeepsSource}
use Rattle.page_access.specs.Pages.{page_of}
use Rattle.page_size.specs.Score.{is_plausible, plausible_pages}
use Rattle.page_size.proofs.scores.count_plausible.Given as goal

abbrev pub invariant-loop-number : goal.invariant-loop-number
invariant-loop-number g l = record {
  same_length : length l.page ≡ length l.initial.page;
  fits : l.count < l.number;
  kept : KeepsSource g.S.Source.bytes g.S.Source.attached g.S.Source.faults g.S.Source.reads l.initial.src l.src;
  steady : g.S.Source.faults l.src ≡ g.S.Source.faults l.initial.src;
  counted : IfSome (g.S.Source.bytes l.initial.src)
      (λ all. l.count
      + count_by (λ p. is_plausible (page_of all l.geo.page_size p) p l.geo.usable l.geo.pages)
      (range_with_len l.number (l.geo.pages + 1 - l.number))
      ≡ plausible_pages all l.geo.page_size l.geo.usable l.geo.pages);
  read : IfSome (g.S.Source.bytes l.initial.src)
      (λ all. l.geo.pages * l.geo.page_size ≤ length all → g.S.Source.reads l.src + 1 ≤ g.S.Source.reads l.initial.src + l.number);
}
