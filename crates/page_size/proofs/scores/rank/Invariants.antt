use Rattle.std.proofs.Common.{◌≡◌, ◌≤◌, ◌+◌, ◌/◌, ◌++◌, length, drop, All, IfSome}
use Rattle.std.specs.Prelude.{sum_by}
use Rattle.page_access.specs.Outside.{KeepsSource}
use Rattle.page_access.specs.Pages.{page_sizes}
use Rattle.page_size.specs.Rule.{IsUsable}
use Rattle.page_size.specs.Score.{ranking}
use Rattle.page_size.proofs.Ranks.{scores_of}
use Rattle.page_size.proofs.scores.rank.Given as goal

abbrev pub invariant-loop-size : goal.invariant-loop-size
invariant-loop-size g l = record {
  room : length l.page ≡ 65536;
  kept : KeepsSource g.S.Source.bytes g.S.Source.attached g.S.Source.faults g.S.Source.reads l.initial.src l.src;
  steady : g.S.Source.faults l.src ≡ g.S.Source.faults l.initial.src;
  usable : All (λ s. IsUsable s.size l.reserved) l.scores.items;
  scored : IfSome (g.S.Source.bytes l.initial.src)
      (λ all. length all ≡ l.len → l.scores.items ++ scores_of all l.reserved (drop l.size-index page_sizes) ≡ ranking all l.reserved);
  read : IfSome (g.S.Source.bytes l.initial.src)
      (λ all. length all ≡ l.len →
      g.S.Source.reads l.src + sum_by (λ size. l.len / size) (drop l.size-index page_sizes)
      ≤ g.S.Source.reads l.initial.src + sum_by (λ size. l.len / size) page_sizes);
}
