use Rattle.std.proofs.Common.{length, ◌-◌, ◌≡◌, ◌≤◌, IfSome}
use Rattle.page_access.specs.Outside.{KeepsSource}
use Rattle.page_access.proofs.Parts.{IsRead, OneTurn}
use Rattle.page_access.proofs.loads.read_full.Given as goal

abbrev pub invariant-loop-done : goal.invariant-loop-done
invariant-loop-done g l = record {
  inside : l.done ≤ length l.to;
  same_length : length l.to ≡ length l.initial.to;
  kept : KeepsSource g.S.Source.bytes g.S.Source.attached g.S.Source.faults g.S.Source.reads l.initial.src l.src;
  steady : g.S.Source.faults l.src ≡ g.S.Source.faults l.initial.src;
  read : IfSome (g.S.Source.bytes l.initial.src) (λ all. IsRead all l.start l.done l.to);
  turn : IfSome (g.S.Source.bytes l.initial.src)
      (λ all. OneTurn (length l.initial.to) (length all) l.start l.done (g.S.Source.reads l.initial.src) (g.S.Source.reads l.src));
}

abbrev pub decreases-loop-done : goal.decreases-loop-done
decreases-loop-done g l = length l.initial.to - l.done
