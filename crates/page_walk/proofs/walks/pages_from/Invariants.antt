use Rattle.std.proofs.Common.{◌-◌, length}
use Rattle.page_walk.specs.Taking.{tail}
use Rattle.page_walk.proofs.Tails.{Reading, list_with}
use Rattle.page_walk.proofs.walks.pages_from.Given as goal

abbrev pub invariant-loop-here : goal.invariant-loop-here
invariant-loop-here l = Reading l.table l.first l.pages.items l.here

abbrev pub decreases-loop-here : goal.decreases-loop-here
decreases-loop-here l = length (tail l.first (list_with l.first l.table)) - length l.pages.items
