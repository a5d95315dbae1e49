use Rattle.std.proofs.Common.{◌≡◌, ◌+◌, length}
use Rattle.page_access.specs.Cache.{HasAll, IsCacheOf}
use Rattle.page_lists.specs.Table.{list_at, unused}
use Rattle.page_walk.proofs.Walking.{Queued, waiting}
use Rattle.page_walk.proofs.walks.walk_tree.Given as goal

abbrev pub invariant-loop-at : goal.invariant-loop-at
invariant-loop-at g l = record {
  marks : length l.accepted ≡ l.geo.usable;
  queued : Queued g.S.Source.bytes g.S.Source.attached g.S.Source.faults g.S.Source.reads l.geo l.kind
      l.root l.list l.fn.src l.src l.fn.table l.table l.first l.at;
  cached : IsCacheOf (g.S.Source.bytes l.src) l.geo l.cache;
  full : HasAll l.fn.cache → HasAll l.cache × (l.src ≡ l.fn.src);
}

abbrev pub decreases-loop-at : goal.decreases-loop-at
decreases-loop-at g l = length (unused l.table) + waiting l.at (list_at l.list l.table.lists)
