use Rattle.std.proofs.Common.{◌≡◌, ◌≤◌}
use Rattle.page_access.specs.Cache.{HasAll, IsCacheOf}
use Rattle.page_walk.proofs.Recent.{Recent}
use Rattle.page_walk.proofs.Surveying.{Surveying}
use Rattle.page_walk.proofs.surveys.survey.Given as goal

abbrev pub invariant-loop-before : goal.invariant-loop-before
invariant-loop-before g l = record {
  surveying : Surveying g.S.Source.bytes g.S.Source.attached g.S.Source.faults g.S.Source.reads l.geo l.fn.src l.src l.kinds.items l.before;
  cached : IsCacheOf (g.S.Source.bytes l.src) l.geo l.cache;
  slots : l.cache.slots ≡ l.fn.cache.slots;
  recent : l.geo.pages ≤ l.fn.cache.slots → Recent l.before l.cache.pairs;
  full : HasAll l.fn.cache → HasAll l.cache × (l.src ≡ l.fn.src);
}
