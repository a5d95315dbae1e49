use Rattle.std.proofs.Common.{◌≡◌, ◌&&◌, drop, map}
use Rattle.create_reader.specs.Numbers.{same_names}
use Rattle.std.specs.List.{list_any}
use Rattle.create_reader.specs.Views.{constraint_seen}
use Rattle.create_reader.proofs.causes.has_primary_like.Given as goal

abbrev pub invariant-loop-other : goal.invariant-loop-other
invariant-loop-other l = list_any (λ e. e.primary && same_names l.names e.names) (map (λ k. constraint_seen l.columns k.now) (drop l.other-index l.taken))
    ≡ list_any (λ e. e.primary && same_names l.names e.names) (map (λ k. constraint_seen l.columns k.now) l.taken)
