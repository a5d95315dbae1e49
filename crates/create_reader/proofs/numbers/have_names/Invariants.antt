use Rattle.std.proofs.Common.{◌≡◌, drop, map}
use Rattle.create_reader.specs.Numbers.{same_names}
use Rattle.std.specs.List.{list_any}
use Rattle.create_reader.specs.Views.{constraint_seen}
use Rattle.create_reader.proofs.numbers.have_names.Given as goal

abbrev pub invariant-loop-earlier : goal.invariant-loop-earlier
invariant-loop-earlier l = list_any (λ e. same_names e.names l.names) (map (λ k. constraint_seen l.columns k.now) (drop l.earlier-index l.taken))
    ≡ list_any (λ e. same_names e.names l.names) (map (λ k. constraint_seen l.columns k.now) l.taken)
