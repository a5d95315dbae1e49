use Rattle.std.proofs.Common.{◌≡◌, ◌++◌, drop, filter}
use Rattle.table_shape.specs.Entries.{follows}
use Rattle.table_shape.proofs.keys.entry_parts.Given as goal

abbrev pub invariant-loop-part : goal.invariant-loop-part
invariant-loop-part l = l.parts.items ++ filter (λ p. follows l.own p.spot) (drop l.part-index l.part-items) ≡ l.own ++ filter (λ p. follows l.own p.spot) l.part-items
