use Rattle.std.proofs.Common.{◌≡◌, ◌++◌, map}
use Rattle.create_reader.specs.Meaning.{column_from}
use Rattle.std.specs.Vec.Iter.{into_iter_items}
use Rattle.create_reader.proofs.meaning.columns_from.Given as goal

abbrev pub invariant-loop-column : goal.invariant-loop-column
invariant-loop-column l = l.found.items ++ map column_from (into_iter_items l.column-iterator) ≡ map column_from l.fn.columns.items
