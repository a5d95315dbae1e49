use Rattle.std.proofs.Common.{◌≡◌, ◌++◌, [], drop, length}
use Rattle.create_reader.specs.Index.{AreMarked}
use Rattle.create_reader.specs.Meaning.{places}
use Rattle.create_reader.proofs.Lookup.{clash}
use Rattle.create_reader.proofs.places.places.Given as goal

abbrev pub invariant-loop-name : goal.invariant-loop-name
invariant-loop-name l = (length l.met.items ≡ length l.columns) × AreMarked l.found.items l.met.items
    × (clash l.columns l.found.items (drop l.name-index l.names) ≡ clash l.columns [] l.names)
    × (l.found.items ++ places l.columns (drop l.name-index l.names) ≡ places l.columns l.names)
