use Rattle.std.proofs.Common.{◌≡◌, drop, take}
use Rattle.std.specs.Vec.Iter.{into_iter_items}
use Rattle.table_fill.specs.Maps.{AddedByAll}
use Rattle.table_fill.proofs.maps.add_all.Given as goal

abbrev pub invariant-loop-map : goal.invariant-loop-map
invariant-loop-map l = record {
  rest : into_iter_items l.keys ≡ drop l.map-index l.fn.keys.items;
  added : AddedByAll (take l.map-index l.fn.keys.items) l.place l.fn.maps l.maps;
}
