use Rattle.std.proofs.Common.{arith, false, lit≤}
use Rattle.cell_reader.specs.declared.shapes.Kind.TheVariants.{Index}
use Rattle.tree_writer.specs.Trees.{OfTree}
use Rattle.tree_writer.proofs.Alike.{are_alike, bare_alike, len-alike, length-alike}
use Rattle.tree_writer.proofs.tests.forty_index_entries_of_hundred_bytes_take_three_levels.Goals as goal

pub index-requires-clause-entries : goal.index-requires-clause-entries
index-requires-clause-entries g c = are_alike false 100 40 (lit≤ tt) (lit≤ tt)

pub index-requires-clause-rowids : goal.index-requires-clause-rowids
index-requires-clause-rowids g c = bare_alike 100 0 40

pub write_page-requires-clause-plan : goal.write_page-requires-clause-plan
write_page-requires-clause-plan g c = OfTree 512 Index c.in_ok-plan.ensures

pub write_page-requires-clause-room : goal.write_page-requires-clause-room
write_page-requires-clause-room g c = λ i lt. omega (arith, len-alike false 100 40 i (omega (arith, lt, length-alike false 100 0 40)))
