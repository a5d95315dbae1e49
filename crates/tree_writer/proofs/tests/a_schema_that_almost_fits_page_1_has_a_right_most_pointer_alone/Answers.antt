use Rattle.std.proofs.Common.{arith, true, lit≤}
use Rattle.tree_writer.specs.Trees.{OfSchema}
use Rattle.tree_writer.proofs.Alike.{are_alike, len-alike, length-alike, rise_alike}
use Rattle.tree_writer.proofs.tests.a_schema_that_almost_fits_page_1_has_a_right_most_pointer_alone.Goals as goal

pub schema-requires-clause-entries : goal.schema-requires-clause-entries
schema-requires-clause-entries g c = are_alike true 98 4 (lit≤ tt) (lit≤ tt)

pub schema-requires-clause-rowids : goal.schema-requires-clause-rowids
schema-requires-clause-rowids g c = rise_alike 98 4

pub write_page-requires-clause-plan : goal.write_page-requires-clause-plan
write_page-requires-clause-plan g c = OfSchema 512 c.in_ok-plan.ensures

pub write_page-requires-clause-room : goal.write_page-requires-clause-room
write_page-requires-clause-room g c = λ i lt. omega (arith, len-alike true 98 4 i (omega (arith, lt, length-alike true 98 0 4)))

pub write_next-held-requires-clause-plan : goal.write_next-held-requires-clause-plan
write_next-held-requires-clause-plan g c = OfSchema 512 c.in_ok-plan.ensures

pub write_next-held-requires-clause-room : goal.write_next-held-requires-clause-room
write_next-held-requires-clause-room g c = λ i lt. omega (arith, len-alike true 98 4 i (omega (arith, lt, length-alike true 98 0 4)))
