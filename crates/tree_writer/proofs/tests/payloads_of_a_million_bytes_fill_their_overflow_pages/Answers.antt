use Rattle.std.proofs.Common.{true, lit≤}
use Rattle.tree_writer.proofs.Alike.{are_alike, rise_alike}
use Rattle.tree_writer.proofs.tests.payloads_of_a_million_bytes_fill_their_overflow_pages.Goals as goal

pub table-requires-clause-entries : goal.table-requires-clause-entries
table-requires-clause-entries g c = are_alike true 1000000 2 (lit≤ tt) (lit≤ tt)

pub table-requires-clause-rowids : goal.table-requires-clause-rowids
table-requires-clause-rowids g c = rise_alike 1000000 2
