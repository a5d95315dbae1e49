use Rattle.std.proofs.Common.{sym}
use Rattle.dbdata_list.proofs.cells.put_cell.Goals as goal

pub returns-in-Taken-clause-writes : goal.returns-in-Taken-clause-writes
returns-in-Taken-clause-writes g c = rw (c.in-Taken.is, sym c.deref.ensures.value) c.put_row.ensures.writes

pub returns-in-Unread-clause-writes : goal.returns-in-Unread-clause-writes
returns-in-Unread-clause-writes g c = rw (c.in-Unread.is, sym c.cause_word.ensures.text) c.put_unread.ensures.writes
