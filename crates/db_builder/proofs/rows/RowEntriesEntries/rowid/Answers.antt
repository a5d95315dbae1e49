use Rattle.std.proofs.Common.{◌∙◌, ap, sym, arith}
use Rattle.table_shape.specs.declared.rows.OutRow.{OutRow}
use Rattle.tree_writer.specs.Entry.{Entry}
use Rattle.db_builder.proofs.Viewing.{entry_is, rows_len}
use Rattle.db_builder.proofs.rows.RowEntriesEntries.rowid.Goals as goal

pub returns : goal.returns
returns c =
    ap (λ (r : OutRow). r.rowid) (sym c.index-self-i.is)
    ∙ sym (ap (λ (e : Entry). e.rowid) (entry_is c.args.self.now.rows.now c.args.i c.index-self-i.result (omega (arith, rows_len c.args.self.now.rows.now)) c.index-self-i.is))
