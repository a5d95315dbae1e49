use Rattle.std.proofs.Common.{◌∙◌, ap, sym, arith}
use Rattle.table_shape.specs.declared.rows.OutRow.{OutRow}
use Rattle.table_shape.specs.Keys.{StoredRow}
use Rattle.db_builder.proofs.Viewing.{row_is}
use Rattle.db_builder.proofs.rows.RowEntries.fields.Goals as goal

pub returns : goal.returns
returns c =
    c.as_slice.ensures.value ∙ ap (λ (r : OutRow). r.fields.items) (sym c.index-self-i.is)
    ∙ sym (ap (λ (r : StoredRow). r.fields) (row_is c.args.self.now.rows.now c.args.i c.index-self-i.result (omega arith) c.index-self-i.is))
