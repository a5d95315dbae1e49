use Rattle.std.proofs.Common.{Option, ap}
use Rattle.std.specs.Prelude.{ℤ}
use Rattle.salvaged_tables.specs.Fates.{stored_row}
use Rattle.page_walk.specs.Cells.{row_of}
use Rattle.salvaged_tables.proofs.Gaining.{gains_row}
use Rattle.salvaged_tables.proofs.tables.add_row.Goals as goal

pub returns : goal.returns
returns c =
    gains_row (stored_row c.args.without_rowid (row_of c.args.cell)) c.args.rows.now.items c.push.new.self.items c.args.places.now.items c.push-2.new.self.items _ _
    (ap (λ (rowid : Option ℤ). record {
      page = c.args.cell.place.page;
      cell = c.args.cell.place.cell;
      rowid = rowid;
      chain = c.args.cell.chain.items;
      fields = c.args.cell.fields.items;
    }) c.rowid_in.ensures) c.in_ok-push.ensures.items c.in_ok-push-2.ensures.items
