use Rattle.std.proofs.Common.{◌+◌, ◌∙◌, ap, length, pos, Some}
use Rattle.salvaged_tables.specs.Salvaged.{lost_seen}
use Rattle.salvaged_tables.proofs.Gaining.{gains_row}
use Rattle.lost_found.specs.Rows.{lost_row}
use Rattle.lost_found.proofs.rows.add_row.Goals as goal

pub returns-clause-row : goal.returns-clause-row
returns-clause-row c =
    gains_row (lost_row (length c.args.rows.now.items + 1) (lost_seen c.args.cell)) c.args.rows.now.items c.push.new.self.items
    c.args.places.now.items c.push-2.new.self.items _ _
    (λ i. record {
      page = c.args.cell.cell.place.page;
      cell = c.args.cell.cell.place.cell;
      rowid = (c.row_of.ensures.rowid ∙ ap (λ n. Some (pos (n + 1))) (c.len.ensures ∙ c.args.rows.now.ok.0)) i;
      chain = c.args.cell.cell.chain.items;
      fields = (ap (λ fields. fields.items) c.row_of.ensures.fields ∙ c.in_ok-fields.ensures) i;
    }) c.in_ok-push.ensures.items c.in_ok-push-2.ensures.items
