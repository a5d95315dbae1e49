use Rattle.std.proofs.Common.{List, [], ℕ, ap, append-nil, sym, take, ◌∙◌}
use Rattle.page_access.proofs.Gains.{front_as, front_out, front_start, front_step, writes_same}
use Rattle.dbdata_list.specs.Text.{cell_text, fields_text, rowid_text}
use Rattle.dbdata_list.proofs.Pieces.{cut_back}
use Rattle.dbdata_list.proofs.lines.put_row.Goals as goal

pub returns-in_err-put_rowid-clause-writes : goal.returns-in_err-put_rowid-clause-writes
returns-in_err-put_rowid-clause-writes g c =
    front_out (fields_text (cell_text c.args.line.now.items c.args.cell) 0 c.args.values.now) c.from_residual.ensures.0 (front_start _ _ _)
    (writes_same (ap (λ (p : List ℕ). rowid_text p c.args.rowid) c.add_cell.ensures.text) c.in_err-put_rowid.ensures.writes)

pub returns-in_err-put_fields-clause-writes : goal.returns-in_err-put_fields-clause-writes
returns-in_err-put_fields-clause-writes g c =
    let place = cell_text c.args.line.now.items c.args.cell in
    let fields = fields_text place 0 c.args.values.now in
    front_out [] c.from_residual-in_err-put_fields.ensures.0
    (front_as (sym (append-nil fields)) (front_step fields (front_start _ _ _)
    (writes_same (ap (λ (p : List ℕ). rowid_text p c.args.rowid) c.add_cell.ensures.text) c.in_ok-put_rowid.ensures.writes)))
    (writes_same (ap (λ (p : List ℕ). fields_text p 0 c.args.values.now) (c.in_ok-put_rowid.ensures.line ∙ c.add_cell.ensures.text))
    c.in_err-put_fields.ensures.writes)

pub returns-clause-line : goal.returns-clause-line
returns-clause-line g c =
    c.truncate.ensures.items
    ∙ ap (take c.len-start.result) (c.in_ok-put_fields.ensures.line ∙ c.in_ok-put_rowid.ensures.line ∙ c.add_cell.ensures.text)
    ∙ cut_back c.args.line.now.items c.args.cell c.len-start.result c.len-start.ensures.value
