use Rattle.std.proofs.Common.{FitsSigned, rules, w64}
use Rattle.std.proofs.lemmas.Int.{to_z-of_z}
use Rattle.page_access.proofs.Gains.{front_last, front_out, front_step}
use Rattle.report_text.proofs.Parts.{from_name, from_root, from_tbl, name_put, row_start}
use Rattle.report_text.proofs.put_line.Goals as goal

pub returns-in_err-put_start-in-Row-clause-writes : goal.returns-in_err-put_start-in-Row-clause-writes
returns-in_err-put_start-in-Row-clause-writes g c =
    front_out (from_name c.in-Row.name c.in-Row.tbl c.in-Row.root c.in-Row.sql) c.from_residual.ensures.0
    (row_start c.in-Row.is)
    c.in_err-put_start-in-Row.ensures.writes

pub returns-in_err-put_name-in-Row-clause-writes : goal.returns-in_err-put_name-in-Row-clause-writes
returns-in_err-put_name-in-Row-clause-writes g c =
    front_out (from_tbl c.in-Row.tbl c.in-Row.root c.in-Row.sql) c.from_residual-in_err-put_name-in-Row.ensures.0
    (front_step (from_name c.in-Row.name c.in-Row.tbl c.in-Row.root c.in-Row.sql) (row_start c.in-Row.is) c.in_ok-put_start-in-Row.ensures.writes)
    (name_put c.as_slice.ensures c.in_err-put_name-in-Row.ensures.writes)

pub returns-in_err-put_name-in-Row-2-clause-writes : goal.returns-in_err-put_name-in-Row-2-clause-writes
returns-in_err-put_name-in-Row-2-clause-writes g c =
    front_out (from_root c.in-Row.root c.in-Row.sql) c.from_residual-in_err-put_name-in-Row-2.ensures.0
    (front_step (from_tbl c.in-Row.tbl c.in-Row.root c.in-Row.sql)
    (front_step (from_name c.in-Row.name c.in-Row.tbl c.in-Row.root c.in-Row.sql) (row_start c.in-Row.is) c.in_ok-put_start-in-Row.ensures.writes)
    (name_put c.as_slice.ensures c.in_ok-put_name-in-Row.ensures.writes))
    (name_put c.as_slice-in-Row.ensures c.in_err-put_name-in-Row-2.ensures.writes)

pub returns-in_ok-put_name-in-Row-2-clause-writes : goal.returns-in_ok-put_name-in-Row-2-clause-writes
returns-in_ok-put_name-in-Row-2-clause-writes g c =
    let fits : FitsSigned w64 c.in-Row.root = search rules in
    let end = simp to_z-of_z at c.put_end.ensures.writes in
    front_last
    (front_step (from_root c.in-Row.root c.in-Row.sql)
    (front_step (from_tbl c.in-Row.tbl c.in-Row.root c.in-Row.sql)
    (front_step (from_name c.in-Row.name c.in-Row.tbl c.in-Row.root c.in-Row.sql) (row_start c.in-Row.is) c.in_ok-put_start-in-Row.ensures.writes)
    (name_put c.as_slice.ensures c.in_ok-put_name-in-Row.ensures.writes))
    (name_put c.as_slice-in-Row.ensures c.in_ok-put_name-in-Row-2.ensures.writes))
    end
