use Rattle.std.proofs.Common.{refl}
use Rattle.page_access.specs.Files.{file_of}
use Rattle.page_lists.specs.Table.{unused}
use Rattle.dbdata_list.specs.declared.faults.ListFault.TheVariants.{Sink}
use Rattle.dbdata_list.proofs.Told.{cells_told, passed_back, passed_on, put_failed, read_is_not_sink, told_left}
use Rattle.dbdata_list.proofs.Turns.{left_is}
use Rattle.dbdata_list.proofs.cells.list_cells.Goals as goal

pub returns-clause-left : goal.returns-clause-left
returns-clause-left g c =
    left_is _ (λ all. file_of all c.args.geo.now) c.args.page c.args.table.now c.cells_with.new.table c.in_ok-cells_with.ensures.table

pub returns-in_err-cells_with-clause-text : goal.returns-in_err-cells_with-clause-text
returns-in_err-cells_with-clause-text g c =
    told_left _ Sink _ _ _ _ c.from_residual.ensures.0 (λ e. read_is_not_sink _ (passed_on _ _ Sink c.from_residual.ensures.1 e))

pub returns-in_err-put_cells-clause-text : goal.returns-in_err-put_cells-clause-text
returns-in_err-put_cells-clause-text g c =
    put_failed _ c.from_residual-in_err-put_cells.result _ _ _ _ _ _ _ c.from_residual-in_err-put_cells.ensures.0
    (passed_back _ _ Sink c.from_residual-in_err-put_cells.ensures.1 refl)
    (cells_told _ c.args.geo.now c.args.page (unused c.args.table.now) c.clear.new.self.items c.cells_with.new.to.items c.deref.result.now
    c.clear.ensures.items c.deref.ensures.value c.in_ok-cells_with.ensures.value)
    c.in_err-put_cells.ensures.writes
