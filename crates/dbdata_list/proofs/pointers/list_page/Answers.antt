use Rattle.dbdata_list.specs.declared.faults.ListFault.TheVariants.{Sink}
use Rattle.dbdata_list.proofs.Told.{passed_on, read_is_not_sink, told_left}
use Rattle.dbdata_list.proofs.pointers.list_page.Goals as goal

pub returns-in_err-pointers_with-clause-text : goal.returns-in_err-pointers_with-clause-text
returns-in_err-pointers_with-clause-text g c =
    told_left _ Sink _ _ _ _ c.from_residual.ensures.0 (λ e. read_is_not_sink _ (passed_on _ _ Sink c.from_residual.ensures.1 e))
