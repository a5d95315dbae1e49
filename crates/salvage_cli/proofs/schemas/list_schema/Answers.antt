use Rattle.dbdata_list.specs.Faults.{of_read}
use Rattle.dbdata_list.specs.declared.faults.ListFault.TheVariants.{Sink}
use Rattle.dbdata_list.proofs.Told.{passed_on, told_left}
use Rattle.salvage_cli.proofs.SchemaLines.{not_sinks}
use Rattle.salvage_cli.proofs.schemas.list_schema.Goals as goal

pub returns-in_err-schema-clause-text : goal.returns-in_err-schema-clause-text
returns-in_err-schema-clause-text g c =
    told_left _ Sink _ _ _ _ c.from_residual.ensures.0
    (λ e. not_sinks c.in_err-schema.field-0.0 (passed_on _ (of_read c.in_err-schema.field-0.0) Sink c.from_residual.ensures.1 e))
