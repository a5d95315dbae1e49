-- Refusals of lower calls as those of a salvage (docs/TEXTS.md, "Statuses").
use Rattle.page_access.specs.declared.outside.ReadFault.{ReadFault}
use Rattle.page_access.specs.declared.outside.ReadFault.TheVariants as read
use Rattle.input_pages.specs.declared.faults.InputFault.{InputFault}
use Rattle.input_pages.specs.declared.faults.InputFault.TheVariants as input
use Rattle.db_builder.specs.declared.faults.PrepareFault.{PrepareFault}
use Rattle.db_builder.specs.declared.faults.PrepareFault.TheVariants as prepare
use Rattle.salvage_core.specs.declared.faults.Fault.{Fault}
use Rattle.salvage_core.specs.declared.faults.Fault.TheVariants as faults

-- the refusal where the input is not read
abbrev pub of_read : ReadFault → Fault
of_read read.Source = faults.InputFault
of_read read.Memory = faults.Memory

-- the refusal where its pages are not found
abbrev pub of_input : InputFault → Fault
of_input input.Source = faults.InputFault
of_input (input.TooLarge len) = faults.TooLarge len
of_input input.NoPageSize = faults.NoPageSize
of_input (input.NoWholePage len size) = faults.NoWholePage len size
of_input input.Memory = faults.Memory

-- the refusal where the database cannot be prepared
abbrev pub of_prepare : PrepareFault → Fault
of_prepare (prepare.TooLarge load) = faults.OutputTooLarge load
of_prepare prepare.Memory = faults.Memory
