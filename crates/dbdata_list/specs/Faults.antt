-- Faults of a listing (docs/TEXTS.md, "Listings").
use Rattle.page_access.specs.declared.outside.ReadFault.{ReadFault}
use Rattle.page_access.specs.declared.outside.ReadFault.TheVariants as read
use Rattle.dbdata_list.specs.declared.faults.ListFault.{ListFault}
use Rattle.dbdata_list.specs.declared.faults.ListFault.TheVariants.{Source, Memory}

-- the fault of a listing where reading failed
abbrev pub of_read : ReadFault → ListFault
of_read read.Source = Source
of_read read.Memory = Memory
