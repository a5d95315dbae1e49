-- Faults of a build.
use Rattle.db_builder.specs.declared.faults.BuildFault.{BuildFault}
use Rattle.db_builder.specs.declared.faults.BuildFault.TheVariants as built
use Rattle.db_builder.specs.declared.faults.PrepareFault.{PrepareFault}
use Rattle.db_builder.specs.declared.faults.PrepareFault.TheVariants.{TooLarge, Memory}

-- a fault of preparing is one of building
abbrev pub build_fault : PrepareFault → BuildFault
build_fault (TooLarge load) = built.TooLarge load
build_fault Memory = built.Memory
