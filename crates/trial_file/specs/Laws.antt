-- What holds of the database of a trial (docs/FORMAT.md, "The database of a trial").
use Rattle.std.specs.Prelude.{◌≡◌, ◌≤◌, ℕ}
use Rattle.create_reader.specs.declared.faults.CreateFault.{CreateFault}
use Rattle.create_reader.specs.declared.faults.CreateFault.TheVariants.{Memory}
use Rattle.create_reader.specs.Outcome.{HasFault, IsCreate}
use Rattle.table_shape.specs.declared.shapes.TableShape.{TableShape}
use Rattle.table_shape.specs.Seen.{shape_seen}
use Rattle.db_builder.specs.declared.databases.OutDb.{OutDb}
use Rattle.db_builder.specs.Valid.{IsValid}
use Rattle.trial_file.specs.Trial.{IsSmall, IsTrial, most_rows, table_shape, table_text}

-- it can be written
abbrev pub IsAlwaysValid : Type 0
IsAlwaysValid = (n : ℕ) (db : OutDb) → n ≤ most_rows → IsTrial n db → IsValid db

-- its file is small
abbrev pub IsAlwaysSmall : Type 0
IsAlwaysSmall = (n : ℕ) (db : OutDb) → n ≤ most_rows → IsTrial n db → IsSmall n db

-- its text means the shape, and has no fault, but that memory may run out
abbrev pub TextIsSound : Type 0
TextIsSound = IsCreate table_text table_shape

abbrev pub TextHasNoFault : Type 0
TextHasNoFault = (shape : TableShape) (fault : CreateFault) → shape_seen shape ≡ table_shape → HasFault table_text fault → fault ≡ Memory
