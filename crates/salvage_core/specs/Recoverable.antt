-- What stands in the way of a recovery, and where nothing does (docs/TEXTS.md, "Statuses"; docs/FORMAT.md, "A well-formed
-- file").
use Rattle.std.specs.Prelude.{◌≡◌, ◌≤◌, ◌⊎◌, ◌^◌, ℕ, Some, List}
use Rattle.page_access.specs.Files.{max_input}
use Rattle.well_formed.specs.Database.{Database}
use Rattle.well_formed.specs.Spells.{Spells}
use Rattle.round_trip.specs.Scope.{IsInScope}
use Rattle.salvage_core.specs.Back.{ArePlain}
use Rattle.salvage_core.specs.Outcome.{IsOver}
use Rattle.salvage_core.specs.Plan.{IsRefused}
use Rattle.salvage_core.specs.declared.faults.Fault.{Fault}
use Rattle.salvage_core.specs.declared.faults.Fault.TheVariants as faults
use Rattle.salvage_core.specs.declared.options.Options.{Options}

-- nothing but a failing source or want of memory stands in the way of a recovery of these bytes
pub record IsRecoverable (o : Options) (all : List ℕ) : Type 0 where
  pub read : (fault : Fault) → IsRefused o all fault → (fault ≡ faults.InputFault) ⊎ (fault ≡ faults.Memory)
  pub small : (load : ℕ) → IsOver o (Some all) load → ⊥

-- the limits let through inputs of 2^28 bytes, and databases with a load of 2^31
pub record AreWide (o : Options) : Type 0 where
  pub input : max_input ≤ o.input_limit
  pub load : 2 ^ 31 ≤ o.load_limit

-- the bytes spell a database, and are in scope
pub record IsWhole (all : List ℕ) : Type 0 where
  pub database : Database
  pub spells : Spells all database
  pub scope : IsInScope all database

-- so nothing stands in the way of a recovery of them
abbrev pub NeverBarred : Type 0
NeverBarred = (o : Options) (all : List ℕ) → ArePlain o → AreWide o → IsWhole all → IsRecoverable o all
