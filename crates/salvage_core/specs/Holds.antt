-- What holds of all that is written of an input (docs/PROMISES.md).
use Rattle.std.specs.Prelude.{ℕ, Option, Some, Result, Ok, List, ⊤}
use Rattle.std.specs.List.{AllByRecursion}
use Rattle.page_access.specs.Pages.{File}
use Rattle.page_size.specs.Rule.{Finding}
use Rattle.input_pages.specs.Input.{left_of}
use Rattle.input_pages.specs.declared.faults.InputFault.{InputFault}
use Rattle.salvage_laws.specs.Laws.{SalvageHolds}
use Rattle.salvage_laws.specs.Told.{IsTold}
use Rattle.clear_paths.specs.Clear.{roots_of}
use Rattle.clear_paths.specs.Laws.{ClearRowsAreBack}
use Rattle.salvage_core.specs.Plan.{IsFilePlan, file_by, input_of, pages_in}
use Rattle.salvage_core.specs.declared.gathered.Gathered.{Gathered}
use Rattle.salvage_core.specs.declared.options.Options.{Options}

-- A plan of a file, and what holds of it.
pub record PlanHolds (o : Options) (found : Finding) (left : ℕ) (f : File) (g : Gathered) : Type 0 where
  pub plan : IsFilePlan o found left f g
  -- each cell that is written has its evidence, shares nothing with another, and is a readable cell; each of these is written
  pub cells : SalvageHolds f (pages_in f) plan.fates plan.orphans plan.cells
  -- the report tells why a cell of a table's tree is no row of the table
  pub told : AllByRecursion (IsTold g.lines.items) plan.fates
  -- a row that fits a table that is built, on a clear path from the table's root, is a row of the table, or its clash is told
  pub clear : AllByRecursion (ClearRowsAreBack f (roots_of g.schema.items) g.lines.items) plan.fates

-- the same of an input with these pages; of an empty one there is nothing to say
abbrev pub HoldsBy : Options → List ℕ → Result (Option Finding) InputFault → Gathered → Type 0
HoldsBy o all (Ok (Some f)) g = PlanHolds o f (left_of all f) (file_by all f) g
HoldsBy o all pages g = ⊤

abbrev pub Holds : Options → List ℕ → Gathered → Type 0
Holds o all g = HoldsBy o all (input_of o all) g
