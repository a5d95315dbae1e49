-- A trial: a database is made, its file is salvaged whole and with a page of zeros, and two lines tell what came back
-- (docs/FORMAT.md, "The database of a trial"; docs/TEXTS.md, "The lines of a trial").
use Rattle.std.specs.Prelude.{◌≡◌, ℕ, ◌^◌, None, false, Result, Ok, Err, List, ◌++◌, codes, ⊤}
use Rattle.page_access.specs.Files.{max_input}
use Rattle.db_builder.specs.declared.faults.BuildFault.{BuildFault}
use Rattle.db_builder.specs.declared.faults.BuildFault.TheVariants as built
use Rattle.db_builder.specs.declared.databases.OutDb.{OutDb}
use Rattle.db_builder.specs.Layout.{last_page, layout}
use Rattle.db_builder.specs.Trees.{trees_of}
use Rattle.layout_laws.specs.Written.{database_of}
use Rattle.well_formed.specs.Database.{Database}
use Rattle.round_trip.specs.Found.{IsFound}
use Rattle.salvage_core.specs.declared.faults.Fault.{Fault}
use Rattle.salvage_core.specs.declared.faults.Fault.TheVariants as faults
use Rattle.salvage_core.specs.declared.gathered.Gathered.{Gathered}
use Rattle.salvage_core.specs.declared.options.Options.{Options}
use Rattle.salvage_core.specs.Back.{IsBack}
use Rattle.salvage_core.specs.Outcome.{IsCut, IsWhole, SinkTurn, rows_out}
use Rattle.salvage_core.specs.Plan.{IsPlan}
use Rattle.trial_file.specs.Trial.{IsTrial}
use Rattle.salvage_trial.specs.declared.faults.TrialFault.{TrialFault}
use Rattle.salvage_trial.specs.declared.faults.TrialFault.TheVariants.{Sink, Memory}
use Rattle.salvage_trial.specs.Holes.{hole_of, page_size, with_hole}
use Rattle.salvage_trial.specs.Lines.{hole_line, whole_line}

-- the options of a recovery for which none is given
abbrev pub plain_options : Options
plain_options = record {
  page_size = None;
  reserved = None;
  freelist_corrupt = false;
  lost = codes "lost_and_found";
  input_limit = max_input;
  load_limit = 2 ^ 32;
}

-- the file of a database, and the number of its pages
abbrev pub file_of : OutDb → List ℕ
file_of db = layout page_size db

abbrev pub pages_of : OutDb → ℕ
pages_of db = last_page page_size (trees_of db.tables.items)

-- the same with a page of zeros
abbrev pub holed_file : ℕ → OutDb → List ℕ
holed_file n db = with_hole (hole_of n (pages_of db)) (file_of db)

-- The two lines of a trial of n rows: the whole file comes back with its n rows, and nothing is lost; of the file with a
-- page of zeros the numbers are those of its plan.
pub record IsTrialText (n : ℕ) (text : List ℕ) : Type 0 where
  pub db : OutDb
  pub made : IsTrial n db
  pub whole : Gathered
  pub whole_is : IsPlan plain_options (file_of db) whole
  pub back : IsBack (database_of db) whole
  pub holed : Gathered
  pub holed_is : IsPlan plain_options (holed_file n db) holed
  pub text_is : text ≡ whole_line n (pages_of db) n 0
      ++ hole_line (hole_of n (pages_of db)) (rows_out holed) holed.lost

-- how a trial ends: both lines are put, or a front of them; or memory ran out before
abbrev pub Ends : ℕ → SinkTurn → Result (Unit {0}) TrialFault → Type 0
Ends n t (Ok done) = (text : List ℕ) × IsTrialText n text × IsWhole text t
Ends n t (Err Sink) = (text : List ℕ) × IsTrialText n text × IsCut text t
Ends n t (Err Memory) = ⊤

-- ---- steps

-- bytes that are an input of pages, whose texts are not in UTF-16
abbrev pub IsReadable : List ℕ → Type 0
IsReadable bytes = (d : Database) × IsFound max_input bytes d

-- a build of a database that is not too large fails for want of memory alone, where its sink does
abbrev pub IsShort : BuildFault → Type 0
IsShort (built.TooLarge load) = ⊥
IsShort fault = ⊤

-- a salvage is refused for want of memory
abbrev pub IsWanting : Fault → Type 0
IsWanting faults.Memory = ⊤
IsWanting fault = ⊥
