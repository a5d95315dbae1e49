-- How a salvage ends, and what it leaves in its three sinks (docs/TEXTS.md, "Statuses").
use Rattle.std.specs.Prelude.{◌≡◌, ◌⊎◌, ◌<◌, ◌≤◌, ℕ, ◌^◌, ◌-◌, min, Bool, true, false, Option, Some, None, IfSome, List, ◌++◌, length, map, sum_by, Result, Ok, Err, ⊤}
use Rattle.std.specs.List.{flat_map}
use Rattle.page_access.specs.Outside.{Gains, GainsPrefix, Rose}
use Rattle.report_text.specs.Lines.{line_text}
use Rattle.report_text.specs.declared.ReportLine.TheVariants as lines
use Rattle.table_shape.specs.declared.rows.OutTable.{OutTable}
use Rattle.db_builder.specs.Layout.{last_page, layout}
use Rattle.db_builder.specs.Load.{load}
use Rattle.db_builder.specs.Trees.{trees_of}
use Rattle.db_builder.specs.Valid.{IsValid}
use Rattle.layout_laws.specs.Written.{database_of as spelled_of}
use Rattle.well_formed.specs.Database.{Database}
use Rattle.well_formed.specs.Spells.{Spells}
use Rattle.salvage_files.specs.Files.{text_part}
use Rattle.salvage_core.specs.Back.{ComesBack}
use Rattle.salvage_core.specs.Holds.{Holds}
use Rattle.salvage_core.specs.Plan.{IsPlan, IsRefused}
use Rattle.salvage_core.specs.declared.faults.Fault.{Fault}
use Rattle.salvage_core.specs.declared.faults.Fault.TheVariants as faults
use Rattle.salvage_core.specs.declared.gathered.Gathered.{Gathered}
use Rattle.salvage_core.specs.declared.options.Options.{Options}
use Rattle.salvage_core.specs.declared.recovers.Summary.{Summary}

-- what a call leaves of a sink: its bytes before and after, its name, whether it was finished and is, its faults before and
-- after
pub record SinkTurn : Type 0 where
  pub before : Option (List ℕ)
  pub after : Option (List ℕ)
  pub name : Option (List ℕ)
  pub was_finished : Bool
  pub finished : Bool
  pub faults_before : ℕ
  pub faults_after : ℕ

abbrev pub turn_of : {R : Type 0} → (R → Option (List ℕ)) → (R → Option (List ℕ)) → (R → Bool) → (R → ℕ) → R → R → SinkTurn
turn_of bytes created finished faults old new = record {
  before = bytes old;
  after = bytes new;
  name = created new;
  was_finished = finished old;
  finished = finished new;
  faults_before = faults old;
  faults_after = faults new;
}

-- the sink gained all of a text, and is finished
pub record IsWhole (text : List ℕ) (t : SinkTurn) : Type 0 where
  pub gained : Gains t.before t.after text
  pub done : t.finished ≡ true
  pub steady : t.faults_after ≡ t.faults_before

-- the same under a name
pub record IsMade (name text : List ℕ) (t : SinkTurn) : Type 0 where
  pub whole : IsWhole text t
  pub name_is : t.name ≡ Some name

-- a call of the sink failed, and it gained a front of a text; it is not finished, or as finished as it was
pub record IsCut (text : List ℕ) (t : SinkTurn) : Type 0 where
  pub gained : GainsPrefix t.before t.after text
  pub rose : Rose t.faults_before t.faults_after
  pub unfinished : (t.finished ≡ false) ⊎ (t.finished ≡ t.was_finished)

-- the same of a sink that was to be created first: it is not finished
pub record IsUnmade (text : List ℕ) (t : SinkTurn) : Type 0 where
  pub cut : IsCut text t
  pub undone : t.finished ≡ false

-- ---- the three texts

abbrev pub database_of : Gathered → List ℕ
database_of g = layout g.page_size g.db

abbrev pub script_in : Gathered → List ℕ
script_in g = flat_map text_part g.script.items

abbrev pub pages_out : Gathered → ℕ
pages_out g = last_page g.page_size (trees_of g.db.tables.items)

abbrev pub report_of : Gathered → List ℕ
report_of g = flat_map line_text g.lines.items ++ line_text (lines.Written (pages_out g))

-- ---- the ends

-- where a salvage writes: the names of the database and of the script, and the three sinks
pub record Outputs : Type 0 where
  pub database : List ℕ
  pub script : List ℕ
  pub out_turn : SinkTurn
  pub script_turn : SinkTurn
  pub report_turn : SinkTurn

-- the rows of the tables that are built: all but those of the table of lost cells
abbrev pub rows_out : Gathered → ℕ
rows_out g = min (sum_by (λ (t : OutTable). length t.rows.items) g.db.tables.items) (2 ^ 64 - 1) - g.lost

-- all is done: of the plan of the input, where it tells its bytes, and what holds of all that is written
pub record IsDone (o : Options) (told : Option (List ℕ)) (to : Outputs) (s : Summary) : Type 0 where
  pub plan : Gathered
  pub planned : IfSome told (λ all. IsPlan o all plan)
  pub holds : IfSome told (λ all. Holds o all plan)
  -- a well-formed input comes back whole
  pub back : IfSome told (λ all. ComesBack o all plan)
  pub small : load plan.db ≤ o.load_limit
  -- the new file is well-formed; it spells the plan's database, and no other
  pub spells : Spells (database_of plan) (spelled_of plan.db)
  pub only : (other : Database) → Spells (database_of plan) other → other ≡ spelled_of plan.db
  pub database : IsMade to.database (database_of plan) to.out_turn
  pub script : IsMade to.script (script_in plan) to.script_turn
  pub report : IsWhole (report_of plan) to.report_turn
  pub pages_in : s.pages_in ≡ plan.uses.pages
  pub pages : s.pages_out ≡ pages_out plan
  pub rows : s.rows ≡ rows_out plan
  pub lost : s.lost ≡ plan.lost

-- the database is not written whole
pub record StopsAtDatabase (o : Options) (told : Option (List ℕ)) (to : Outputs) : Type 0 where
  pub plan : Gathered
  pub planned : IfSome told (λ all. IsPlan o all plan)
  pub database : IsUnmade (database_of plan) to.out_turn

-- it is, and the script is not
pub record StopsAtScript (o : Options) (told : Option (List ℕ)) (to : Outputs) : Type 0 where
  pub plan : Gathered
  pub planned : IfSome told (λ all. IsPlan o all plan)
  pub database : IsMade to.database (database_of plan) to.out_turn
  pub script : IsUnmade (script_in plan) to.script_turn

-- both are, and the report is not
pub record StopsAtReport (o : Options) (told : Option (List ℕ)) (to : Outputs) : Type 0 where
  pub plan : Gathered
  pub planned : IfSome told (λ all. IsPlan o all plan)
  pub database : IsMade to.database (database_of plan) to.out_turn
  pub script : IsMade to.script (script_in plan) to.script_turn
  pub report : IsCut (report_of plan) to.report_turn

-- the database is too large; it could be written, and a well-formed input would come back in it
pub record IsOver (o : Options) (told : Option (List ℕ)) (load_is : ℕ) : Type 0 where
  pub plan : Gathered
  pub planned : IfSome told (λ all. IsPlan o all plan)
  pub valid : IsValid plan.db
  pub back : IfSome told (λ all. ComesBack o all plan)
  pub over : o.load_limit < load plan.db
  pub told_load : load_is ≡ load plan.db

-- how a salvage ends
abbrev pub Ends : Options → Option (List ℕ) → Outputs → Result Summary Fault → Type 0
Ends o told to (Ok s) = IsDone o told to s
Ends o told to (Err faults.OutputFault) = StopsAtDatabase o told to
Ends o told to (Err faults.ScriptFault) = StopsAtScript o told to
Ends o told to (Err faults.ReportFault) = StopsAtReport o told to
Ends o told to (Err (faults.OutputTooLarge n)) = IsOver o told n
Ends o told to (Err fault) = IfSome told (λ all. IsRefused o all fault)

-- ---- steps

-- all three are written
pub record IsWritten (g : Gathered) (to : Outputs) (s : Summary) : Type 0 where
  pub database : IsMade to.database (database_of g) to.out_turn
  pub script : IsMade to.script (script_in g) to.script_turn
  pub report : IsWhole (report_of g) to.report_turn
  pub pages_in : s.pages_in ≡ g.uses.pages
  pub pages : s.pages_out ≡ pages_out g
  pub rows : s.rows ≡ rows_out g
  pub lost : s.lost ≡ g.lost

-- how the writing ends
abbrev pub EndsWriting : Gathered → Outputs → Result Summary Fault → Type 0
EndsWriting g to (Ok s) = IsWritten g to s
EndsWriting g to (Err faults.OutputFault) = IsUnmade (database_of g) to.out_turn
EndsWriting g to (Err faults.ScriptFault) =
    IsMade to.database (database_of g) to.out_turn × IsUnmade (script_in g) to.script_turn
EndsWriting g to (Err faults.ReportFault) =
    IsMade to.database (database_of g) to.out_turn
    × (IsMade to.script (script_in g) to.script_turn × IsCut (report_of g) to.report_turn)
EndsWriting g to (Err fault) = ⊥

-- the same of a database whose load is looked at first
abbrev pub EndsOut : Gathered → ℕ → Outputs → Result Summary Fault → Type 0
EndsOut g limit to (Ok s) = IsWritten g to s × ((load g.db ≤ limit) × Spells (database_of g) (spelled_of g.db))
EndsOut g limit to (Err (faults.OutputTooLarge n)) = (limit < load g.db) × (n ≡ load g.db)
EndsOut g limit to (Err faults.Memory) = ⊤
EndsOut g limit to (Err fault) = EndsWriting g to (Err fault)

-- nothing was written: the refusals that come before the first sink is asked
abbrev pub IsBefore : {A : Type 0} → Result A Fault → Type 0
IsBefore (Ok done) = ⊥
IsBefore (Err faults.OutputFault) = ⊥
IsBefore (Err faults.ScriptFault) = ⊥
IsBefore (Err faults.ReportFault) = ⊥
IsBefore (Err fault) = ⊤

-- the script was not begun, and the report was not
abbrev pub IsBeforeScript : {A : Type 0} → Result A Fault → Type 0
IsBeforeScript (Err faults.OutputFault) = ⊤
IsBeforeScript result = IsBefore result

abbrev pub IsBeforeReport : {A : Type 0} → Result A Fault → Type 0
IsBeforeReport (Err faults.ScriptFault) = ⊤
IsBeforeReport result = IsBeforeScript result

-- the numbers of a refusal are of its cause
abbrev pub HasNumbers : {A : Type 0} → Options → Result A Fault → Type 0
HasNumbers o (Err (faults.TooLarge len)) = o.input_limit < len
HasNumbers o (Err (faults.NoWholePage len size)) = (0 < len) × (len < size)
HasNumbers o (Err (faults.OutputTooLarge n)) = o.load_limit < n
HasNumbers o result = ⊤
