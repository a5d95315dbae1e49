-- What a recovery leaves (docs/TEXTS.md, "Statuses").
use Rattle.std.specs.Prelude.{◌≡◌, ◌^◌, ◌+◌, ◌≤◌, ℕ, List, codes, Option, Some, unwrap_or, Result, Ok, Err, IfSome, ⊤}
use Rattle.page_access.specs.Files.{max_input}
use Rattle.command_line.specs.Parts.{Asked, RecoveryAsked, Recovers}
use Rattle.salvage_core.specs.declared.faults.Fault.{Fault as CoreFault}
use Rattle.salvage_core.specs.declared.options.Options.{Options}
use Rattle.salvage_core.specs.declared.recovers.Summary.{Summary}
use Rattle.salvage_core.specs.Back.{ArePlain}
use Rattle.salvage_core.specs.Outcome.{Ends, IsDone, IsOver, Outputs, SinkTurn, StopsAtDatabase, StopsAtReport, StopsAtScript}
use Rattle.salvage_core.specs.Plan.{IsRefused}
use Rattle.salvage_core.specs.Reads.{most_reads}
use Rattle.salvage_core.specs.Recoverable.{IsRecoverable, IsWhole}
use Rattle.salvage_cli.specs.Answers.{fault_status, of_core}
use Rattle.salvage_cli.specs.declared.faults.Fault.{Fault}
use Rattle.salvage_cli.specs.declared.faults.Fault.TheVariants.{OutputFault, ScriptFault, ReportFault}

-- the name of the table of lost cells, where none is given
abbrev pub lost_and_found : List ℕ
lost_and_found = codes "lost_and_found"

-- the options of a recovery, with the limits of the program
abbrev pub options_of : RecoveryAsked → Options
options_of r = record {
  page_size = r.input.page_size;
  reserved = r.input.reserved;
  freelist_corrupt = r.freelist_corrupt;
  lost = unwrap_or r.lost lost_and_found;
  input_limit = max_input;
  load_limit = 2 ^ 32;
}

-- what a run makes of the sinks of the database, of the script and of the report
pub record Turns : Type 0 where
  pub out : SinkTurn
  pub script : SinkTurn
  pub report : SinkTurn

-- the same, with the names that the words give
abbrev pub outputs_of : RecoveryAsked → Turns → Outputs
outputs_of r turns = record {
  database = r.output;
  script = r.script;
  out_turn = turns.out;
  script_turn = turns.script;
  report_turn = turns.report;
}

-- the end of a recovery, as an answer of the program
abbrev pub answer_of : Result Summary CoreFault → Result (Unit {0}) Fault
answer_of (Ok summary) = Ok tt
answer_of (Err fault) = Err (of_core fault)

-- a recovery ends with this answer
pub record EndsAs (r : RecoveryAsked) (told : Option (List ℕ)) (turns : Turns)
    (answer : Result (Unit {0}) Fault) : Type 0 where
  pub end : Result Summary CoreFault
  pub answer_is : answer ≡ answer_of end
  pub ends : Ends (options_of r) told (outputs_of r turns) end

-- a recovery that is asked for reads its input so often at most, whatever it answers
abbrev pub HasFewReads : Option Asked → Option (List ℕ) → ℕ → ℕ → Type 0
HasFewReads (Some (Recovers r)) told before now =
    IfSome told (λ all. now ≤ before + most_reads (options_of r) all)
HasFewReads command told before now = ⊤

-- the database was not begun: all is refused that is not done, but for the faults of the three sinks
abbrev pub IsBeforeOutput : {A : Type 0} → Result A Fault → Type 0
IsBeforeOutput (Ok done) = ⊥
IsBeforeOutput (Err OutputFault) = ⊥
IsBeforeOutput (Err ScriptFault) = ⊥
IsBeforeOutput (Err ReportFault) = ⊥
IsBeforeOutput (Err fault) = ⊤

-- the script was not begun
abbrev pub IsBeforeScript : {A : Type 0} → Result A Fault → Type 0
IsBeforeScript (Err OutputFault) = ⊤
IsBeforeScript answer = IsBeforeOutput answer

-- the report was not begun
abbrev pub IsBeforeReport : {A : Type 0} → Result A Fault → Type 0
IsBeforeReport (Err ScriptFault) = ⊤
IsBeforeReport answer = IsBeforeScript answer

-- ---- what the statuses say, where a recovery is asked for

-- 0: all is done, of the plan of the input
abbrev pub IsRecovered : Option Asked → Option (List ℕ) → Turns → Type 0
IsRecovered (Some (Recovers r)) told turns = (s : Summary) × IsDone (options_of r) told (outputs_of r turns) s
IsRecovered command told turns = ⊤

-- 7: the database is not written whole; 7 is a status of recoveries alone, as 8 and 6 are
abbrev pub StopsAtOutput : Option Asked → Option (List ℕ) → Turns → Type 0
StopsAtOutput (Some (Recovers r)) told turns = StopsAtDatabase (options_of r) told (outputs_of r turns)
StopsAtOutput command told turns = ⊥

-- 8: the database is whole, and the script is not
abbrev pub StopsAtTexts : Option Asked → Option (List ℕ) → Turns → Type 0
StopsAtTexts (Some (Recovers r)) told turns = StopsAtScript (options_of r) told (outputs_of r turns)
StopsAtTexts command told turns = ⊥

-- 9: the database and the script are whole, and the report is not
abbrev pub StopsAtLines : Option Asked → Option (List ℕ) → Turns → Type 0
StopsAtLines (Some (Recovers r)) told turns = StopsAtReport (options_of r) told (outputs_of r turns)
StopsAtLines command told turns = ⊤

-- 6: the load of the database is over the limit
abbrev pub IsTooMuch : Option Asked → Option (List ℕ) → Type 0
IsTooMuch (Some (Recovers r)) told = (load : ℕ) × IsOver (options_of r) told load
IsTooMuch command told = ⊥

-- 4, 5 and 12: the input is refused for a cause of this status
abbrev pub IsBarred : Option Asked → Option (List ℕ) → ℕ → Type 0
IsBarred (Some (Recovers r)) told status = IfSome told
    (λ all. (fault : CoreFault) × ((status ≡ fault_status (of_core fault))
    × IsRefused (options_of r) all fault))
IsBarred command told status = ⊤

-- a recovery is asked for, and nothing but a failing source or want of memory stands in its way
abbrev pub IsRecoverableBy : Option Asked → List ℕ → Type 0
IsRecoverableBy (Some (Recovers r)) all = IsRecoverable (options_of r) all
IsRecoverableBy command all = ⊥

-- a recovery is asked for, without a page size, reserved bytes or a word on the freelist, and the bytes are
-- well-formed and in scope
abbrev pub IsWholeBy : Option Asked → List ℕ → Type 0
IsWholeBy (Some (Recovers r)) all = ArePlain (options_of r) × IsWhole all
IsWholeBy command all = ⊥
