-- Statuses and their lines (docs/TEXTS.md, "Statuses").
use Rattle.std.specs.Prelude.{ℕ, List, ◌++◌, codes, decimal, Result, Ok, Err}
use Rattle.command_line.specs.declared.words.WordsFault.{WordsFault}
use Rattle.command_line.specs.declared.words.WordsFault.TheVariants as words
use Rattle.line_text.specs.Text.{newline}
use Rattle.dbdata_list.specs.declared.faults.ListFault.{ListFault}
use Rattle.dbdata_list.specs.declared.faults.ListFault.TheVariants as list
use Rattle.input_pages.specs.declared.faults.InputFault.{InputFault as InputFaults}
use Rattle.input_pages.specs.declared.faults.InputFault.TheVariants as inputs
use Rattle.salvage_core.specs.declared.faults.Fault.{Fault as CoreFault}
use Rattle.salvage_core.specs.declared.faults.Fault.TheVariants as core
use Rattle.salvage_trial.specs.declared.faults.TrialFault.{TrialFault}
use Rattle.salvage_trial.specs.declared.faults.TrialFault.TheVariants as trials
use Rattle.salvage_cli.specs.declared.faults.Fault.{Fault}
use Rattle.salvage_cli.specs.declared.faults.Fault.TheVariants.{Usage, InputFault, TooLarge, NoPageSize, NoWholePage, Utf16, OutputTooLarge, OutputFault, ScriptFault, ReportFault, Memory}

-- the refusal where the words are not read
abbrev pub of_words : WordsFault → Fault
of_words words.Usage = Usage
of_words words.Memory = Memory

-- the refusal where the input gives no pages
abbrev pub of_input : InputFaults → Fault
of_input inputs.Source = InputFault
of_input (inputs.TooLarge len) = TooLarge len
of_input inputs.NoPageSize = NoPageSize
of_input (inputs.NoWholePage len size) = NoWholePage len size
of_input inputs.Memory = Memory

-- the refusal where a recovery is not done
abbrev pub of_core : CoreFault → Fault
of_core core.InputFault = InputFault
of_core (core.TooLarge len) = TooLarge len
of_core core.NoPageSize = NoPageSize
of_core (core.NoWholePage len size) = NoWholePage len size
of_core (core.Utf16 encoding) = Utf16
of_core (core.OutputTooLarge load) = OutputTooLarge load
of_core core.OutputFault = OutputFault
of_core core.ScriptFault = ScriptFault
of_core core.ReportFault = ReportFault
of_core core.Memory = Memory

-- the refusal where a listing ends early
abbrev pub of_list : ListFault → Fault
of_list list.Source = InputFault
of_list list.Sink = ReportFault
of_list list.Memory = Memory

-- the refusal where a trial is not done
abbrev pub of_trial : TrialFault → Fault
of_trial trials.Sink = ReportFault
of_trial trials.Memory = Memory

-- the status of a refusal
abbrev pub fault_status : Fault → ℕ
fault_status Usage = 2
fault_status InputFault = 3
fault_status (TooLarge len) = 5
fault_status NoPageSize = 4
fault_status (NoWholePage len size) = 4
fault_status Utf16 = 12
fault_status (OutputTooLarge load) = 6
fault_status OutputFault = 7
fault_status ScriptFault = 8
fault_status ReportFault = 9
fault_status Memory = 11

-- the status of an answer
abbrev pub status_of : {A : Type 0} → Result A Fault → ℕ
status_of (Ok done) = 0
status_of (Err fault) = fault_status fault

-- what a refusal says
unfoldable pub fault_text : Fault → List ℕ
fault_text Usage = codes "use: recover INPUT OUTPUT SCRIPT, dbdata INPUT, dbptr INPUT, schema INPUT, trial N"
fault_text InputFault = codes "input fault"
fault_text (TooLarge len) = codes "input too large: " ++ (decimal len ++ codes " bytes")
fault_text NoPageSize = codes "no page size found"
fault_text (NoWholePage len size) = codes "no whole page: " ++ (decimal len ++ (codes " bytes, page size " ++ decimal size))
fault_text Utf16 = codes "UTF-16 database"
fault_text (OutputTooLarge load) = codes "output too large: load " ++ decimal load
fault_text OutputFault = codes "output fault"
fault_text ScriptFault = codes "script fault"
fault_text ReportFault = codes "report fault"
fault_text Memory = codes "out of memory"

-- the line of a refusal
unfoldable pub fault_line : Fault → List ℕ
fault_line fault = codes "db_salvage: " ++ (fault_text fault ++ newline)
