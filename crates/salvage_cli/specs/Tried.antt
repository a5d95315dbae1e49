-- What a trial leaves (docs/TEXTS.md, "The lines of a trial" and "Statuses").
use Rattle.std.specs.Prelude.{◌≡◌, ◌⊎◌, ℕ, List, Option, Some, Result, Ok, Err, ⊤}
use Rattle.command_line.specs.Parts.{Asked, Tries}
use Rattle.salvage_core.specs.Outcome.{IsCut, IsWhole, SinkTurn}
use Rattle.salvage_trial.specs.Trial.{Ends, IsTrialText}
use Rattle.salvage_trial.specs.declared.faults.TrialFault.{TrialFault}
use Rattle.salvage_cli.specs.Answers.{of_trial}
use Rattle.salvage_cli.specs.declared.faults.Fault.{Fault}
use Rattle.salvage_cli.specs.declared.faults.Fault.TheVariants.{ReportFault, Memory}

-- an answer that a trial may have
abbrev pub IsOfTrial : {A : Type 0} → Result A Fault → Type 0
IsOfTrial (Ok done) = ⊤
IsOfTrial (Err ReportFault) = ⊤
IsOfTrial (Err Memory) = ⊤
IsOfTrial (Err fault) = ⊥

-- the end of a trial, as an answer of the program
abbrev pub trial_answer : Result (Unit {0}) TrialFault → Result (Unit {0}) Fault
trial_answer (Ok done) = Ok tt
trial_answer (Err fault) = Err (of_trial fault)

-- a trial of n rows ends with this answer
pub record EndsTrial (n : ℕ) (report : SinkTurn) (answer : Result (Unit {0}) Fault) : Type 0 where
  pub end : Result (Unit {0}) TrialFault
  pub answer_is : answer ≡ trial_answer end
  pub ends : Ends n report end

-- ---- what the statuses say, where a trial is asked for

-- the words ask for a trial
abbrev pub IsTrialAsked : Option Asked → Type 0
IsTrialAsked (Some (Tries n)) = ⊤
IsTrialAsked command = ⊥

-- the statuses of a trial
abbrev pub IsTrialStatus : ℕ → Type 0
IsTrialStatus status = (status ≡ 0) ⊎ ((status ≡ 9) ⊎ (status ≡ 11))

-- 0: the report gained both lines, and is finished
abbrev pub IsTried : Option Asked → SinkTurn → Type 0
IsTried (Some (Tries n)) report = (text : List ℕ) × IsTrialText n text × IsWhole text report
IsTried command report = ⊤

-- 9: it gained a front of them
abbrev pub StopsAtTrial : Option Asked → SinkTurn → Type 0
StopsAtTrial (Some (Tries n)) report = (text : List ℕ) × IsTrialText n text × IsCut text report
StopsAtTrial command report = ⊤
