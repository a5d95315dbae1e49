-- What a run of the program leaves, by its status (docs/TEXTS.md, "Statuses").
use Rattle.std.specs.Prelude.{◌≡◌, ◌≢◌, ◌⊎◌, ℕ, Bool, false, List, Option, Some, None, Result, Ok, Err, IfSome, IsErrOf, IsOk, ⊤}
use Rattle.page_access.specs.Outside.{Gains, GainsPrefix, Rose}
use Rattle.command_line.specs.Parts.{Asked, Lists, Recovers, Tries, Word}
use Rattle.salvage_cli.specs.Answers.{fault_line, status_of}
use Rattle.salvage_cli.specs.Recovery.{EndsAs, IsBeforeOutput, IsBeforeReport, IsBeforeScript, Turns}
use Rattle.salvage_cli.specs.Run.{GivesWanted, HasNumbers, IsEarly, IsOfListing}
use Rattle.salvage_cli.specs.Tried.{EndsTrial, IsOfTrial}
use Rattle.salvage_cli.specs.Wanted.{listing_answer}
use Rattle.salvage_cli.specs.declared.faults.Fault.{Fault}
use Rattle.salvage_cli.specs.declared.faults.Fault.TheVariants.{Usage, NoPageSize, NoWholePage, Utf16, Memory}

-- of a listing, what is said of its text or refusal; of words that are no command, the same of their refusal
abbrev pub ForListing : Option Asked → List ℕ → (Result (List ℕ) Fault → Type 0) → Type 0
ForListing None bytes P = P (Err Usage)
ForListing (Some (Lists listing file)) bytes P = P (listing_answer listing file bytes)
ForListing (Some (Recovers r)) bytes P = ⊤
ForListing (Some (Tries n)) bytes P = ⊤

-- an answer to words that are no command
abbrev pub IsNoCommand : {A : Type 0} → Result A Fault → Type 0
IsNoCommand (Ok done) = ⊥
IsNoCommand (Err Usage) = ⊤
IsNoCommand (Err Memory) = ⊤
IsNoCommand (Err fault) = ⊥

-- the report gains the listing that the words ask of these bytes, or there is the refusal that they ask for
abbrev pub GivesCommand : {A : Type 0} → Option Asked → List ℕ → Option (List ℕ) → Option (List ℕ) → Result A Fault → Type 0
GivesCommand None bytes old new answer = IsNoCommand answer
GivesCommand (Some (Lists listing file)) bytes old new answer =
    GivesWanted (listing_answer listing file bytes) old new answer
GivesCommand (Some (Recovers r)) bytes old new answer = ⊤
GivesCommand (Some (Tries n)) bytes old new answer = ⊤

-- the source is attached to the input that the words name, if they name one
abbrev pub IsAttached : Option Asked → Option Word → Type 0
IsAttached None name = ⊥
IsAttached (Some (Lists listing file)) name = name ≡ Some file.name
IsAttached (Some (Recovers r)) name = name ≡ Some r.input.name
IsAttached (Some (Tries n)) name = ⊤

-- an answer that a listing or a trial may have, where the words ask for one
abbrev pub IsOwn : {A : Type 0} → Option Asked → Result A Fault → Type 0
IsOwn None answer = IsNoCommand answer
IsOwn (Some (Lists listing file)) answer = IsOfListing answer
IsOwn (Some (Recovers r)) answer = ⊤
IsOwn (Some (Tries n)) answer = IsOfTrial answer

-- the recovery or the trial that the words ask for ends with this answer
abbrev pub HasEnd : Option Asked → Option (List ℕ) → Turns → Result (Unit {0}) Fault → Type 0
HasEnd (Some (Recovers r)) told turns answer = EndsAs r told turns answer
HasEnd (Some (Tries n)) told turns answer = EndsTrial n turns.report answer
HasEnd command told turns answer = ⊤

-- the report gained the listing that the words ask for
abbrev pub IsListed : Result (List ℕ) Fault → Option (List ℕ) → Option (List ℕ) → Type 0
IsListed (Ok text) old new = Gains old new text
IsListed (Err fault) old new = ⊥

-- a status is the one of what is wanted; or that of a fault of the input, or of the report where a listing is
-- wanted, or of want of memory
abbrev pub IsStatusOf : Result (List ℕ) Fault → ℕ → Type 0
IsStatusOf wanted status =
    (status ≡ status_of wanted) ⊎ ((status ≡ 3) ⊎ (((status ≡ 9) × IsOk wanted) ⊎ (status ≡ 11)))

-- a sink is not finished, or as finished as it was
abbrev pub StaysUnfinished : Bool → Bool → Type 0
StaysUnfinished old new = (new ≡ false) ⊎ (new ≡ old)

-- what an answer says on the stream for errors: nothing, or its line, or a front of the line where a call failed
abbrev pub Says : {A : Type 0} → Result A Fault → Option (List ℕ) → Option (List ℕ) → ℕ → ℕ → Type 0
Says (Ok done) old new before now = new ≡ old
Says (Err fault) old new before now = Gains old new (fault_line fault) ⊎ (GainsPrefix old new (fault_line fault) × Rose before now)

-- the answer that a status stands for: what it gives of the told bytes, its numbers, and what it says
pub record Answered (command : Option Asked) (told : Option (List ℕ)) (turns : Turns)
    (errors_old errors_new : Option (List ℕ)) (before now status : ℕ) : Type 0 where
  pub answer : Result (Unit {0}) Fault
  pub status_is : status ≡ status_of answer
  pub given : IfSome told (λ bytes. GivesCommand command bytes turns.report.before turns.report.after answer)
  pub ended : HasEnd command told turns answer
  pub numbers : HasNumbers answer
  pub said : Says answer errors_old errors_new before now

-- the statuses of refusals that come before anything is listed
abbrev pub IsEarlyStatus : ℕ → Type 0
IsEarlyStatus status = (status ≡ 2) ⊎ ((status ≡ 4) ⊎ ((status ≡ 5) ⊎ (status ≡ 12)))

-- ---- the answers and the statuses after which a sink is as it was

-- the sink of the database: but for recoveries always
abbrev pub LeavesOutput : {A : Type 0} → Option Asked → Result A Fault → Type 0
LeavesOutput (Some (Recovers r)) answer = IsBeforeOutput answer
LeavesOutput command answer = ⊤

abbrev pub KeepsOutput : Option Asked → ℕ → Type 0
KeepsOutput (Some (Recovers r)) status = (status ≢ 0) × ((status ≢ 7) × ((status ≢ 8) × (status ≢ 9)))
KeepsOutput command status = ⊤

-- the sink of the script
abbrev pub LeavesScript : {A : Type 0} → Option Asked → Result A Fault → Type 0
LeavesScript (Some (Recovers r)) answer = IsBeforeScript answer
LeavesScript command answer = ⊤

abbrev pub KeepsScript : Option Asked → ℕ → Type 0
KeepsScript (Some (Recovers r)) status = (status ≢ 0) × ((status ≢ 8) × (status ≢ 9))
KeepsScript command status = ⊤

-- the sink of the report
abbrev pub LeavesReport : {A : Type 0} → Option Asked → Result A Fault → Type 0
LeavesReport None answer = ⊤
LeavesReport (Some (Lists listing file)) answer = IsEarly answer
LeavesReport (Some (Recovers r)) answer = IsBeforeReport answer
LeavesReport (Some (Tries n)) answer = IsErrOf answer Memory

abbrev pub KeepsReport : Option Asked → ℕ → Type 0
KeepsReport (Some (Recovers r)) status = (status ≢ 0) × (status ≢ 9)
KeepsReport (Some (Tries n)) status = status ≡ 11
KeepsReport command status = IsEarlyStatus status

-- no pages are found: nothing tells their size, or it is over the length
abbrev pub HasNoPages : Result (List ℕ) Fault → Type 0
HasNoPages (Ok text) = ⊥
HasNoPages (Err NoPageSize) = ⊤
HasNoPages (Err (NoWholePage len size)) = ⊤
HasNoPages (Err fault) = ⊥

-- the mode refuses the file for the encoding of its texts
abbrev pub IsUtf16 : Result (List ℕ) Fault → Type 0
IsUtf16 (Ok text) = ⊥
IsUtf16 (Err Utf16) = ⊤
IsUtf16 (Err fault) = ⊥
