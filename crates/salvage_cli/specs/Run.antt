-- What the program does with its five objects (docs/TEXTS.md, "Statuses").
use Rattle.std.specs.Prelude.{◌≡◌, ◌<◌, ◌^◌, ℕ, List, [], Option, Result, Ok, Err, ⊤}
use Rattle.page_access.specs.Files.{max_input}
use Rattle.page_access.specs.Outside.{Gains, GainsPrefix}
use Rattle.salvage_cli.specs.declared.faults.Fault.{Fault}
use Rattle.salvage_cli.specs.declared.faults.Fault.TheVariants.{Usage, InputFault, TooLarge, NoPageSize, NoWholePage, Utf16, OutputTooLarge, OutputFault, ScriptFault, ReportFault, Memory}

-- the text of a listing, nothing where there is none
abbrev pub text_of : Result (List ℕ) Fault → List ℕ
text_of (Ok text) = text
text_of (Err fault) = []

-- a fault of the report comes where a listing is wanted alone
abbrev pub EndsListing : Result (List ℕ) Fault → Option (List ℕ) → Option (List ℕ) → Type 0
EndsListing (Ok text) old new = GainsPrefix old new text
EndsListing (Err fault) old new = ⊥

-- what an error says of what was wanted, and what it leaves in the report
abbrev pub EndsWanted : Result (List ℕ) Fault → Option (List ℕ) → Option (List ℕ) → Fault → Type 0
EndsWanted wanted old new Usage = ⊥
EndsWanted wanted old new (OutputTooLarge load) = ⊥
EndsWanted wanted old new OutputFault = ⊥
EndsWanted wanted old new ScriptFault = ⊥
EndsWanted wanted old new InputFault = GainsPrefix old new (text_of wanted)
EndsWanted wanted old new ReportFault = EndsListing wanted old new
EndsWanted wanted old new Memory = GainsPrefix old new (text_of wanted)
EndsWanted wanted old new fault = wanted ≡ Err fault

-- a report gains the listing that is wanted, or a front of it and an error; or there is the refusal that is wanted
abbrev pub GivesWanted : {A : Type 0} → Result (List ℕ) Fault → Option (List ℕ) → Option (List ℕ) → Result A Fault → Type 0
GivesWanted (Ok text) old new (Ok done) = Gains old new text
GivesWanted (Err fault) old new (Ok done) = ⊥
GivesWanted wanted old new (Err fault) = EndsWanted wanted old new fault

-- a refusal that comes before anything is listed
abbrev pub IsEarly : {A : Type 0} → Result A Fault → Type 0
IsEarly (Ok done) = ⊥
IsEarly (Err Usage) = ⊤
IsEarly (Err (TooLarge len)) = ⊤
IsEarly (Err NoPageSize) = ⊤
IsEarly (Err (NoWholePage len size)) = ⊤
IsEarly (Err Utf16) = ⊤
IsEarly (Err fault) = ⊥

-- an answer that a listing may have
abbrev pub IsOfListing : {A : Type 0} → Result A Fault → Type 0
IsOfListing (Err Usage) = ⊥
IsOfListing (Err (OutputTooLarge load)) = ⊥
IsOfListing (Err OutputFault) = ⊥
IsOfListing (Err ScriptFault) = ⊥
IsOfListing answer = ⊤

-- no refusal that comes before anything is listed
abbrev pub IsLate : {A : Type 0} → Result A Fault → Type 0
IsLate (Ok done) = ⊤
IsLate (Err InputFault) = ⊤
IsLate (Err ReportFault) = ⊤
IsLate (Err Memory) = ⊤
IsLate (Err fault) = ⊥

-- the numbers of a refusal are of its cause
abbrev pub HasNumbers : {A : Type 0} → Result A Fault → Type 0
HasNumbers (Err (TooLarge len)) = max_input < len
HasNumbers (Err (NoWholePage len size)) = (0 < len) × (len < size)
HasNumbers (Err (OutputTooLarge load)) = 2 ^ 32 < load
HasNumbers answer = ⊤
