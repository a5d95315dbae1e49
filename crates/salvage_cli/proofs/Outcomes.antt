-- What the answer says of the status and of the report.
use Rattle.std.proofs.Common.{◌≡◌, ◌⊎◌, ℕ, List, [], Option, Some, None, Result, Ok, Err, inl, inr, refl, sym, subst, length, ap, arith}
use Rattle.std.specs.Prelude.{IfSome}
use Rattle.std.proofs.Math.Seq.{take-length}
use Rattle.command_line.specs.Parts.{Asked, Lists, Recovers, Tries}
use Rattle.page_access.specs.Outside.{Gains, GainsPrefix}
use Rattle.page_access.proofs.Gains.{Gains-nothing}
use Rattle.salvage_cli.specs.Answers.{status_of}
use Rattle.salvage_cli.specs.Outcome.{ForListing, GivesCommand, IsListed, IsNoCommand, IsStatusOf, LeavesReport}
use Rattle.salvage_cli.specs.Wanted.{listing_answer}
use Rattle.salvage_cli.specs.Run.{GivesWanted, IsEarly, text_of}
use Rattle.salvage_cli.specs.declared.faults.Fault.{Fault}
use Rattle.salvage_cli.specs.declared.faults.Fault.TheVariants.{Usage, InputFault, TooLarge, NoPageSize, NoWholePage, Utf16, OutputTooLarge, OutputFault, ScriptFault, ReportFault, Memory}

-- words that are no command are refused
pub refused : {A : Type 0} (answer : Result A Fault) → IsNoCommand answer → (status_of answer ≡ 2) ⊎ (status_of answer ≡ 11)
refused (Ok done) h = absurd h
refused (Err Usage) h = inl refl
refused (Err Memory) h = inr refl
refused (Err InputFault) h = absurd h
refused (Err (TooLarge len)) h = absurd h
refused (Err NoPageSize) h = absurd h
refused (Err (NoWholePage len size)) h = absurd h
refused (Err Utf16) h = absurd h
refused (Err (OutputTooLarge load)) h = absurd h
refused (Err OutputFault) h = absurd h
refused (Err ScriptFault) h = absurd h
refused (Err ReportFault) h = absurd h

-- the report holds a front of what is wanted
front_of : {A : Type 0} (wanted : Result (List ℕ) Fault) (old new : Option (List ℕ)) (answer : Result A Fault)
    → GivesWanted wanted old new answer → (IsEarly answer → new ≡ old) → GainsPrefix old new (text_of wanted)
front_of (Ok text) old new (Ok done) h early = (length text, subst (λ (t : List ℕ). Gains old new t) (sym (take-length text)) h)
front_of (Err fault) old new (Ok done) h early = absurd h
front_of (Ok text) old new (Err Usage) h early = absurd h
front_of (Err fault) old new (Err Usage) h early = absurd h
front_of (Ok text) old new (Err InputFault) h early = h
front_of (Err fault) old new (Err InputFault) h early = h
front_of (Ok text) old new (Err ReportFault) h early = h
front_of (Err fault) old new (Err ReportFault) h early = absurd h
front_of (Ok text) old new (Err Memory) h early = h
front_of (Err fault) old new (Err Memory) h early = h
front_of (Ok text) old new (Err (TooLarge len)) h early = absurd cc
front_of (Err fault) old new (Err (TooLarge len)) h early = subst (λ (n : Option (List ℕ)). GainsPrefix old n []) (sym (early tt)) (0, Gains-nothing old)
front_of (Ok text) old new (Err NoPageSize) h early = absurd cc
front_of (Err fault) old new (Err NoPageSize) h early = subst (λ (n : Option (List ℕ)). GainsPrefix old n []) (sym (early tt)) (0, Gains-nothing old)
front_of (Ok text) old new (Err (NoWholePage len size)) h early = absurd cc
front_of (Err fault) old new (Err (NoWholePage len size)) h early = subst (λ (n : Option (List ℕ)). GainsPrefix old n []) (sym (early tt)) (0, Gains-nothing old)
front_of (Ok text) old new (Err Utf16) h early = absurd cc
front_of (Err fault) old new (Err Utf16) h early = subst (λ (n : Option (List ℕ)). GainsPrefix old n []) (sym (early tt)) (0, Gains-nothing old)
front_of (Ok text) old new (Err (OutputTooLarge load)) h early = absurd h
front_of (Err fault) old new (Err (OutputTooLarge load)) h early = absurd h
front_of (Ok text) old new (Err OutputFault) h early = absurd h
front_of (Err fault) old new (Err OutputFault) h early = absurd h
front_of (Ok text) old new (Err ScriptFault) h early = absurd h
front_of (Err fault) old new (Err ScriptFault) h early = absurd h

-- the same of a run over a source that may tell its bytes
pub front_told : {A : Type 0} (command : Option Asked) (told old new : Option (List ℕ)) (answer : Result A Fault)
    → IfSome told (λ all. GivesCommand command all old new answer) → (LeavesReport command answer → new ≡ old)
    → IfSome told (λ all. ForListing command all (λ want. GainsPrefix old new (text_of want)))
front_told command None old new answer h left = tt
front_told None (Some all) old new answer h left = subst (λ (n : Option (List ℕ)). GainsPrefix old n []) (sym (left tt)) (0, Gains-nothing old)
front_told (Some (Lists listing file)) (Some all) old new answer h left = front_of _ old new answer h left
front_told (Some (Recovers r)) (Some all) old new answer h left = tt
front_told (Some (Tries n)) (Some all) old new answer h left = tt

-- ---- what the listing and the status say

-- the listing of status 0
listed_of : {A : Type 0} (want : Result (List ℕ) Fault) (old new : Option (List ℕ)) (answer : Result A Fault) → GivesWanted want old new answer
    → status_of answer ≡ 0 → IsListed want old new
listed_of (Ok text) old new (Ok done) h e = h
listed_of (Err fault) old new (Ok done) h e = absurd h
listed_of want old new (Err Usage) h e = absurd (omega arith)
listed_of want old new (Err InputFault) h e = absurd (omega arith)
listed_of want old new (Err (TooLarge len)) h e = absurd (omega arith)
listed_of want old new (Err NoPageSize) h e = absurd (omega arith)
listed_of want old new (Err (NoWholePage len size)) h e = absurd (omega arith)
listed_of want old new (Err Utf16) h e = absurd (omega arith)
listed_of want old new (Err (OutputTooLarge load)) h e = absurd (omega arith)
listed_of want old new (Err OutputFault) h e = absurd (omega arith)
listed_of want old new (Err ScriptFault) h e = absurd (omega arith)
listed_of want old new (Err ReportFault) h e = absurd (omega arith)
listed_of want old new (Err Memory) h e = absurd (omega arith)

pub listed_told : {A : Type 0} (command : Option Asked) (told old new : Option (List ℕ)) (answer : Result A Fault)
    → IfSome told (λ all. GivesCommand command all old new answer) → status_of answer ≡ 0
    → IfSome told (λ all. ForListing command all (λ want. IsListed want old new))
listed_told command None old new answer h e = tt
listed_told None (Some all) old new answer h e = elim (refused answer h) [ inl two ↦ absurd (omega arith) | inr eleven ↦ absurd (omega arith) ]
listed_told (Some (Lists listing file)) (Some all) old new answer h e = listed_of (listing_answer listing file all) old new answer h e
listed_told (Some (Recovers r)) (Some all) old new answer h e = tt
listed_told (Some (Tries n)) (Some all) old new answer h e = tt

-- a status is the one of what is wanted, or that of a fault
status_by : {A : Type 0} (want : Result (List ℕ) Fault) (old new : Option (List ℕ)) (answer : Result A Fault) → GivesWanted want old new answer
    → IsStatusOf want (status_of answer)
status_by (Ok text) old new (Ok done) h = inl refl
status_by (Err fault) old new (Ok done) h = absurd h
status_by want old new (Err InputFault) h = inr (inl refl)
status_by want old new (Err Memory) h = inr (inr (inr refl))
status_by (Ok text) old new (Err ReportFault) h = inr (inr (inl (refl, refl)))
status_by (Err fault) old new (Err ReportFault) h = absurd h
status_by want old new (Err Usage) h = absurd h
status_by want old new (Err (OutputTooLarge load)) h = absurd h
status_by want old new (Err OutputFault) h = absurd h
status_by want old new (Err ScriptFault) h = absurd h
status_by want old new (Err (TooLarge len)) h = inl (ap (λ (w : Result (List ℕ) Fault). status_of w) (sym h))
status_by want old new (Err NoPageSize) h = inl (ap (λ (w : Result (List ℕ) Fault). status_of w) (sym h))
status_by want old new (Err (NoWholePage len size)) h = inl (ap (λ (w : Result (List ℕ) Fault). status_of w) (sym h))
status_by want old new (Err Utf16) h = inl (ap (λ (w : Result (List ℕ) Fault). status_of w) (sym h))

none_status : {A : Type 0} (answer : Result A Fault) → IsNoCommand answer → IsStatusOf (Err Usage) (status_of answer)
none_status answer h = elim (refused answer h) [ inl two ↦ inl two | inr eleven ↦ inr (inr (inr eleven)) ]

pub status_told : {A : Type 0} (command : Option Asked) (told old new : Option (List ℕ)) (answer : Result A Fault)
    → IfSome told (λ all. GivesCommand command all old new answer)
    → IfSome told (λ all. ForListing command all (λ want. IsStatusOf want (status_of answer)))
status_told command None old new answer h = tt
status_told None (Some all) old new answer h = none_status answer h
status_told (Some (Lists listing file)) (Some all) old new answer h = status_by (listing_answer listing file all) old new answer h
status_told (Some (Recovers r)) (Some all) old new answer h = tt
status_told (Some (Tries n)) (Some all) old new answer h = tt
