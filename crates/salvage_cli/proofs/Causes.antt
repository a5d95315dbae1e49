-- What a status says of the told bytes.
use Rattle.std.proofs.Common.{◌≡◌, ◌∙◌, ◌⊎◌, ◌<◌, ℕ, Bool, true, false, List, length, Option, Some, None, Result, Ok, Err, ap, subst, inl, inr, refl, sym, arith, if◌then◌else◌}
use Rattle.std.specs.Prelude.{IfSome, IsErrOf, IsOk}
use Rattle.page_access.specs.Files.{max_input}
use Rattle.command_line.specs.Parts.{Asked, FileAsked, Lists, RecoveryAsked, Recovers, Tries}
use Rattle.command_line.specs.declared.request.Listing.{Listing}
use Rattle.page_size.specs.Rule.{Finding}
use Rattle.input_pages.specs.Input.{pages_of}
use Rattle.input_pages.specs.declared.faults.InputFault.{InputFault as InputFaults}
use Rattle.input_pages.specs.declared.faults.InputFault.TheVariants as inputs
use Rattle.input_pages.proofs.Over.{over_limit}
use Rattle.salvage_cli.specs.Answers.{of_input, status_of}
use Rattle.salvage_cli.specs.Outcome.{ForListing, GivesCommand, HasEnd, HasNoPages, IsUtf16}
use Rattle.salvage_core.specs.declared.faults.Fault.{Fault as CoreFault}
use Rattle.salvage_core.specs.declared.faults.Fault.TheVariants as core
use Rattle.salvage_core.specs.declared.recovers.Summary.{Summary}
use Rattle.salvage_core.specs.Outcome.{Ends, Outputs}
use Rattle.salvage_cli.specs.Recovery.{Turns, answer_of, options_of, outputs_of}
use Rattle.salvage_cli.specs.Run.{GivesWanted}
use Rattle.salvage_cli.proofs.Trying.{never_large}
use Rattle.salvage_cli.proofs.Outcomes.{refused}
use Rattle.salvage_cli.specs.Wanted.{answer_on_pages, file_cut, is_refused, listing_answer, listing_text}
use Rattle.salvage_cli.specs.declared.faults.Fault.{Fault}
use Rattle.salvage_cli.specs.declared.faults.Fault.TheVariants.{Usage, InputFault, TooLarge, NoPageSize, NoWholePage, Utf16, OutputTooLarge, OutputFault, ScriptFault, ReportFault, Memory}

-- a listing that is wanted comes, or there is a fault of the outside, or no memory
complete_of : {A : Type 0} (F G : Type 0) (want : Result (List ℕ) Fault) (old new : Option (List ℕ)) (answer : Result A Fault) → GivesWanted want old new answer
    → (IsErrOf answer InputFault → F) → (IsErrOf answer ReportFault → G) → IsOk want → (F → ⊥) → (G → ⊥) → (status_of answer ≡ 0) ⊎ (status_of answer ≡ 11)
complete_of F G (Err fault) old new answer h f g ok no_f no_g = absurd cc
complete_of F G (Ok text) old new (Ok done) h f g ok no_f no_g = inl refl
complete_of F G (Ok text) old new (Err Usage) h f g ok no_f no_g = absurd h
complete_of F G (Ok text) old new (Err InputFault) h f g ok no_f no_g = absurd (no_f (f refl))
complete_of F G (Ok text) old new (Err ReportFault) h f g ok no_f no_g = absurd (no_g (g refl))
complete_of F G (Ok text) old new (Err Memory) h f g ok no_f no_g = inr refl
complete_of F G (Ok text) old new (Err (TooLarge len)) h f g ok no_f no_g = absurd cc
complete_of F G (Ok text) old new (Err NoPageSize) h f g ok no_f no_g = absurd cc
complete_of F G (Ok text) old new (Err (NoWholePage len size)) h f g ok no_f no_g = absurd cc
complete_of F G (Ok text) old new (Err Utf16) h f g ok no_f no_g = absurd cc
complete_of F G (Ok text) old new (Err (OutputTooLarge load)) h f g ok no_f no_g = absurd h
complete_of F G (Ok text) old new (Err OutputFault) h f g ok no_f no_g = absurd h
complete_of F G (Ok text) old new (Err ScriptFault) h f g ok no_f no_g = absurd h

pub complete_told : {A : Type 0} (F G : Type 0) (command : Option Asked) (told old new : Option (List ℕ)) (answer : Result A Fault)
    → IfSome told (λ all. GivesCommand command all old new answer) → (IsErrOf answer InputFault → F) → (IsErrOf answer ReportFault → G)
    → IfSome told (λ all. ForListing command all (λ want. IsOk want → (F → ⊥) → (G → ⊥) → (status_of answer ≡ 0) ⊎ (status_of answer ≡ 11)))
complete_told F G command None old new answer h f g = tt
complete_told F G None (Some all) old new answer h f g = λ ok no_f no_g. absurd cc
complete_told F G (Some (Lists listing file)) (Some all) old new answer h f g = complete_of F G (listing_answer listing file all) old new answer h f g
complete_told F G (Some (Recovers r)) (Some all) old new answer h f g = tt
complete_told F G (Some (Tries n)) (Some all) old new answer h f g = tt

-- no mode refuses a length
not_by_mode : (refuses : Bool) (text : List ℕ) (len : ℕ) → (if refuses then Err Utf16 else Ok text) ≡ Err (TooLarge len) → ⊥
not_by_mode true text len e = cc
not_by_mode false text len e = cc

-- a refusal of a length is of the input
large_input : (fault : InputFaults) (len : ℕ) → of_input fault ≡ TooLarge len → fault ≡ inputs.TooLarge len
large_input inputs.Source len e = absurd cc
large_input (inputs.TooLarge n) len e = let same : n ≡ len = cc in ap (λ (k : ℕ). inputs.TooLarge k) same
large_input inputs.NoPageSize len e = absurd cc
large_input (inputs.NoWholePage n size) len e = absurd cc
large_input inputs.Memory len e = absurd cc

large_pages : (listing : Listing) (all : List ℕ) (pages : Result (Option Finding) InputFaults) (len : ℕ) → answer_on_pages listing all pages ≡ Err (TooLarge len)
    → pages ≡ Err (inputs.TooLarge len)
large_pages listing all (Ok None) len e = absurd cc
large_pages listing all (Ok (Some f)) len e = absurd (not_by_mode (is_refused listing f) (listing_text listing (file_cut all f)) len e)
large_pages listing all (Err found) len e =
    let same : of_input found ≡ TooLarge len = cc in
    ap (λ (f : InputFaults). Err f) (large_input found len same)

-- an input that is too large has over 2^28 bytes
over : (listing : Listing) (file : FileAsked) (all : List ℕ) (len : ℕ) → listing_answer listing file all ≡ Err (TooLarge len) → max_input < length all
over listing file all len e =
    over_limit max_input file.page_size file.reserved all len (large_pages listing all (pages_of max_input file.page_size file.reserved all) len e)

five_is : {A : Type 0} (answer : Result A Fault) → status_of answer ≡ 5 → (len : ℕ) × (answer ≡ Err (TooLarge len))
five_is (Ok done) e = absurd (omega arith)
five_is (Err Usage) e = absurd (omega arith)
five_is (Err InputFault) e = absurd (omega arith)
five_is (Err (TooLarge len)) e = (len, refl)
five_is (Err NoPageSize) e = absurd (omega arith)
five_is (Err (NoWholePage len size)) e = absurd (omega arith)
five_is (Err Utf16) e = absurd (omega arith)
five_is (Err (OutputTooLarge load)) e = absurd (omega arith)
five_is (Err OutputFault) e = absurd (omega arith)
five_is (Err ScriptFault) e = absurd (omega arith)
five_is (Err ReportFault) e = absurd (omega arith)
five_is (Err Memory) e = absurd (omega arith)

large_of : {A : Type 0} (want : Result (List ℕ) Fault) (old new : Option (List ℕ)) (answer : Result A Fault) → GivesWanted want old new answer
    → status_of answer ≡ 5 → (len : ℕ) × (want ≡ Err (TooLarge len))
large_of {A = A} (Ok text) old new answer h e =
    let five = five_is answer e in
    (five.0, subst (λ (r : Result A Fault). GivesWanted (Ok text) old new r) five.1 h)
large_of {A = A} (Err fault) old new answer h e =
    let five = five_is answer e in
    (five.0, subst (λ (r : Result A Fault). GivesWanted (Err fault) old new r) five.1 h)

-- a recovery that is refused with status 5 is of an input that is too large
over_end : (r : RecoveryAsked) (all : List ℕ) (to : Outputs) (end : Result Summary CoreFault) → Ends (options_of r) (Some all) to end
    → status_of (answer_of end) ≡ 5 → max_input < length all
over_end r all to (Ok s) h e = absurd (omega arith)
over_end r all to (Err core.InputFault) h e = absurd (omega arith)
over_end r all to (Err (core.TooLarge len)) h e = over_limit max_input r.input.page_size r.input.reserved all len h
over_end r all to (Err core.NoPageSize) h e = absurd (omega arith)
over_end r all to (Err (core.NoWholePage len size)) h e = absurd (omega arith)
over_end r all to (Err (core.Utf16 encoding)) h e = absurd (omega arith)
over_end r all to (Err (core.OutputTooLarge load)) h e = absurd (omega arith)
over_end r all to (Err core.OutputFault) h e = absurd (omega arith)
over_end r all to (Err core.ScriptFault) h e = absurd (omega arith)
over_end r all to (Err core.ReportFault) h e = absurd (omega arith)
over_end r all to (Err core.Memory) h e = absurd (omega arith)

pub over_told : (command : Option Asked) (told : Option (List ℕ)) (turns : Turns) (old new : Option (List ℕ)) (answer : Result (Unit {0}) Fault)
    → IfSome told (λ all. GivesCommand command all old new answer) → HasEnd command told turns answer
    → IfSome told (λ all. status_of answer ≡ 5 → max_input < length all)
over_told command None turns old new answer h ended = tt
over_told None (Some all) turns old new answer h ended = λ e. elim (refused answer h) [ inl two ↦ absurd (omega arith) | inr eleven ↦ absurd (omega arith) ]
over_told (Some (Tries n)) (Some all) turns old new answer h ended = λ e. absurd (never_large n turns.report answer ended e)
over_told (Some (Lists listing file)) (Some all) turns old new answer h ended =
    λ e. let large = large_of (listing_answer listing file all) old new answer h e in over listing file all large.0 large.1
over_told (Some (Recovers r)) (Some all) turns old new answer h ended =
    λ e. over_end r all (outputs_of r turns) ended.end ended.ends (sym (ap (λ (a : Result (Unit {0}) Fault). status_of a) ended.answer_is) ∙ e)

no_pages_of : {A : Type 0} (want : Result (List ℕ) Fault) (old new : Option (List ℕ)) (answer : Result A Fault) → GivesWanted want old new answer
    → status_of answer ≡ 4 → HasNoPages want
no_pages_of want old new (Ok done) h e = absurd (omega arith)
no_pages_of want old new (Err Usage) h e = absurd (omega arith)
no_pages_of want old new (Err InputFault) h e = absurd (omega arith)
no_pages_of want old new (Err (TooLarge len)) h e = absurd (omega arith)
no_pages_of want old new (Err Utf16) h e = absurd (omega arith)
no_pages_of want old new (Err ReportFault) h e = absurd (omega arith)
no_pages_of want old new (Err Memory) h e = absurd (omega arith)
no_pages_of want old new (Err (OutputTooLarge load)) h e = absurd (omega arith)
no_pages_of want old new (Err OutputFault) h e = absurd (omega arith)
no_pages_of want old new (Err ScriptFault) h e = absurd (omega arith)
no_pages_of (Ok text) old new (Err NoPageSize) h e = absurd cc
no_pages_of (Err fault) old new (Err NoPageSize) h e = subst (λ (w : Result (List ℕ) Fault). HasNoPages w) (sym h) tt
no_pages_of (Ok text) old new (Err (NoWholePage len size)) h e = absurd cc
no_pages_of (Err fault) old new (Err (NoWholePage len size)) h e = subst (λ (w : Result (List ℕ) Fault). HasNoPages w) (sym h) tt

pub no_pages_told : {A : Type 0} (command : Option Asked) (told old new : Option (List ℕ)) (answer : Result A Fault)
    → IfSome told (λ all. GivesCommand command all old new answer)
    → IfSome told (λ all. ForListing command all (λ want. status_of answer ≡ 4 → HasNoPages want))
no_pages_told command None old new answer h = tt
no_pages_told None (Some all) old new answer h = λ e. elim (refused answer h) [ inl two ↦ absurd (omega arith) | inr eleven ↦ absurd (omega arith) ]
no_pages_told (Some (Lists listing file)) (Some all) old new answer h = no_pages_of (listing_answer listing file all) old new answer h
no_pages_told (Some (Recovers r)) (Some all) old new answer h = tt
no_pages_told (Some (Tries n)) (Some all) old new answer h = tt

utf16_of : {A : Type 0} (want : Result (List ℕ) Fault) (old new : Option (List ℕ)) (answer : Result A Fault) → GivesWanted want old new answer
    → status_of answer ≡ 12 → IsUtf16 want
utf16_of want old new (Ok done) h e = absurd (omega arith)
utf16_of want old new (Err Usage) h e = absurd (omega arith)
utf16_of want old new (Err InputFault) h e = absurd (omega arith)
utf16_of want old new (Err (TooLarge len)) h e = absurd (omega arith)
utf16_of want old new (Err NoPageSize) h e = absurd (omega arith)
utf16_of want old new (Err (NoWholePage len size)) h e = absurd (omega arith)
utf16_of want old new (Err ReportFault) h e = absurd (omega arith)
utf16_of want old new (Err Memory) h e = absurd (omega arith)
utf16_of want old new (Err (OutputTooLarge load)) h e = absurd (omega arith)
utf16_of want old new (Err OutputFault) h e = absurd (omega arith)
utf16_of want old new (Err ScriptFault) h e = absurd (omega arith)
utf16_of (Ok text) old new (Err Utf16) h e = absurd cc
utf16_of (Err fault) old new (Err Utf16) h e = subst (λ (w : Result (List ℕ) Fault). IsUtf16 w) (sym h) tt

pub utf16_told : {A : Type 0} (command : Option Asked) (told old new : Option (List ℕ)) (answer : Result A Fault)
    → IfSome told (λ all. GivesCommand command all old new answer)
    → IfSome told (λ all. ForListing command all (λ want. status_of answer ≡ 12 → IsUtf16 want))
utf16_told command None old new answer h = tt
utf16_told None (Some all) old new answer h = λ e. elim (refused answer h) [ inl two ↦ absurd (omega arith) | inr eleven ↦ absurd (omega arith) ]
utf16_told (Some (Lists listing file)) (Some all) old new answer h = utf16_of (listing_answer listing file all) old new answer h
utf16_told (Some (Recovers r)) (Some all) old new answer h = tt
utf16_told (Some (Tries n)) (Some all) old new answer h = tt
