-- What a status says of the end of a recovery.
use Rattle.std.proofs.Common.{◌≡◌, ◌∙◌, ◌⊎◌, ℕ, List, Option, Some, None, Result, Ok, Err, ap, subst, inl, inr, refl, sym, arith}
use Rattle.std.specs.Prelude.{IfSome, IsErrAnd, IsErrOf}
use Rattle.command_line.specs.Parts.{Asked, Lists, RecoveryAsked, Recovers, Tries}
use Rattle.salvage_core.specs.declared.faults.Fault.{Fault as CoreFault}
use Rattle.salvage_core.specs.declared.faults.Fault.TheVariants as core
use Rattle.salvage_core.specs.declared.options.Options.{Options}
use Rattle.salvage_core.specs.declared.recovers.Summary.{Summary}
use Rattle.salvage_core.specs.Outcome.{Ends, IsBeforeReport as IsBeforeLines, Outputs, IsDone, IsOver, StopsAtDatabase, StopsAtReport, StopsAtScript}
use Rattle.salvage_core.specs.Plan.{IsRefused}
use Rattle.salvage_core.specs.Recoverable.{AreWide, IsRecoverable}
use Rattle.salvage_core.proofs.Free.{never_barred}
use Rattle.command_line.specs.declared.words.WordsFault.{WordsFault}
use Rattle.command_line.specs.declared.words.WordsFault.TheVariants as words
use Rattle.salvage_cli.specs.Answers.{fault_status, of_core, of_words, status_of}
use Rattle.salvage_cli.specs.Outcome.{HasEnd, IsEarlyStatus, IsNoCommand, IsOwn, KeepsOutput, KeepsReport, KeepsScript, LeavesOutput, LeavesReport, LeavesScript, StaysUnfinished}
use Rattle.salvage_cli.specs.Run.{IsOfListing}
use Rattle.salvage_cli.proofs.Outcomes.{refused}
use Rattle.salvage_cli.proofs.Trying.{trial_status}
use Rattle.salvage_cli.specs.Tried.{IsOfTrial}
use Rattle.salvage_trial.specs.declared.faults.TrialFault.TheVariants as trials
use Rattle.salvage_cli.specs.Recovery.{EndsAs, HasFewReads, IsBarred, IsRecoverableBy, IsRecovered, IsTooMuch, IsWholeBy, StopsAtLines, StopsAtOutput, StopsAtTexts, Turns, answer_of, options_of, outputs_of}
use Rattle.salvage_cli.specs.declared.faults.Fault.{Fault}
use Rattle.salvage_cli.specs.declared.faults.Fault.TheVariants.{Usage, InputFault, TooLarge, NoPageSize, NoWholePage, Utf16, OutputTooLarge, OutputFault, ScriptFault, ReportFault, Memory}

-- the status of the answer is that of the end
end_status : {r : RecoveryAsked} {told : Option (List ℕ)} {turns : Turns} {answer : Result (Unit {0}) Fault} (n : ℕ) (h : EndsAs r told turns answer)
    → status_of answer ≡ n → status_of (answer_of h.end) ≡ n
end_status n h e = sym (ap (λ (a : Result (Unit {0}) Fault). status_of a) h.answer_is) ∙ e

done_end : (r : RecoveryAsked) (told : Option (List ℕ)) (to : Outputs) (end : Result Summary CoreFault) → Ends (options_of r) told to end
    → status_of (answer_of end) ≡ 0 → (s : Summary) × IsDone (options_of r) told to s
done_end r told to (Ok s) h e = (s, h)
done_end r told to (Err core.InputFault) h e = absurd (omega arith)
done_end r told to (Err (core.TooLarge len)) h e = absurd (omega arith)
done_end r told to (Err core.NoPageSize) h e = absurd (omega arith)
done_end r told to (Err (core.NoWholePage len size)) h e = absurd (omega arith)
done_end r told to (Err (core.Utf16 encoding)) h e = absurd (omega arith)
done_end r told to (Err (core.OutputTooLarge load)) h e = absurd (omega arith)
done_end r told to (Err core.OutputFault) h e = absurd (omega arith)
done_end r told to (Err core.ScriptFault) h e = absurd (omega arith)
done_end r told to (Err core.ReportFault) h e = absurd (omega arith)
done_end r told to (Err core.Memory) h e = absurd (omega arith)

output_end : (r : RecoveryAsked) (told : Option (List ℕ)) (to : Outputs) (end : Result Summary CoreFault) → Ends (options_of r) told to end
    → status_of (answer_of end) ≡ 7 → StopsAtDatabase (options_of r) told to
output_end r told to (Ok s) h e = absurd (omega arith)
output_end r told to (Err core.InputFault) h e = absurd (omega arith)
output_end r told to (Err (core.TooLarge len)) h e = absurd (omega arith)
output_end r told to (Err core.NoPageSize) h e = absurd (omega arith)
output_end r told to (Err (core.NoWholePage len size)) h e = absurd (omega arith)
output_end r told to (Err (core.Utf16 encoding)) h e = absurd (omega arith)
output_end r told to (Err (core.OutputTooLarge load)) h e = absurd (omega arith)
output_end r told to (Err core.OutputFault) h e = h
output_end r told to (Err core.ScriptFault) h e = absurd (omega arith)
output_end r told to (Err core.ReportFault) h e = absurd (omega arith)
output_end r told to (Err core.Memory) h e = absurd (omega arith)

script_end : (r : RecoveryAsked) (told : Option (List ℕ)) (to : Outputs) (end : Result Summary CoreFault) → Ends (options_of r) told to end
    → status_of (answer_of end) ≡ 8 → StopsAtScript (options_of r) told to
script_end r told to (Ok s) h e = absurd (omega arith)
script_end r told to (Err core.InputFault) h e = absurd (omega arith)
script_end r told to (Err (core.TooLarge len)) h e = absurd (omega arith)
script_end r told to (Err core.NoPageSize) h e = absurd (omega arith)
script_end r told to (Err (core.NoWholePage len size)) h e = absurd (omega arith)
script_end r told to (Err (core.Utf16 encoding)) h e = absurd (omega arith)
script_end r told to (Err (core.OutputTooLarge load)) h e = absurd (omega arith)
script_end r told to (Err core.OutputFault) h e = absurd (omega arith)
script_end r told to (Err core.ScriptFault) h e = h
script_end r told to (Err core.ReportFault) h e = absurd (omega arith)
script_end r told to (Err core.Memory) h e = absurd (omega arith)

report_end : (r : RecoveryAsked) (told : Option (List ℕ)) (to : Outputs) (end : Result Summary CoreFault) → Ends (options_of r) told to end
    → status_of (answer_of end) ≡ 9 → StopsAtReport (options_of r) told to
report_end r told to (Ok s) h e = absurd (omega arith)
report_end r told to (Err core.InputFault) h e = absurd (omega arith)
report_end r told to (Err (core.TooLarge len)) h e = absurd (omega arith)
report_end r told to (Err core.NoPageSize) h e = absurd (omega arith)
report_end r told to (Err (core.NoWholePage len size)) h e = absurd (omega arith)
report_end r told to (Err (core.Utf16 encoding)) h e = absurd (omega arith)
report_end r told to (Err (core.OutputTooLarge load)) h e = absurd (omega arith)
report_end r told to (Err core.OutputFault) h e = absurd (omega arith)
report_end r told to (Err core.ScriptFault) h e = absurd (omega arith)
report_end r told to (Err core.ReportFault) h e = h
report_end r told to (Err core.Memory) h e = absurd (omega arith)

much_end : (r : RecoveryAsked) (told : Option (List ℕ)) (to : Outputs) (end : Result Summary CoreFault) → Ends (options_of r) told to end
    → status_of (answer_of end) ≡ 6 → (load : ℕ) × IsOver (options_of r) told load
much_end r told to (Ok s) h e = absurd (omega arith)
much_end r told to (Err core.InputFault) h e = absurd (omega arith)
much_end r told to (Err (core.TooLarge len)) h e = absurd (omega arith)
much_end r told to (Err core.NoPageSize) h e = absurd (omega arith)
much_end r told to (Err (core.NoWholePage len size)) h e = absurd (omega arith)
much_end r told to (Err (core.Utf16 encoding)) h e = absurd (omega arith)
much_end r told to (Err (core.OutputTooLarge load)) h e = (load, h)
much_end r told to (Err core.OutputFault) h e = absurd (omega arith)
much_end r told to (Err core.ScriptFault) h e = absurd (omega arith)
much_end r told to (Err core.ReportFault) h e = absurd (omega arith)
much_end r told to (Err core.Memory) h e = absurd (omega arith)

-- a status of recoveries alone comes of no other command
not_own : (n : ℕ) (answer : Result (Unit {0}) Fault) → IsOfListing answer → (n ≡ 6) ⊎ ((n ≡ 7) ⊎ (n ≡ 8)) → status_of answer ≡ n → ⊥
not_own n (Ok done) own which e = omega arith
not_own n (Err Usage) own which e = absurd own
not_own n (Err InputFault) own which e = omega arith
not_own n (Err (TooLarge len)) own which e = omega arith
not_own n (Err NoPageSize) own which e = omega arith
not_own n (Err (NoWholePage len size)) own which e = omega arith
not_own n (Err Utf16) own which e = omega arith
not_own n (Err (OutputTooLarge load)) own which e = absurd own
not_own n (Err OutputFault) own which e = absurd own
not_own n (Err ScriptFault) own which e = absurd own
not_own n (Err ReportFault) own which e = omega arith
not_own n (Err Memory) own which e = omega arith

no_command : (n : ℕ) (answer : Result (Unit {0}) Fault) → IsNoCommand answer → (n ≡ 6) ⊎ ((n ≡ 7) ⊎ (n ≡ 8)) → status_of answer ≡ n → ⊥
no_command n answer h which e = elim (refused answer h) [ inl two ↦ omega arith | inr eleven ↦ omega arith ]

-- a trial has the answers of a trial alone
not_tried : (n : ℕ) (answer : Result (Unit {0}) Fault) → IsOfTrial answer → (n ≡ 6) ⊎ ((n ≡ 7) ⊎ (n ≡ 8)) → status_of answer ≡ n → ⊥
not_tried n answer h which e = elim (trial_status answer h) [ inl zero_is ↦ omega arith | inr more ↦ elim more [ inl nine ↦ omega arith | inr eleven ↦ omega arith ] ]

pub recovered : (command : Option Asked) (told : Option (List ℕ)) (turns : Turns) (answer : Result (Unit {0}) Fault) → IsOwn command answer
    → HasEnd command told turns answer → status_of answer ≡ 0 → IsRecovered command told turns
recovered None told turns answer own ended e = tt
recovered (Some (Lists listing file)) told turns answer own ended e = tt
recovered (Some (Tries n)) told turns answer own ended e = tt
recovered (Some (Recovers r)) told turns answer own ended e = done_end r told (outputs_of r turns) ended.end ended.ends (end_status 0 ended e)

pub output_cut : (command : Option Asked) (told : Option (List ℕ)) (turns : Turns) (answer : Result (Unit {0}) Fault) → IsOwn command answer
    → HasEnd command told turns answer → status_of answer ≡ 7 → StopsAtOutput command told turns
output_cut None told turns answer own ended e = no_command 7 answer own (inr (inl refl)) e
output_cut (Some (Lists listing file)) told turns answer own ended e = not_own 7 answer own (inr (inl refl)) e
output_cut (Some (Tries n)) told turns answer own ended e = not_tried 7 answer own (inr (inl refl)) e
output_cut (Some (Recovers r)) told turns answer own ended e = output_end r told (outputs_of r turns) ended.end ended.ends (end_status 7 ended e)

pub script_cut : (command : Option Asked) (told : Option (List ℕ)) (turns : Turns) (answer : Result (Unit {0}) Fault) → IsOwn command answer
    → HasEnd command told turns answer → status_of answer ≡ 8 → StopsAtTexts command told turns
script_cut None told turns answer own ended e = no_command 8 answer own (inr (inr refl)) e
script_cut (Some (Lists listing file)) told turns answer own ended e = not_own 8 answer own (inr (inr refl)) e
script_cut (Some (Tries n)) told turns answer own ended e = not_tried 8 answer own (inr (inr refl)) e
script_cut (Some (Recovers r)) told turns answer own ended e = script_end r told (outputs_of r turns) ended.end ended.ends (end_status 8 ended e)

pub report_cut : (command : Option Asked) (told : Option (List ℕ)) (turns : Turns) (answer : Result (Unit {0}) Fault) → IsOwn command answer
    → HasEnd command told turns answer → status_of answer ≡ 9 → StopsAtLines command told turns
report_cut None told turns answer own ended e = tt
report_cut (Some (Lists listing file)) told turns answer own ended e = tt
report_cut (Some (Tries n)) told turns answer own ended e = tt
report_cut (Some (Recovers r)) told turns answer own ended e = report_end r told (outputs_of r turns) ended.end ended.ends (end_status 9 ended e)

pub too_much : (command : Option Asked) (told : Option (List ℕ)) (turns : Turns) (answer : Result (Unit {0}) Fault) → IsOwn command answer
    → HasEnd command told turns answer → status_of answer ≡ 6 → IsTooMuch command told
too_much None told turns answer own ended e = no_command 6 answer own (inl refl) e
too_much (Some (Lists listing file)) told turns answer own ended e = not_own 6 answer own (inl refl) e
too_much (Some (Tries n)) told turns answer own ended e = not_tried 6 answer own (inl refl) e
too_much (Some (Recovers r)) told turns answer own ended e = much_end r told (outputs_of r turns) ended.end ended.ends (end_status 6 ended e)

-- why an input is refused, by an early status
abbrev Refusal : RecoveryAsked → List ℕ → ℕ → Type 0
Refusal r all status = (fault : CoreFault) × ((status ≡ fault_status (of_core fault)) × IsRefused (options_of r) all fault)

barred_end : (r : RecoveryAsked) (all : List ℕ) (to : Outputs) (end : Result Summary CoreFault) → Ends (options_of r) (Some all) to end
    → IsEarlyStatus (status_of (answer_of end)) → Refusal r all (status_of (answer_of end))
barred_end r all to (Ok s) h early = absurd (omega arith)
barred_end r all to (Err core.InputFault) h early = (core.InputFault, (refl, h))
barred_end r all to (Err (core.TooLarge len)) h early = ((core.TooLarge len), (refl, h))
barred_end r all to (Err core.NoPageSize) h early = (core.NoPageSize, (refl, h))
barred_end r all to (Err (core.NoWholePage len size)) h early = ((core.NoWholePage len size), (refl, h))
barred_end r all to (Err (core.Utf16 encoding)) h early = ((core.Utf16 encoding), (refl, h))
barred_end r all to (Err (core.OutputTooLarge load)) h early = absurd (omega arith)
barred_end r all to (Err core.OutputFault) h early = absurd (omega arith)
barred_end r all to (Err core.ScriptFault) h early = absurd (omega arith)
barred_end r all to (Err core.ReportFault) h early = absurd (omega arith)
barred_end r all to (Err core.Memory) h early = (core.Memory, (refl, h))

pub barred : (command : Option Asked) (told : Option (List ℕ)) (turns : Turns) (answer : Result (Unit {0}) Fault) → HasEnd command told turns answer
    → IsEarlyStatus (status_of answer) → IsBarred command told (status_of answer)
barred None told turns answer ended early = tt
barred (Some (Lists listing file)) told turns answer ended early = tt
barred (Some (Tries n)) told turns answer ended early = tt
barred (Some (Recovers r)) None turns answer ended early = tt
barred (Some (Recovers r)) (Some all) turns answer ended early =
    let same : status_of answer ≡ status_of (answer_of ended.end) = ap (λ (a : Result (Unit {0}) Fault). status_of a) ended.answer_is in
    subst (λ (n : ℕ). Refusal r all n) (sym same)
    (barred_end r all (outputs_of r turns) ended.end ended.ends (subst (λ (n : ℕ). IsEarlyStatus n) same early))

-- a refusal that nothing stands for
not_free : (r : RecoveryAsked) (all : List ℕ) (fault : CoreFault) → IsRecoverable (options_of r) all → IsRefused (options_of r) all fault
    → (fault ≡ core.InputFault → ⊥) → (fault ≡ core.Memory → ⊥) → ⊥
not_free r all fault h refused no_input no_memory = elim (h.read fault refused) [ inl e ↦ no_input e | inr e ↦ no_memory e ]

free_end : (F G H K : Type 0) (r : RecoveryAsked) (all : List ℕ) (to : Outputs) (end : Result Summary CoreFault) → Ends (options_of r) (Some all) to end
    → (IsErrOf (answer_of end) InputFault → F) → (IsErrOf (answer_of end) OutputFault → G) → (IsErrOf (answer_of end) ScriptFault → H)
    → (IsErrOf (answer_of end) ReportFault → K) → IsRecoverable (options_of r) all → (F → ⊥) → (G → ⊥) → (H → ⊥) → (K → ⊥)
    → (status_of (answer_of end) ≡ 0) ⊎ (status_of (answer_of end) ≡ 11)
free_end F G H K r all to (Ok s) h f g o k free no_f no_g no_o no_k = inl refl
free_end F G H K r all to (Err core.InputFault) h f g o k free no_f no_g no_o no_k = absurd (no_f (f refl))
free_end F G H K r all to (Err (core.TooLarge len)) h f g o k free no_f no_g no_o no_k = absurd (not_free r all (core.TooLarge len) free h (λ e. cc) (λ e. cc))
free_end F G H K r all to (Err core.NoPageSize) h f g o k free no_f no_g no_o no_k = absurd (not_free r all core.NoPageSize free h (λ e. cc) (λ e. cc))
free_end F G H K r all to (Err (core.NoWholePage len size)) h f g o k free no_f no_g no_o no_k = absurd (not_free r all (core.NoWholePage len size) free h (λ e. cc) (λ e. cc))
free_end F G H K r all to (Err (core.Utf16 encoding)) h f g o k free no_f no_g no_o no_k = absurd (not_free r all (core.Utf16 encoding) free h (λ e. cc) (λ e. cc))
free_end F G H K r all to (Err (core.OutputTooLarge load)) h f g o k free no_f no_g no_o no_k = absurd (free.small load h)
free_end F G H K r all to (Err core.OutputFault) h f g o k free no_f no_g no_o no_k = absurd (no_g (g refl))
free_end F G H K r all to (Err core.ScriptFault) h f g o k free no_f no_g no_o no_k = absurd (no_o (o refl))
free_end F G H K r all to (Err core.ReportFault) h f g o k free no_f no_g no_o no_k = absurd (no_k (k refl))
free_end F G H K r all to (Err core.Memory) h f g o k free no_f no_g no_o no_k = inr refl

pub recoverable_told : (F G H K : Type 0) (command : Option Asked) (told : Option (List ℕ)) (turns : Turns) (answer : Result (Unit {0}) Fault)
    → HasEnd command told turns answer → (IsErrOf answer InputFault → F) → (IsErrOf answer OutputFault → G) → (IsErrOf answer ScriptFault → H)
    → (IsErrOf answer ReportFault → K)
    → IfSome told (λ all. IsRecoverableBy command all → (F → ⊥) → (G → ⊥) → (H → ⊥) → (K → ⊥) → (status_of answer ≡ 0) ⊎ (status_of answer ≡ 11))
recoverable_told F G H K command None turns answer ended f g o k = tt
recoverable_told F G H K None (Some all) turns answer ended f g o k = λ free no_f no_g no_o no_k. absurd free
recoverable_told F G H K (Some (Lists listing file)) (Some all) turns answer ended f g o k = λ free no_f no_g no_o no_k. absurd free
recoverable_told F G H K (Some (Tries n)) (Some all) turns answer ended f g o k = λ free no_f no_g no_o no_k. absurd free
recoverable_told F G H K (Some (Recovers r)) (Some all) turns answer ended f g o k = λ free no_f no_g no_o no_k.
    let is = ended.answer_is in
    subst (λ (a : Result (Unit {0}) Fault). (status_of a ≡ 0) ⊎ (status_of a ≡ 11)) (sym is)
    (free_end F G H K r all (outputs_of r turns) ended.end ended.ends
    (subst (λ (a : Result (Unit {0}) Fault). IsErrOf a InputFault → F) is f)
    (subst (λ (a : Result (Unit {0}) Fault). IsErrOf a OutputFault → G) is g)
    (subst (λ (a : Result (Unit {0}) Fault). IsErrOf a ScriptFault → H) is o)
    (subst (λ (a : Result (Unit {0}) Fault). IsErrOf a ReportFault → K) is k) free no_f no_g no_o no_k)

-- well-formed bytes in scope can be recovered
wide : (r : RecoveryAsked) → AreWide (options_of r)
wide r = record { input = omega arith; load = omega arith }

whole_free : (command : Option Asked) (all : List ℕ) → IsWholeBy command all → IsRecoverableBy command all
whole_free None all whole = absurd whole
whole_free (Some (Lists listing file)) all whole = absurd whole
whole_free (Some (Tries n)) all whole = absurd whole
whole_free (Some (Recovers r)) all whole = never_barred (options_of r) all whole.0 (wide r) whole.1

pub whole_told : (F G H K : Type 0) (command : Option Asked) (told : Option (List ℕ)) (n : ℕ)
    → IfSome told (λ all. IsRecoverableBy command all → (F → ⊥) → (G → ⊥) → (H → ⊥) → (K → ⊥) → (n ≡ 0) ⊎ (n ≡ 11))
    → IfSome told (λ all. IsWholeBy command all → (F → ⊥) → (G → ⊥) → (H → ⊥) → (K → ⊥) → (n ≡ 0) ⊎ (n ≡ 11))
whole_told F G H K command None n h = tt
whole_told F G H K command (Some all) n h = λ whole no_f no_g no_o no_k. h (whole_free command all whole) no_f no_g no_o no_k

-- ---- what is left as it was, by the status

-- the answer of the status 11
wanting : (answer : Result (Unit {0}) Fault) → status_of answer ≡ 11 → IsErrOf answer Memory
wanting (Ok done) e = absurd (omega arith)
wanting (Err Usage) e = absurd (omega arith)
wanting (Err InputFault) e = absurd (omega arith)
wanting (Err (TooLarge len)) e = absurd (omega arith)
wanting (Err NoPageSize) e = absurd (omega arith)
wanting (Err (NoWholePage len size)) e = absurd (omega arith)
wanting (Err Utf16) e = absurd (omega arith)
wanting (Err (OutputTooLarge load)) e = absurd (omega arith)
wanting (Err OutputFault) e = absurd (omega arith)
wanting (Err ScriptFault) e = absurd (omega arith)
wanting (Err ReportFault) e = absurd (omega arith)
wanting (Err Memory) e = refl

pub output_left : (command : Option Asked) (answer : Result (Unit {0}) Fault) → KeepsOutput command (status_of answer) → LeavesOutput command answer
output_left None answer h = tt
output_left (Some (Lists listing file)) answer h = tt
output_left (Some (Tries n)) answer h = tt
output_left (Some (Recovers r)) (Ok done) h = h.0 refl
output_left (Some (Recovers r)) (Err Usage) h = tt
output_left (Some (Recovers r)) (Err InputFault) h = tt
output_left (Some (Recovers r)) (Err (TooLarge len)) h = tt
output_left (Some (Recovers r)) (Err NoPageSize) h = tt
output_left (Some (Recovers r)) (Err (NoWholePage len size)) h = tt
output_left (Some (Recovers r)) (Err Utf16) h = tt
output_left (Some (Recovers r)) (Err (OutputTooLarge load)) h = tt
output_left (Some (Recovers r)) (Err OutputFault) h = h.1.0 refl
output_left (Some (Recovers r)) (Err ScriptFault) h = h.1.1.0 refl
output_left (Some (Recovers r)) (Err ReportFault) h = h.1.1.1 refl
output_left (Some (Recovers r)) (Err Memory) h = tt

pub script_left : (command : Option Asked) (answer : Result (Unit {0}) Fault) → KeepsScript command (status_of answer) → LeavesScript command answer
script_left None answer h = tt
script_left (Some (Lists listing file)) answer h = tt
script_left (Some (Tries n)) answer h = tt
script_left (Some (Recovers r)) (Ok done) h = h.0 refl
script_left (Some (Recovers r)) (Err Usage) h = tt
script_left (Some (Recovers r)) (Err InputFault) h = tt
script_left (Some (Recovers r)) (Err (TooLarge len)) h = tt
script_left (Some (Recovers r)) (Err NoPageSize) h = tt
script_left (Some (Recovers r)) (Err (NoWholePage len size)) h = tt
script_left (Some (Recovers r)) (Err Utf16) h = tt
script_left (Some (Recovers r)) (Err (OutputTooLarge load)) h = tt
script_left (Some (Recovers r)) (Err OutputFault) h = tt
script_left (Some (Recovers r)) (Err ScriptFault) h = h.1.0 refl
script_left (Some (Recovers r)) (Err ReportFault) h = h.1.1 refl
script_left (Some (Recovers r)) (Err Memory) h = tt

pub report_left : (command : Option Asked) (answer : Result (Unit {0}) Fault) → KeepsReport command (status_of answer) → LeavesReport command answer
report_left None answer h = tt
report_left (Some (Tries n)) answer h = wanting answer h
report_left (Some (Lists listing file)) (Ok done) h = omega arith
report_left (Some (Lists listing file)) (Err Usage) h = tt
report_left (Some (Lists listing file)) (Err InputFault) h = omega arith
report_left (Some (Lists listing file)) (Err (TooLarge len)) h = tt
report_left (Some (Lists listing file)) (Err NoPageSize) h = tt
report_left (Some (Lists listing file)) (Err (NoWholePage len size)) h = tt
report_left (Some (Lists listing file)) (Err Utf16) h = tt
report_left (Some (Lists listing file)) (Err (OutputTooLarge load)) h = omega arith
report_left (Some (Lists listing file)) (Err OutputFault) h = omega arith
report_left (Some (Lists listing file)) (Err ScriptFault) h = omega arith
report_left (Some (Lists listing file)) (Err ReportFault) h = omega arith
report_left (Some (Lists listing file)) (Err Memory) h = omega arith
report_left (Some (Recovers r)) (Ok done) h = h.0 refl
report_left (Some (Recovers r)) (Err Usage) h = tt
report_left (Some (Recovers r)) (Err InputFault) h = tt
report_left (Some (Recovers r)) (Err (TooLarge len)) h = tt
report_left (Some (Recovers r)) (Err NoPageSize) h = tt
report_left (Some (Recovers r)) (Err (NoWholePage len size)) h = tt
report_left (Some (Recovers r)) (Err Utf16) h = tt
report_left (Some (Recovers r)) (Err (OutputTooLarge load)) h = tt
report_left (Some (Recovers r)) (Err OutputFault) h = tt
report_left (Some (Recovers r)) (Err ScriptFault) h = tt
report_left (Some (Recovers r)) (Err ReportFault) h = h.1 refl
report_left (Some (Recovers r)) (Err Memory) h = tt

-- the end of a recovery whose words are not read for want of memory
unread : (r : RecoveryAsked) (told : Option (List ℕ)) (turns : Turns) → EndsAs r told turns (Err Memory)
unread r None turns = record { end = Err core.Memory; answer_is = refl; ends = tt }
unread r (Some all) turns = record { end = Err core.Memory; answer_is = refl; ends = tt }

unread_by : {B : Type 0} (command : Option Asked) (told : Option (List ℕ)) (turns : Turns) (fault : WordsFault) → (IsErrOf {T = B} (Err fault) words.Usage → command ≡ None)
    → HasEnd command told turns (Err (of_words fault))
unread_by None told turns fault h = tt
unread_by (Some (Lists listing file)) told turns fault h = tt
unread_by (Some (Recovers r)) told turns words.Memory h = unread r told turns
unread_by (Some (Tries n)) told turns words.Memory h = record { end = Err trials.Memory; answer_is = refl; ends = tt }
unread_by (Some (Tries n)) told turns words.Usage h = let none = h refl in absurd cc
unread_by (Some (Recovers r)) told turns words.Usage h = let none = h refl in absurd cc

-- words that are not read have no end of a recovery but the want of memory
pub unread_end : {B : Type 0} (command : Option Asked) (told : Option (List ℕ)) (turns : Turns) (fault : WordsFault) (answer : Result (Unit {0}) Fault)
    → IsErrAnd answer (λ e. e ≡ of_words fault) → (IsErrOf {T = B} (Err fault) words.Usage → command ≡ None) → HasEnd command told turns answer
unread_end {B = B} command told turns fault (Ok done) is h = absurd is
unread_end {B = B} command told turns fault (Err e) is h =
    let same : e ≡ of_words fault = is in
    subst (λ (f : Fault). HasEnd command told turns (Err f)) (sym same) (unread_by {B = B} command told turns fault h)

-- a recovery that was not begun reads nothing
pub unread_few : (command : Option Asked) (told : Option (List ℕ)) (n : ℕ) → HasFewReads command told n n
unread_few None told n = tt
unread_few (Some (Lists listing file)) told n = tt
unread_few (Some (Tries m)) told n = tt
unread_few (Some (Recovers r)) None n = tt
unread_few (Some (Recovers r)) (Some all) n = omega arith

-- a report that is not whole is not finished
pub open_end : (o : Options) (told : Option (List ℕ)) (to : Outputs) (fault : CoreFault) → Ends o told to (Err fault)
    → (IsBeforeLines {A = Summary} (Err fault) → to.report_turn.finished ≡ to.report_turn.was_finished)
    → StaysUnfinished to.report_turn.was_finished to.report_turn.finished
open_end o told to core.ReportFault ends same = ends.report.unfinished
open_end o told to core.ScriptFault ends same = inr (same tt)
open_end o told to core.OutputFault ends same = inr (same tt)
open_end o told to core.InputFault ends same = inr (same tt)
open_end o told to (core.TooLarge len) ends same = inr (same tt)
open_end o told to core.NoPageSize ends same = inr (same tt)
open_end o told to (core.NoWholePage len size) ends same = inr (same tt)
open_end o told to (core.Utf16 encoding) ends same = inr (same tt)
open_end o told to (core.OutputTooLarge load) ends same = inr (same tt)
open_end o told to core.Memory ends same = inr (same tt)
