-- What a status says of a trial.
use Rattle.std.proofs.Common.{◌≡◌, ◌∙◌, ◌⊎◌, ℕ, List, Option, Some, None, Result, Ok, Err, ap, inl, inr, refl, sym, arith}
use Rattle.command_line.specs.Parts.{Asked, Lists, Recovers, Tries}
use Rattle.salvage_core.specs.Outcome.{IsCut, IsWhole, SinkTurn}
use Rattle.salvage_trial.specs.Trial.{Ends, IsTrialText}
use Rattle.salvage_trial.specs.declared.faults.TrialFault.{TrialFault}
use Rattle.salvage_trial.specs.declared.faults.TrialFault.TheVariants as trials
use Rattle.salvage_cli.specs.Answers.{status_of}
use Rattle.salvage_cli.specs.Outcome.{HasEnd, IsOwn}
use Rattle.salvage_cli.specs.Recovery.{Turns}
use Rattle.salvage_cli.specs.Tried.{EndsTrial, IsOfTrial, IsTrialAsked, IsTrialStatus, IsTried, StopsAtTrial, trial_answer}
use Rattle.salvage_cli.specs.declared.faults.Fault.{Fault}
use Rattle.salvage_cli.specs.declared.faults.Fault.TheVariants.{Usage, InputFault, TooLarge, NoPageSize, NoWholePage, Utf16, OutputTooLarge, OutputFault, ScriptFault, ReportFault, Memory}

pub trial_status : (answer : Result (Unit {0}) Fault) → IsOfTrial answer → IsTrialStatus (status_of answer)
trial_status (Ok done) h = inl refl
trial_status (Err ReportFault) h = inr (inl refl)
trial_status (Err Memory) h = inr (inr refl)
trial_status (Err Usage) h = absurd h
trial_status (Err InputFault) h = absurd h
trial_status (Err (TooLarge len)) h = absurd h
trial_status (Err NoPageSize) h = absurd h
trial_status (Err (NoWholePage len size)) h = absurd h
trial_status (Err Utf16) h = absurd h
trial_status (Err (OutputTooLarge load)) h = absurd h
trial_status (Err OutputFault) h = absurd h
trial_status (Err ScriptFault) h = absurd h

pub asked_status : (command : Option Asked) (answer : Result (Unit {0}) Fault) → IsOwn command answer → IsTrialAsked command → IsTrialStatus (status_of answer)
asked_status None answer own asked = absurd asked
asked_status (Some (Lists listing file)) answer own asked = absurd asked
asked_status (Some (Recovers r)) answer own asked = absurd asked
asked_status (Some (Tries n)) answer own asked = trial_status answer own

-- the end of a trial is one of its answers
end_own : (end : Result (Unit {0}) TrialFault) → IsOfTrial (trial_answer end)
end_own (Ok done) = tt
end_own (Err trials.Sink) = tt
end_own (Err trials.Memory) = tt

-- the status of the answer is that of the end
end_status : {n : ℕ} {t : SinkTurn} {answer : Result (Unit {0}) Fault} (k : ℕ) (h : EndsTrial n t answer) → status_of answer ≡ k → status_of (trial_answer h.end) ≡ k
end_status k h e = sym (ap (λ (a : Result (Unit {0}) Fault). status_of a) h.answer_is) ∙ e

tried_end : (n : ℕ) (t : SinkTurn) (end : Result (Unit {0}) TrialFault) → Ends n t end → status_of (trial_answer end) ≡ 0
    → (text : List ℕ) × IsTrialText n text × IsWhole text t
tried_end n t (Ok done) h e = h
tried_end n t (Err trials.Sink) h e = absurd (omega arith)
tried_end n t (Err trials.Memory) h e = absurd (omega arith)

cut_end : (n : ℕ) (t : SinkTurn) (end : Result (Unit {0}) TrialFault) → Ends n t end → status_of (trial_answer end) ≡ 9
    → (text : List ℕ) × IsTrialText n text × IsCut text t
cut_end n t (Ok done) h e = absurd (omega arith)
cut_end n t (Err trials.Sink) h e = h
cut_end n t (Err trials.Memory) h e = absurd (omega arith)

pub tried : (command : Option Asked) (told : Option (List ℕ)) (turns : Turns) (answer : Result (Unit {0}) Fault) → HasEnd command told turns answer
    → status_of answer ≡ 0 → IsTried command turns.report
tried None told turns answer ended e = tt
tried (Some (Lists listing file)) told turns answer ended e = tt
tried (Some (Recovers r)) told turns answer ended e = tt
tried (Some (Tries n)) told turns answer ended e = tried_end n turns.report ended.end ended.ends (end_status 0 ended e)

pub trial_cut : (command : Option Asked) (told : Option (List ℕ)) (turns : Turns) (answer : Result (Unit {0}) Fault) → HasEnd command told turns answer
    → status_of answer ≡ 9 → StopsAtTrial command turns.report
trial_cut None told turns answer ended e = tt
trial_cut (Some (Lists listing file)) told turns answer ended e = tt
trial_cut (Some (Recovers r)) told turns answer ended e = tt
trial_cut (Some (Tries n)) told turns answer ended e = cut_end n turns.report ended.end ended.ends (end_status 9 ended e)

-- no trial has the status of an input that is too large
pub never_large : (n : ℕ) (t : SinkTurn) (answer : Result (Unit {0}) Fault) → EndsTrial n t answer → status_of answer ≡ 5 → ⊥
never_large n t answer h e =
    let at : status_of (trial_answer h.end) ≡ 5 = end_status 5 h e in
    elim (trial_status (trial_answer h.end) (end_own h.end)) [ inl zero_is ↦ omega arith | inr more ↦ elim more [ inl nine ↦ omega arith | inr eleven ↦ omega arith ] ]
