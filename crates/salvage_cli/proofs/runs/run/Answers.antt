use Rattle.std.proofs.Common.{◌≡◌, ap, subst, sym, ◌⊎◌, ℕ}
use Rattle.salvage_cli.proofs.Causes.{complete_told, no_pages_told, over_told, utf16_told}
use Rattle.salvage_cli.proofs.Ended.{barred, recoverable_told, whole_told, output_cut, output_left, recovered, report_cut, report_left, script_cut, script_left, too_much}
use Rattle.salvage_cli.proofs.Outcomes.{front_told, listed_told, refused, status_told}
use Rattle.salvage_cli.proofs.Trying.{asked_status, trial_cut, tried}
use Rattle.salvage_cli.proofs.runs.run.Goals as goal

pub returns-clause-no_command : goal.returns-clause-no_command
returns-clause-no_command g c = λ none. subst (λ (n : ℕ). (n ≡ 2) ⊎ (n ≡ 11)) (sym c.status.ensures) (refused c.answer-answer.result (c.answer-answer.ensures.no_command none))

pub returns-clause-answered : goal.returns-clause-answered
returns-clause-answered g c = record {
  answer = c.answer-answer.result;
  status_is = c.status.ensures;
  given = c.answer-answer.ensures.told;
  ended = c.answer-answer.ensures.ended;
  numbers = c.answer-answer.ensures.numbers;
  said = c.tell.ensures.said;
}

pub returns-clause-listing : goal.returns-clause-listing
returns-clause-listing g c = rw c.status.ensures (λ e. listed_told _ _ _ _ c.answer-answer.result c.answer-answer.ensures.told e)

pub returns-clause-status : goal.returns-clause-status
returns-clause-status g c = rw c.status.ensures (status_told _ _ _ _ c.answer-answer.result c.answer-answer.ensures.told)

pub returns-clause-report_front : goal.returns-clause-report_front
returns-clause-report_front g c =
    front_told _ _ _ _ c.answer-answer.result c.answer-answer.ensures.told (λ e. ap (λ r. g.R.Sink.bytes r) (c.answer-answer.ensures.report_kept e))

pub returns-clause-complete : goal.returns-clause-complete
returns-clause-complete g c = rw c.status.ensures (complete_told _ _ _ _ _ _ c.answer-answer.result c.answer-answer.ensures.told c.answer-answer.ensures.source.failed c.answer-answer.ensures.sink.failed)

pub returns-clause-too_large : goal.returns-clause-too_large
returns-clause-too_large g c = rw c.status.ensures (over_told _ _ _ _ _ c.answer-answer.result c.answer-answer.ensures.told c.answer-answer.ensures.ended)

pub returns-clause-no_pages : goal.returns-clause-no_pages
returns-clause-no_pages g c = rw c.status.ensures (no_pages_told _ _ _ _ c.answer-answer.result c.answer-answer.ensures.told)

pub returns-clause-utf16 : goal.returns-clause-utf16
returns-clause-utf16 g c = rw c.status.ensures (utf16_told _ _ _ _ c.answer-answer.result c.answer-answer.ensures.told)

pub returns-clause-recovered : goal.returns-clause-recovered
returns-clause-recovered g c = rw c.status.ensures (recovered _ _ _ c.answer-answer.result c.answer-answer.ensures.own c.answer-answer.ensures.ended)

pub returns-clause-output_cut : goal.returns-clause-output_cut
returns-clause-output_cut g c = rw c.status.ensures (output_cut _ _ _ c.answer-answer.result c.answer-answer.ensures.own c.answer-answer.ensures.ended)

pub returns-clause-script_cut : goal.returns-clause-script_cut
returns-clause-script_cut g c = rw c.status.ensures (script_cut _ _ _ c.answer-answer.result c.answer-answer.ensures.own c.answer-answer.ensures.ended)

pub returns-clause-report_cut : goal.returns-clause-report_cut
returns-clause-report_cut g c = rw c.status.ensures (report_cut _ _ _ c.answer-answer.result c.answer-answer.ensures.own c.answer-answer.ensures.ended)

pub returns-clause-too_much : goal.returns-clause-too_much
returns-clause-too_much g c = rw c.status.ensures (too_much _ _ _ c.answer-answer.result c.answer-answer.ensures.own c.answer-answer.ensures.ended)

pub returns-clause-barred : goal.returns-clause-barred
returns-clause-barred g c = rw c.status.ensures (barred _ _ _ c.answer-answer.result c.answer-answer.ensures.ended)

pub returns-clause-recoverable : goal.returns-clause-recoverable
returns-clause-recoverable g c = rw c.status.ensures (recoverable_told _ _ _ _ _ _ _ c.answer-answer.result c.answer-answer.ensures.ended c.answer-answer.ensures.source.failed
    c.answer-answer.ensures.output.failed c.answer-answer.ensures.script.failed c.answer-answer.ensures.sink.failed)

pub returns-clause-well_formed : goal.returns-clause-well_formed
returns-clause-well_formed g c = rw c.status.ensures (whole_told _ _ _ _ _ _ _
    (recoverable_told _ _ _ _ _ _ _ c.answer-answer.result c.answer-answer.ensures.ended c.answer-answer.ensures.source.failed
    c.answer-answer.ensures.output.failed c.answer-answer.ensures.script.failed c.answer-answer.ensures.sink.failed))

pub returns-clause-tried : goal.returns-clause-tried
returns-clause-tried g c = rw c.status.ensures (tried _ _ _ c.answer-answer.result c.answer-answer.ensures.ended)

pub returns-clause-trial_cut : goal.returns-clause-trial_cut
returns-clause-trial_cut g c = rw c.status.ensures (trial_cut _ _ _ c.answer-answer.result c.answer-answer.ensures.ended)

pub returns-clause-trial_status : goal.returns-clause-trial_status
returns-clause-trial_status g c = rw c.status.ensures (asked_status _ c.answer-answer.result c.answer-answer.ensures.own)

pub returns-clause-out_kept : goal.returns-clause-out_kept
returns-clause-out_kept g c = rw c.status.ensures (λ h. c.answer-answer.ensures.out_kept (output_left _ c.answer-answer.result h))

pub returns-clause-script_kept : goal.returns-clause-script_kept
returns-clause-script_kept g c = rw c.status.ensures (λ h. c.answer-answer.ensures.script_kept (script_left _ c.answer-answer.result h))

pub returns-clause-report_kept : goal.returns-clause-report_kept
returns-clause-report_kept g c = rw c.status.ensures (λ h. c.answer-answer.ensures.report_kept (report_left _ c.answer-answer.result h))
