use Rattle.std.proofs.Common.{◌≡◌, ◌^◌, ◌∙◌, ℕ, List, Some, Ok, Err, ap, arith, refl, subst, sym}
use Rattle.page_access.specs.Files.{max_input}
use Rattle.command_line.specs.Command.{recovery_view}
use Rattle.command_line.specs.Parts.{Recovers}
use Rattle.lost_found.specs.Names.{CanBeBase}
use Rattle.salvage_core.specs.Outcome.{Ends, turn_of}
use Rattle.salvage_core.specs.declared.faults.Fault.TheVariants as core
use Rattle.salvage_core.specs.declared.options.Options.{Options}
use Rattle.salvage_cli.specs.Recovery.{Turns, answer_of, options_of, outputs_of}
use Rattle.salvage_cli.proofs.Ended.{open_end, unread_few}
use Rattle.salvage_cli.proofs.Options.{can_be_base, chosen, memory_ends}
use Rattle.salvage_cli.proofs.recoveries.recover.Goals as goal

pub returns-in_default-clause-ends : goal.returns-in_default-clause-ends
returns-in_default-clause-ends g c = record {
  end = Err core.Memory;
  answer_is = refl;
  ends = memory_ends (options_of (recovery_view c.args.recovery.now)) (g.S.Source.bytes c.args.src.now);
}

pub recover-end-requires : goal.recover-end-requires
recover-end-requires g c =
    let r = c.args.recovery.now in record {
      lost = subst CanBeBase
          (sym (c.in-Ok.ensures ∙ (c.as_bytes.ensures.value ∙ (ap (λ w. w.now) c.unwrap_or-lost.ensures ∙ chosen r.lost _ refl))))
          (can_be_base r.lost r.lost_is);
      size = r.input.size_is;
      enough = r.input.enough;
      input_limit = omega arith;
      load_limit = omega arith;
    }

pub returns-in-Ok-end-clause-ends : goal.returns-in-Ok-end-clause-ends
returns-in-Ok-end-clause-ends g c =
    let r = c.args.recovery.now in
    let out = turn_of g.O.Sink.bytes g.O.Sink.created g.O.Sink.finished g.O.Sink.faults c.args.out.now c.recover-end.new.out in
    let script = turn_of g.T.Sink.bytes g.T.Sink.created g.T.Sink.finished g.T.Sink.faults c.args.script.now c.recover-end.new.script in
    let report = turn_of g.R.Sink.bytes g.R.Sink.created g.R.Sink.finished g.R.Sink.faults c.args.report.now c.recover-end.new.report in
    let turns : Turns = record { out = out; script = script; report = report } in
    let with_lost : List ℕ → Options = λ lost. record {
      page_size = r.input.page_size;
      reserved = r.input.reserved;
      freelist_corrupt = r.freelist_corrupt;
      lost = lost;
      input_limit = max_input;
      load_limit = 2 ^ 32;
    } in record {
      end = Ok c.in-Ok-end.field-0;
      answer_is = refl;
      ends = subst (λ (lost : List ℕ). Ends (with_lost lost) (g.S.Source.bytes c.args.src.now) (outputs_of (recovery_view r) turns) (Ok c.in-Ok-end.field-0))
          (c.in-Ok.ensures ∙ (c.as_bytes.ensures.value ∙ (ap (λ w. w.now) c.unwrap_or-lost.ensures ∙ chosen r.lost _ refl)))
          c.in-Ok-end.ensures.ends;
    }

pub returns-clause-ends : goal.returns-clause-ends
returns-clause-ends g c =
    let r = c.args.recovery.now in
    let out = turn_of g.O.Sink.bytes g.O.Sink.created g.O.Sink.finished g.O.Sink.faults c.args.out.now c.recover-end.new.out in
    let script = turn_of g.T.Sink.bytes g.T.Sink.created g.T.Sink.finished g.T.Sink.faults c.args.script.now c.recover-end.new.script in
    let report = turn_of g.R.Sink.bytes g.R.Sink.created g.R.Sink.finished g.R.Sink.faults c.args.report.now c.recover-end.new.report in
    let turns : Turns = record { out = out; script = script; report = report } in
    let with_lost : List ℕ → Options = λ lost. record {
      page_size = r.input.page_size;
      reserved = r.input.reserved;
      freelist_corrupt = r.freelist_corrupt;
      lost = lost;
      input_limit = max_input;
      load_limit = 2 ^ 32;
    } in record {
      end = Err c.in-Err.fault;
      answer_is = ap (λ f. Err f) c.from.ensures;
      ends = subst (λ (lost : List ℕ). Ends (with_lost lost) (g.S.Source.bytes c.args.src.now) (outputs_of (recovery_view r) turns) (Err c.in-Err.fault))
          (c.in-Ok.ensures ∙ (c.as_bytes.ensures.value ∙ (ap (λ w. w.now) c.unwrap_or-lost.ensures ∙ chosen r.lost _ refl)))
          c.in-Err.ensures.ends;
    }

pub returns-in_default-clause-reads : goal.returns-in_default-clause-reads
returns-in_default-clause-reads g c =
    unread_few (Some (Recovers (recovery_view c.args.recovery.now))) (g.S.Source.bytes c.args.src.now) (g.S.Source.reads c.args.src.now)

pub returns-clause-unfinished : goal.returns-clause-unfinished
returns-clause-unfinished g c =
    let r = c.args.recovery.now in
    let out = turn_of g.O.Sink.bytes g.O.Sink.created g.O.Sink.finished g.O.Sink.faults c.args.out.now c.recover-end.new.out in
    let script = turn_of g.T.Sink.bytes g.T.Sink.created g.T.Sink.finished g.T.Sink.faults c.args.script.now c.recover-end.new.script in
    let report = turn_of g.R.Sink.bytes g.R.Sink.created g.R.Sink.finished g.R.Sink.faults c.args.report.now c.recover-end.new.report in
    open_end _ (g.S.Source.bytes c.args.src.now)
    (outputs_of (recovery_view r) (record { out = out; script = script; report = report })) c.in-Err.fault
    c.in-Err.ensures.ends (λ b. ap g.R.Sink.finished (c.in-Err.ensures.report_kept b))
