use Rattle.std.proofs.Common.{ℕ, List, subst}
use Rattle.salvage_core.specs.Outcome.{EndsWriting, Outputs, turn_of}
use Rattle.salvage_core.proofs.Ending.{no_error, out_of}
use Rattle.salvage_core.proofs.recovers.write_out.Goals as goal

pub returns-clause-ends : goal.returns-clause-ends
returns-clause-ends g c =
    let out = turn_of g.O.Sink.bytes g.O.Sink.created g.O.Sink.finished g.O.Sink.faults c.args.out.now c.write_all.new.out in
    let script = turn_of g.T.Sink.bytes g.T.Sink.created g.T.Sink.finished g.T.Sink.faults c.args.script.now c.write_all.new.script in
    let report = turn_of g.R.Sink.bytes g.R.Sink.created g.R.Sink.finished g.R.Sink.faults c.args.report.now c.write_all.new.report in
    let to : List ℕ → List ℕ → Outputs =
    λ database name. record { database = database; script = name; out_turn = out; script_turn = script; report_turn = report } in
    out_of c.args.gathered.now c.args.limit (to c.args.output.now c.args.script_name.now) c.write_all.result
    (λ over. no_error (c.in_ok-prepared.ensures.refused over)) c.the_file_of_a_database_spells_it.ensures
    (subst (λ (name : List ℕ). EndsWriting c.args.gathered.now (to c.args.output.now name) c.write_all.result) c.in_ok-script_name.ensures.ok
    (subst (λ (name : List ℕ). EndsWriting c.args.gathered.now (to name c.in_ok-script_name.script_name.bytes.items) c.write_all.result) c.in_ok-output.ensures.ok
    c.write_all.ensures.ends))
