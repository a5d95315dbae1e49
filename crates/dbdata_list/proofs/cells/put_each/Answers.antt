use Rattle.std.proofs.Common.{◌+◌, ◌∙◌, List, ℕ, ap, drop, map, length, arith}
use Rattle.page_access.proofs.Gains.{front_as, front_out, front_step, writes_same}
use Rattle.page_access.proofs.Keeps.{KeepsSink-trans}
use Rattle.page_walk.specs.Cells.{outcome_of}
use Rattle.dbdata_list.specs.Text.{outcome_text, outcomes_text}
use Rattle.dbdata_list.proofs.Turns.{outcomes_more}
use Rattle.dbdata_list.proofs.cells.put_each.Goals as goal

pub returns-in_err-put_cell-clause-writes : goal.returns-in_err-put_cell-clause-writes
returns-in_err-put_cell-clause-writes g c =
    let was = c.loop-cell.invariant in
    let start = c.args.line.now.items in
    let i = c.loop-cell.cell-index in
    front_out (outcomes_text start (map outcome_of (drop (i + 1) c.args.cells.now))) c.from_residual.ensures.0
    (front_as (outcomes_more start i c.args.cells.now c.cell-item.result c.cell-item.is (omega arith)) was.front)
    (writes_same (ap (λ (p : List ℕ). outcome_text p (outcome_of c.cell-item.result)) was.line) c.in_err-put_cell.ensures.writes)

pub loop-cell-preserved : goal.loop-cell-preserved
loop-cell-preserved g c =
    let was = c.loop-cell.invariant in
    let start = c.args.line.now.items in
    let i = c.loop-cell.cell-index in
    record {
      front = front_step (outcomes_text start (map outcome_of (drop (i + 1) c.args.cells.now)))
          (front_as (outcomes_more start i c.args.cells.now c.cell-item.result c.cell-item.is (omega arith)) was.front)
          (writes_same (ap (λ (p : List ℕ). outcome_text p (outcome_of c.cell-item.result)) was.line) c.in_ok-put_cell.ensures.writes);
      kept = KeepsSink-trans was.kept c.in_ok-put_cell.ensures.kept;
      line = c.in_ok-put_cell.ensures.line ∙ was.line;
      len = omega (arith, ap length (c.in_ok-put_cell.ensures.line ∙ was.line), ap length was.line, was.len);
    }
