use Rattle.std.proofs.Common.{◌+◌, ◌∙◌, List, ℕ, ap, length, drop, arith}
use Rattle.std.specs.Prelude.{decimal}
use Rattle.page_access.proofs.Gains.{front_as, front_out, front_step, writes_same}
use Rattle.page_access.proofs.Keeps.{KeepsSink-trans}
use Rattle.dbdata_list.specs.Text.{field_line, fields_text}
use Rattle.dbdata_list.proofs.Pieces.{fields_more}
use Rattle.dbdata_list.proofs.lines.put_fields.Goals as goal

pub returns-in_err-put_numbered-clause-writes : goal.returns-in_err-put_numbered-clause-writes
returns-in_err-put_numbered-clause-writes g c =
    let was = c.loop-field.invariant in
    let place = c.args.line.now.items in
    let field = c.loop-field.field in
    let value = c.index-values-field.result in
    front_out (fields_text place (field + 1) (drop (field + 1) c.args.values.now)) c.from_residual.ensures.0
    (front_as (fields_more place field c.args.values.now value c.index-values-field.is (omega arith)) was.front)
    (writes_same (ap (λ (p : List ℕ). field_line p (decimal field) value) was.line) c.in_err-put_numbered.ensures.writes)

pub loop-field-preserved : goal.loop-field-preserved
loop-field-preserved g c =
    let was = c.loop-field.invariant in
    let place = c.args.line.now.items in
    let field = c.loop-field.field in
    let value = c.index-values-field.result in
    record {
      front = front_step (fields_text place (field + 1) (drop (field + 1) c.args.values.now))
          (front_as (fields_more place field c.args.values.now value c.index-values-field.is (omega arith)) was.front)
          (writes_same (ap (λ (p : List ℕ). field_line p (decimal field) value) was.line) c.in_ok-put_numbered.ensures.writes);
      kept = KeepsSink-trans was.kept c.in_ok-put_numbered.ensures.kept;
      line = c.in_ok-put_numbered.ensures.line ∙ was.line;
      len = omega (arith, ap length (c.in_ok-put_numbered.ensures.line ∙ was.line), ap length was.line, was.len);
    }
