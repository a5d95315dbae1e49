use Rattle.std.proofs.Common.{◌≡◌, ◌≤◌, drop}
use Rattle.arrayvec.specs.ArrayVec.{array_vec_len}
use Rattle.page_access.specs.Outside.{KeepsSink}
use Rattle.page_access.proofs.Gains.{WroteFront}
use Rattle.dbdata_list.specs.Text.{fields_text}
use Rattle.dbdata_list.proofs.lines.put_fields.Given as goal

-- the lines of the fields before this one are written, and the line holds the place of the cell again
abbrev pub invariant-loop-field : goal.invariant-loop-field
invariant-loop-field g l = let s = g.R.Sink in record {
  front : WroteFront (s.bytes l.initial.to) (s.bytes l.to) (s.faults l.initial.to) (s.faults l.to)
      (fields_text l.initial.line.items l.field (drop l.field l.values)) (fields_text l.initial.line.items 0 l.values);
  kept : KeepsSink s.created s.finished s.faults l.initial.to l.to;
  line : l.line.items ≡ l.initial.line.items;
  len : array_vec_len l.line ≤ 42;
}
