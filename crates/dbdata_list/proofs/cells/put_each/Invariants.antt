use Rattle.std.proofs.Common.{◌≡◌, ◌≤◌, drop, map}
use Rattle.arrayvec.specs.ArrayVec.{array_vec_len}
use Rattle.page_access.specs.Outside.{KeepsSink}
use Rattle.page_access.proofs.Gains.{WroteFront}
use Rattle.page_walk.specs.Cells.{outcome_of}
use Rattle.dbdata_list.specs.Text.{outcomes_text}
use Rattle.dbdata_list.proofs.cells.put_each.Given as goal

-- the lines of the cells before this one are written, and the line holds the beginning of the page's lines again
abbrev pub invariant-loop-cell : goal.invariant-loop-cell
invariant-loop-cell g l = let s = g.R.Sink in record {
  front : WroteFront (s.bytes l.initial.to) (s.bytes l.to) (s.faults l.initial.to) (s.faults l.to)
      (outcomes_text l.initial.line.items (map outcome_of (drop l.cell-index l.cells)))
      (outcomes_text l.initial.line.items (map outcome_of l.cells));
  kept : KeepsSink s.created s.finished s.faults l.initial.to l.to;
  line : l.line.items ≡ l.initial.line.items;
  len : array_vec_len l.line ≤ 21;
}
