use Rattle.std.proofs.Common.{◌≡◌, ◌≤◌, ◌+◌, ◌*◌, ◌++◌, length, take, drop}
use Rattle.arrayvec.specs.ArrayVec.{array_vec_len}
use Rattle.report_text.specs.Report.{numbers_text}
use Rattle.report_text.proofs.numbers.add_numbers.Given as goal

abbrev pub invariant-loop-number : goal.invariant-loop-number
invariant-loop-number l = record {
  text : l.line.items ++ numbers_text (drop l.number-index l.numbers) ≡ l.fn.line.items ++ numbers_text l.numbers;
  len : array_vec_len l.line ≤ array_vec_len l.fn.line + 21 * l.number-index;
}
