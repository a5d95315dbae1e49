use Rattle.std.proofs.Common.{◌≡◌, ◌++◌, drop}
use Rattle.table_parts.specs.Lines.{note_lines}
use Rattle.table_parts.proofs.lines.add_notes.Given as goal

abbrev pub invariant-loop-page : goal.invariant-loop-page
invariant-loop-page l = l.to.items ++ note_lines (drop l.page-index l.notes) ≡ l.fn.to.items ++ note_lines l.notes
