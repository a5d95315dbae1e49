-- The numbers of a trial, as the program holds them.
use Rattle.std.specs.Prelude.{ℕ, List, ◌++◌}
use Rattle.salvage_trial.specs.declared.lines.Numbers.{Numbers}
use Rattle.salvage_trial.specs.Lines.{hole_line, whole_line}

-- both lines
abbrev pub lines_of : Numbers → List ℕ
lines_of x = whole_line x.rows x.pages x.whole.rows x.whole.lost ++ hole_line x.hole x.holed.rows x.holed.lost
