use Rattle.std.proofs.Common.{◌≡◌, ◌-◌, is_ok}
use Rattle.std.specs.List.{list_all, range_with_len}
use Rattle.cell_reader.specs.Cell.{cell_of}
use Rattle.page_size.specs.Score.{are_read}
use Rattle.page_size.proofs.scores.are_cells_read.Given as goal

abbrev pub invariant-loop-i : goal.invariant-loop-i
invariant-loop-i l =
    list_all (λ i. is_ok (cell_of l.page l.geo.usable l.geo.pages l.shape i)) (range_with_len l.i (l.shape.cells - l.i))
    ≡ are_read l.page l.geo.usable l.geo.pages l.shape
