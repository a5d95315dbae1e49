use Rattle.std.proofs.Common.{◌∙◌, ◌++◌, List, ap, map}
use Rattle.std.proofs.lemmas.List.{map-append}
use Rattle.page_walk.specs.Cells.{Row, row_of}
use Rattle.page_walk.specs.Rows.{taken_in}
use Rattle.page_walk.proofs.Sorting.{rows_seen}
use Rattle.table_parts.proofs.cells.add_turn.Goals as goal

pub returns-in_ok-push-clause-cells : goal.returns-in_ok-push-clause-cells
returns-in_ok-push-clause-cells c =
    ap (map row_of) c.in_ok-unread.ensures.rows ∙ map-append row_of c.args.cells.now.items (taken_in c.args.turn.outcomes.items)
    ∙ ap (λ (rows : List Row). map row_of c.args.cells.now.items ++ rows) (rows_seen c.args.turn.outcomes.items)

pub returns-else-unread-gt0-clause-cells : goal.returns-else-unread-gt0-clause-cells
returns-else-unread-gt0-clause-cells c =
    ap (map row_of) c.in_ok-unread.ensures.rows ∙ map-append row_of c.args.cells.now.items (taken_in c.args.turn.outcomes.items)
    ∙ ap (λ (rows : List Row). map row_of c.args.cells.now.items ++ rows) (rows_seen c.args.turn.outcomes.items)
