use Rattle.std.proofs.Common.{◌≡◌, [], ap, arith, length, map, refl, subst}
use Rattle.std.proofs.lemmas.List.{nil_from_length}
use Rattle.page_walk.specs.Cells.{row_of}
use Rattle.table_shape.specs.Keys.{keys_of}
use Rattle.table_shape.specs.Seen.{shape_seen}
use Rattle.table_fill.specs.Chosen.{IsChosen}
use Rattle.table_fill.proofs.Taking.{none_left, some_too}
use Rattle.table_fill.proofs.fills.fill.Goals as goal

pub returns-in_err-clashes-in-Rows-clause-memory : goal.returns-in_err-clashes-in-Rows-clause-memory
returns-in_err-clashes-in-Rows-clause-memory c =
    let t = keys_of (shape_seen c.args.shape.now) in
    let cells = map row_of c.args.cells.items in
    let sorted = subst (IsChosen t cells) c.in-Rows.is c.in_ok-rows.ensures.exact in
    λ e. some_too c.args.cells.len c.in-Rows.left.len (λ none.
    let empty : c.args.cells.items ≡ [] = nil_from_length c.args.cells.items (omega (arith, c.args.cells.ok.0)) in
    let left : c.in-Rows.left.items ≡ [] = none_left t cells (map row_of c.in-Rows.rows.items) c.in-Rows.left.items (ap (map row_of) empty) sorted in
    omega (arith, c.in-Rows.left.ok.0, ap length left)) (c.in_err-clashes-in-Rows.ensures.memory refl)
