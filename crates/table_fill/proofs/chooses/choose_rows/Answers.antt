use Rattle.std.proofs.Common.{◌≡◌, List, [], ap, arith, map, sym, subst, eqb-true, ◌∙◌}
use Rattle.std.proofs.lemmas.List.{nil_from_length}
use Rattle.page_walk.specs.Cells.{row_of}
use Rattle.table_shape.specs.Keys.{keys_of}
use Rattle.table_shape.specs.Seen.{shape_seen}
use Rattle.table_fill.specs.declared.fates.LeftCell.{LeftCell}
use Rattle.table_fill.specs.Chosen.{AreSorted, left_seen}
use Rattle.table_fill.proofs.Taking.{no_cells}
use Rattle.table_fill.proofs.chooses.choose_rows.Goals as goal

pub returns-then-is_empty-clause-exact : goal.returns-then-is_empty-clause-exact
returns-then-is_empty-clause-exact c =
    let t = keys_of (shape_seen c.args.shape.now) in
    let cells = map row_of c.args.cells.items in
    let none : c.args.cells.len ≡ 0 = eqb-true c.args.cells.len 0 (sym c.is_empty.ensures ∙ c.if-is_empty.true) in
    let empty : c.args.cells.items ≡ [] = nil_from_length c.args.cells.items (omega (arith, c.args.cells.ok.0)) in
    subst (λ (ls : List LeftCell). AreSorted t cells cells (map left_seen ls)) (sym c.new.ensures.items)
    (no_cells t cells (ap (map row_of) empty))
