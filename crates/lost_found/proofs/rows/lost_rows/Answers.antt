use Rattle.std.proofs.Common.{◌≡◌, ◌∷◌, ap, arith, length, subst}
use Rattle.std.specs.List.{AllByRecursion}
use Rattle.std.specs.Vec.Iter.{into_iter_items}
use Rattle.lost_found.specs.Few.{HasFewFields}
use Rattle.lost_found.proofs.Loops.{rows_next}
use Rattle.lost_found.proofs.rows.lost_rows.Goals as goal

pub loop-cell-preserved : goal.loop-cell-preserved
loop-cell-preserved c =
    let step : into_iter_items c.loop-cell.cell-iterator ≡ c.in-Some.cell ∷ into_iter_items c.next.new.self = c.in-Some.ensures.steps.0 in
    let few : AllByRecursion HasFewFields (c.in-Some.cell ∷ into_iter_items c.next.new.self) = subst (AllByRecursion HasFewFields) step c.loop-cell.invariant.few in
    let count = c.in_ok-add_row.ensures.count in
    let was = c.loop-cell.invariant.count in
    let one : length (into_iter_items c.loop-cell.cell-iterator) ≡ length (c.in-Some.cell ∷ into_iter_items c.next.new.self) = ap length step in
    record {
      rows = rows_next c.loop-cell.rows.items c.add_row.new.rows.items c.loop-cell.places.items c.add_row.new.places.items c.in-Some.cell
          (into_iter_items c.loop-cell.cell-iterator) (into_iter_items c.next.new.self) _ step c.in_ok-add_row.ensures.row count
          c.loop-cell.invariant.places c.loop-cell.invariant.rows;
      places = c.in_ok-add_row.ensures.row.placed c.loop-cell.invariant.places;
      few = few.1;
      count = omega (arith, count, was, one);
    }
