use Rattle.tree_writer.specs.Numbers.{number_of}
use Rattle.tree_writer.specs.Planned.{HasRoom, IsHeld, items_of}
use Rattle.tree_writer.proofs.Laying.{Stacking}
use Rattle.tree_writer.proofs.sheets.Sheet.put_cells.Given as goal

abbrev pub invariant-cells : goal.invariant-cells
invariant-cells g l =
    let es = g.N.Entries.entries l.self.entries.now in
    record {
      stacking : Stacking l.self.usable l.self.kind l.self.leaf (number_of l.numbers.start l.numbers.lock) (items_of l.self.kind es l.self.pages.now l.self.leaf l.self.page)
          l.first l.next l.i l.initial.to l.to l.initial.at l.at;
      held : IsHeld es l.held l.scratch;
      room : HasRoom es l.scratch;
    }

abbrev pub decreases-cells : goal.decreases-cells
decreases-cells g l = l.i
