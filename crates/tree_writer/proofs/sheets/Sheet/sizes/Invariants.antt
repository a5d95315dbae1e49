use Rattle.std.proofs.Common.{◌≡◌, ◌≤◌, take}
use Rattle.tree_writer.specs.Cells.{overs}
use Rattle.tree_writer.specs.Levels.{needs}
use Rattle.tree_writer.specs.Planned.{items_of}
use Rattle.tree_writer.proofs.sheets.Sheet.sizes.Given as goal

abbrev pub invariant-loop-i : goal.invariant-loop-i
invariant-loop-i g l =
    let items = items_of l.self.kind (g.N.Entries.entries l.self.entries.now) l.self.pages.now l.self.leaf l.self.page in
    record {
      need : l.all.need ≡ needs l.self.usable l.self.kind l.self.leaf (take l.i items);
      overs : l.all.overs ≡ overs l.self.usable l.self.kind (take l.i items);
    }
