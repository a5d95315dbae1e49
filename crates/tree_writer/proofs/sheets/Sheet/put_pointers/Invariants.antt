use Rattle.std.proofs.Common.{map}
use Rattle.tree_writer.specs.Plan.{slot_for}
use Rattle.tree_writer.specs.Planned.{items_of}
use Rattle.tree_writer.proofs.Laying.{Pointing}
use Rattle.tree_writer.proofs.sheets.Sheet.put_pointers.Given as goal

abbrev pub invariant-loop-i : goal.invariant-loop-i
invariant-loop-i g l = Pointing l.self.usable
    (map (slot_for l.self.usable l.self.kind l.self.leaf) (items_of l.self.kind (g.N.Entries.entries l.self.entries.now) l.self.pages.now l.self.leaf l.self.page))
    l.initial.to l.to l.initial.at l.at l.end l.i
