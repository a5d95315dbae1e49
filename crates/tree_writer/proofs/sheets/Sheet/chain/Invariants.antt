use Rattle.tree_writer.specs.Planned.{items_of}
use Rattle.tree_writer.proofs.Chaining.{Chaining}
use Rattle.tree_writer.proofs.sheets.Sheet.chain.Given as goal

abbrev pub invariant-loop-i : goal.invariant-loop-i
invariant-loop-i g l = Chaining l.self.usable l.self.kind
    (items_of l.self.kind (g.N.Entries.entries l.self.entries.now) l.self.pages.now l.self.leaf l.self.page) l.first l.k l.at l.i
