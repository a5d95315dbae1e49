use Rattle.std.proofs.Common.{◌≡◌, ℕ, List, ◌+◌, ◌∷◌, [], ◌∙◌, ap, arith, drop, length, map, sym}
use Rattle.std.proofs.lemmas.List.{drop_more, map-append}
use Rattle.page_access.proofs.Keeps.{not_failed}
use Rattle.page_lists.proofs.Uses.{Moves-append}
use Rattle.page_walk.specs.Turns.{ReadsEach}
use Rattle.page_walk.proofs.InTurn.{at_err, reads_weaker}
use Rattle.tree_uses.specs.Trees.{turns_of}
use Rattle.orphan_trees.specs.Orphans.{orphan_of, pages_in}
use Rattle.orphan_trees.specs.declared.trees.OrphanTree.{OrphanTree}
use Rattle.orphan_uses.proofs.Turning.{turning_more, turning_reads}
use Rattle.orphan_uses.proofs.turns.read_orphans.Goals as goal

pub returns-in_err-cells-clause-moves : goal.returns-in_err-cells-clause-moves
returns-in_err-cells-clause-moves g c =
    Moves-append 4 c.args.table.now c.loop-tree.table c.read_orphan.new.table (omega arith) c.loop-tree.invariant.moves c.read_orphan.ensures.moves

pub returns-in_err-push-clause-moves : goal.returns-in_err-push-clause-moves
returns-in_err-push-clause-moves g c =
    Moves-append 4 c.args.table.now c.loop-tree.table c.read_orphan.new.table (omega arith) c.loop-tree.invariant.moves c.read_orphan.ensures.moves

pub returns-in_err-push-clause-reads : goal.returns-in_err-push-clause-reads
returns-in_err-push-clause-reads g c =
    let geo = c.args.geo.now in
    let o = g.S.Source.bytes c.args.src.now in
    let pages : ℕ = length (pages_in (map orphan_of c.args.trees.now)) in
    let rest = map orphan_of (drop (c.loop-tree.tree-index + 1) c.args.trees.now) in
    at_err (λ n. ReadsEach o geo c.args.table.now c.read_orphan.new.table (g.S.Source.reads c.args.src.now) (g.S.Source.reads c.read_orphan.new.src) (pages + n))
    c.from_residual-in_err-push.result 0 1 c.from_residual-in_err-push.ensures.0
    (reads_weaker o geo c.args.table.now c.read_orphan.new.table (g.S.Source.reads c.args.src.now) (g.S.Source.reads c.read_orphan.new.src) (pages + 0) (pages + 1) (omega arith)
    (turning_reads (orphan_of c.tree-item.result) rest c.read_orphan.new.table (g.S.Source.reads c.read_orphan.new.src) 0 c.loop-tree.invariant
    (ap (map orphan_of) (drop_more c.args.trees.now c.loop-tree.tree-index c.tree-item.result c.loop-tree-test.true)
    ∙ ap (λ (t : OrphanTree). orphan_of t ∷ rest) (sym c.tree-item.is)) c.in_ok-cells.ensures.reads))

pub loop-tree-preserved : goal.loop-tree-preserved
loop-tree-preserved g c =
    let rest = map orphan_of (drop (c.loop-tree.tree-index + 1) c.args.trees.now) in
    turning_more (record { src = c.read_orphan.new.src; cache = c.read_orphan.new.cache; table = c.read_orphan.new.table })
    (orphan_of c.tree-item.result) rest (turns_of c.in_ok-cells.cells) (map turns_of c.push.new.self.items) c.loop-tree.invariant
    (ap (map orphan_of) (drop_more c.args.trees.now c.loop-tree.tree-index c.tree-item.result c.loop-tree-test.true)
    ∙ ap (λ (t : OrphanTree). orphan_of t ∷ rest) (sym c.tree-item.is))
    (ap (map turns_of) c.in_ok-push.ensures.items ∙ map-append turns_of c.loop-tree.turns.items (c.in_ok-cells.cells ∷ []))
    (record {
      kept = c.read_orphan.ensures.kept;
      steady = not_failed c.in_ok-cells.ensures.cause.steady;
      cached = c.read_orphan.ensures.cached;
      moves = c.read_orphan.ensures.moves;
      moved = c.in_ok-cells.ensures.moved;
      small = c.in_ok-cells.ensures.small;
      len = c.in_ok-cells.ensures.len;
      read = c.in_ok-cells.ensures.reads;
      full = c.in_ok-cells.ensures.full;
      value = c.in_ok-cells.ensures.value;
    })
