use Rattle.std.proofs.Common.{◌≡◌, ℕ, List, ◌+◌, ◌*◌, ◌∙◌, arith, length, map, subst}
use Rattle.std.specs.Prelude.{IfSome}
use Rattle.page_access.specs.Files.{file_of}
use Rattle.page_lists.specs.Table.{unused}
use Rattle.overflow_chain.specs.declared.TheConstants.{OVERFLOW_LIST}
use Rattle.page_walk.specs.Turns.{ReadsEach}
use Rattle.freelist_core.specs.declared.TheConstants.{FREE_LIST}
use Rattle.tree_uses.specs.Trees.{turns_of}
use Rattle.orphan_trees.specs.Orphans.{orphan_of, pages_in}
use Rattle.orphan_trees.specs.declared.TheConstants.{ORPHAN_LIST}
use Rattle.orphan_trees.specs.declared.trees.OrphanTree.{OrphanTree}
use Rattle.use_order.proofs.Ordered.{moved_more, moved_once}
use Rattle.use_order.proofs.Reading.{each_err, each_then}
use Rattle.orphan_uses.specs.Order.{HaveOrphanTurns, orphan_turns}
use Rattle.orphan_uses.proofs.Ordered.{in_order}
use Rattle.orphan_uses.proofs.Reading.{cells_read, reads_err, trees_read, unread}
use Rattle.orphan_uses.proofs.uses.find_orphans.Goals as goal

pub returns-in_err-take_free-clause-moves : goal.returns-in_err-take_free-clause-moves
returns-in_err-take_free-clause-moves g c = moved_once FREE_LIST c.args.table.now c.take_free.new.table (omega arith) c.take_free.ensures.moves

pub returns-in_err-trees-clause-moves : goal.returns-in_err-trees-clause-moves
returns-in_err-trees-clause-moves g c =
    moved_more c.args.table.now c.take_free.new.table c.orphans.new.table
    (moved_once FREE_LIST c.args.table.now c.take_free.new.table (omega arith) c.take_free.ensures.moves)
    (moved_once ORPHAN_LIST c.take_free.new.table c.orphans.new.table (omega arith) c.orphans.ensures.moves)

pub returns-in_err-turns-clause-moves : goal.returns-in_err-turns-clause-moves
returns-in_err-turns-clause-moves g c =
    moved_more c.args.table.now c.orphans.new.table c.read_orphans.new.table
    (moved_more c.args.table.now c.take_free.new.table c.orphans.new.table
    (moved_once FREE_LIST c.args.table.now c.take_free.new.table (omega arith) c.take_free.ensures.moves)
    (moved_once ORPHAN_LIST c.take_free.new.table c.orphans.new.table (omega arith) c.orphans.ensures.moves))
    (moved_once OVERFLOW_LIST c.orphans.new.table c.read_orphans.new.table (omega arith) c.read_orphans.ensures.moves)

pub returns-clause-moves : goal.returns-clause-moves
returns-clause-moves g c =
    moved_more c.args.table.now c.orphans.new.table c.read_orphans.new.table
    (moved_more c.args.table.now c.take_free.new.table c.orphans.new.table
    (moved_once FREE_LIST c.args.table.now c.take_free.new.table (omega arith) c.take_free.ensures.moves)
    (moved_once ORPHAN_LIST c.take_free.new.table c.orphans.new.table (omega arith) c.orphans.ensures.moves))
    (moved_once OVERFLOW_LIST c.orphans.new.table c.read_orphans.new.table (omega arith) c.read_orphans.ensures.moves)

pub returns-clause-order : goal.returns-clause-order
returns-clause-order g c =
    let o2 = g.S.Source.bytes c.orphans.new.src in
    let turns = map turns_of c.in_ok-turns.turns.items in
    in_order (g.S.Source.bytes c.args.src.now) (g.S.Source.bytes c.take_free.new.src) o2 c.args.geo.now c.args.table.now c.take_free.new.table c.orphans.new.table
    c.args.first_trunk (map orphan_of c.in_ok-trees.trees.items) turns c.take_free.ensures.kept.told (c.orphans.ensures.kept.told ∙ c.take_free.ensures.kept.told)
    c.in_ok-take_free.ensures.table c.in_ok-trees.ensures.value c.in_ok-trees.ensures.moved
    (subst (λ (ts : List OrphanTree). IfSome o2 (λ all. turns ≡ orphan_turns (file_of all c.args.geo.now) (map orphan_of ts) (unused c.orphans.new.table)))
    c.deref.ensures.value c.in_ok-turns.ensures.value)

pub returns-in_err-trees-clause-reads : goal.returns-in_err-trees-clause-reads
returns-in_err-trees-clause-reads g c =
    let o = g.S.Source.bytes c.args.src.now in
    let before = g.S.Source.reads c.args.src.now in
    let after = g.S.Source.reads c.orphans.new.src in
    reads_err c.from_residual-in_err-trees.result o c.args.geo.now c.args.table.now c.orphans.new.table before after 1 (2 * length (unused c.args.table.now))
    c.from_residual-in_err-trees.ensures.0 (omega arith)
    (trees_read o (g.S.Source.bytes c.take_free.new.src) c.args.geo.now c.args.table.now c.take_free.new.table c.orphans.new.table before
    (g.S.Source.reads c.take_free.new.src) after 1 c.take_free.ensures.kept.told
    (moved_once FREE_LIST c.args.table.now c.take_free.new.table (omega arith) c.take_free.ensures.moves)
    (moved_once ORPHAN_LIST c.take_free.new.table c.orphans.new.table (omega arith) c.orphans.ensures.moves)
    c.in_ok-take_free.ensures.reads c.in_err-trees.ensures.reads)

pub returns-in_err-turns-clause-reads : goal.returns-in_err-turns-clause-reads
returns-in_err-turns-clause-reads g c =
    let o = g.S.Source.bytes c.args.src.now in
    let o2 = g.S.Source.bytes c.orphans.new.src in
    let before = g.S.Source.reads c.args.src.now in
    let mid = g.S.Source.reads c.orphans.new.src in
    let after = g.S.Source.reads c.read_orphans.new.src in
    reads_err c.from_residual-in_err-turns.result o c.args.geo.now c.args.table.now c.read_orphans.new.table before after 1 (2 * length (unused c.args.table.now))
    c.from_residual-in_err-turns.ensures.0 (omega arith)
    (cells_read o (g.S.Source.bytes c.take_free.new.src) o2 c.args.geo.now c.args.table.now c.take_free.new.table c.orphans.new.table c.read_orphans.new.table
    (map orphan_of c.in_ok-trees.trees.items) before (g.S.Source.reads c.take_free.new.src) mid after 1
    c.take_free.ensures.kept.told (c.orphans.ensures.kept.told ∙ c.take_free.ensures.kept.told)
    (moved_once FREE_LIST c.args.table.now c.take_free.new.table (omega arith) c.take_free.ensures.moves)
    c.in_ok-trees.ensures.value c.in_ok-trees.ensures.moved c.in_ok-take_free.ensures.reads c.in_ok-trees.ensures.reads
    (subst (λ (ts : List OrphanTree). ReadsEach o2 c.args.geo.now c.orphans.new.table c.read_orphans.new.table mid after (length (pages_in (map orphan_of ts)) + 1))
    c.deref.ensures.value c.in_err-turns.ensures.reads))

pub returns-clause-reads : goal.returns-clause-reads
returns-clause-reads g c =
    let o = g.S.Source.bytes c.args.src.now in
    let o2 = g.S.Source.bytes c.orphans.new.src in
    let before = g.S.Source.reads c.args.src.now in
    let mid = g.S.Source.reads c.orphans.new.src in
    let after = g.S.Source.reads c.read_orphans.new.src in
    cells_read o (g.S.Source.bytes c.take_free.new.src) o2 c.args.geo.now c.args.table.now c.take_free.new.table c.orphans.new.table c.read_orphans.new.table
    (map orphan_of c.in_ok-trees.trees.items) before (g.S.Source.reads c.take_free.new.src) mid after 0
    c.take_free.ensures.kept.told (c.orphans.ensures.kept.told ∙ c.take_free.ensures.kept.told)
    (moved_once FREE_LIST c.args.table.now c.take_free.new.table (omega arith) c.take_free.ensures.moves)
    c.in_ok-trees.ensures.value c.in_ok-trees.ensures.moved c.in_ok-take_free.ensures.reads c.in_ok-trees.ensures.reads
    (subst (λ (ts : List OrphanTree). ReadsEach o2 c.args.geo.now c.orphans.new.table c.read_orphans.new.table mid after (length (pages_in (map orphan_of ts)) + 0))
    c.deref.ensures.value c.in_ok-turns.ensures.reads)

pub returns-in_err-trees-clause-full : goal.returns-in_err-trees-clause-full
returns-in_err-trees-clause-full g c =
    let o = g.S.Source.bytes c.args.src.now in
    let o1 = g.S.Source.bytes c.take_free.new.src in
    let geo = c.args.geo.now in
    λ all.
    let trees = c.in_err-trees.ensures.full all in (
      trees.0,
      each_err c.from_residual-in_err-trees.result o geo c.args.table.now c.orphans.new.table (g.S.Source.reads c.args.src.now) (g.S.Source.reads c.orphans.new.src) 0
          c.from_residual-in_err-trees.ensures.0 (omega arith)
          (each_then o o1 geo c.args.table.now c.take_free.new.table c.orphans.new.table (g.S.Source.reads c.args.src.now) (g.S.Source.reads c.take_free.new.src)
          (g.S.Source.reads c.orphans.new.src) 0 c.take_free.ensures.kept.told c.in_ok-take_free.ensures.reads
          (unread g.S.Source.reads o1 geo c.take_free.new.table c.orphans.new.table c.take_free.new.src c.orphans.new.src trees.1 c.orphans.ensures.moves)),
    )

pub returns-in_err-turns-clause-full : goal.returns-in_err-turns-clause-full
returns-in_err-turns-clause-full g c =
    let o = g.S.Source.bytes c.args.src.now in
    let o1 = g.S.Source.bytes c.take_free.new.src in
    let o2 = g.S.Source.bytes c.orphans.new.src in
    let geo = c.args.geo.now in
    let before = g.S.Source.reads c.args.src.now in
    let mid = g.S.Source.reads c.orphans.new.src in
    let after = g.S.Source.reads c.read_orphans.new.src in
    λ all.
    let trees = c.in_ok-trees.ensures.full all in
    let turns = c.in_err-turns.ensures.full trees.0 in (
      turns.0,
      each_err c.from_residual-in_err-turns.result o geo c.args.table.now c.read_orphans.new.table before after 1 c.from_residual-in_err-turns.ensures.0 (omega arith)
          (each_then o o2 geo c.args.table.now c.orphans.new.table c.read_orphans.new.table before mid after 1
          (c.orphans.ensures.kept.told ∙ c.take_free.ensures.kept.told)
          (each_then o o1 geo c.args.table.now c.take_free.new.table c.orphans.new.table before (g.S.Source.reads c.take_free.new.src) mid 0
          c.take_free.ensures.kept.told c.in_ok-take_free.ensures.reads
          (unread g.S.Source.reads o1 geo c.take_free.new.table c.orphans.new.table c.take_free.new.src c.orphans.new.src trees.1 c.orphans.ensures.moves)) turns.1),
    )

pub returns-clause-full : goal.returns-clause-full
returns-clause-full g c =
    let o = g.S.Source.bytes c.args.src.now in
    let o1 = g.S.Source.bytes c.take_free.new.src in
    let o2 = g.S.Source.bytes c.orphans.new.src in
    let geo = c.args.geo.now in
    let before = g.S.Source.reads c.args.src.now in
    let mid = g.S.Source.reads c.orphans.new.src in
    λ all.
    let trees = c.in_ok-trees.ensures.full all in
    let turns = c.in_ok-turns.ensures.full trees.0 in (
      turns.0,
      each_then o o2 geo c.args.table.now c.orphans.new.table c.read_orphans.new.table before mid (g.S.Source.reads c.read_orphans.new.src) 0
          (c.orphans.ensures.kept.told ∙ c.take_free.ensures.kept.told)
          (each_then o o1 geo c.args.table.now c.take_free.new.table c.orphans.new.table before (g.S.Source.reads c.take_free.new.src) mid 0
          c.take_free.ensures.kept.told c.in_ok-take_free.ensures.reads
          (unread g.S.Source.reads o1 geo c.take_free.new.table c.orphans.new.table c.take_free.new.src c.orphans.new.src trees.1 c.orphans.ensures.moves)) turns.1,
    )

pub returns-clause-part : goal.returns-clause-part
returns-clause-part g c =
    let moves = moved_once FREE_LIST c.args.table.now c.take_free.new.table (omega arith) c.take_free.ensures.moves in
    λ q. omega (arith, c.in_ok-trees.ensures.part q, moves.left q)

pub returns-clause-each : goal.returns-clause-each
returns-clause-each g c =
    subst (λ (ts : List OrphanTree). HaveOrphanTurns (map orphan_of ts) (map turns_of c.in_ok-turns.turns.items)) c.deref.ensures.value c.in_ok-turns.ensures.each
