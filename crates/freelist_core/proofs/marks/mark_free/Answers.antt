use Rattle.std.proofs.Common.{◌≤◌, ◌∙◌, rules, sym, arith}
use Rattle.freelist_core.specs.Trunk.{leaves_on}
use Rattle.freelist_core.proofs.Marking.{fewer_by, fewer_left, marking_all, marking_front, marking_more, marking_start}
use Rattle.freelist_core.proofs.marks.mark_free.Goals as goal

pub loop-buffer-init : goal.loop-buffer-init
loop-buffer-init g c =
    marking_start g.S.Source.bytes g.S.Source.attached g.S.Source.faults g.S.Source.reads c.args.geo.now c.args.first_trunk
    c.args.src.now c.args.table.now c.requires.same_pages c.requires.lists

pub returns-in_err-load-clause-front : goal.returns-in_err-load-clause-front
returns-in_err-load-clause-front g c = marking_front c.loop-buffer.invariant

pub loop-buffer-preserved : goal.loop-buffer-preserved
loop-buffer-preserved g c =
    let inside : c.loop-buffer.at ≤ c.loop-buffer.table.pages = c.is_unused.ensures.high (search rules) in
    marking_more c.load.new.src c.load.new.to c.move_to_back.new.self c.take_leaves-at.new.table c.take_leaves-at.result
    c.loop-buffer.invariant (sym c.is_unused.ensures.value ∙ c.loop-buffer-test.true) (omega (arith, inside, c.loop-buffer.invariant.same_pages))
    c.in_ok-load.ensures.page c.in_ok-load.ensures.kept c.in_ok-load.ensures.cause.steady c.in_ok-load.ensures.reads
    c.move_to_back.ensures.value c.take_leaves-at.ensures.next c.take_leaves-at.ensures.moved

pub loop-buffer-smaller : goal.loop-buffer-smaller
loop-buffer-smaller g c =
    omega (
      arith,
      fewer_left c.loop-buffer.at (leaves_on c.args.geo.now.usable c.load.new.to) c.loop-buffer.table c.move_to_back.new.self
          c.take_leaves-at.new.table (sym c.is_unused.ensures.value ∙ c.loop-buffer-test.true) c.move_to_back.ensures.value c.take_leaves-at.ensures.moved,
    )

pub overflow_sub-result : goal.overflow_sub-result
overflow_sub-result g c = omega (arith, fewer_by c.args.table.now c.loop-buffer.table c.loop-buffer.invariant.moves, c.len.ensures, c.len-before.ensures)

pub returns-clause-table : goal.returns-clause-table
returns-clause-table g c = marking_all c.loop-buffer.invariant (sym c.is_unused.ensures.value ∙ c.loop-buffer-test.false)

pub returns-clause-count : goal.returns-clause-count
returns-clause-count g c = omega (arith, fewer_by c.args.table.now c.loop-buffer.table c.loop-buffer.invariant.moves, c.len.ensures, c.len-before.ensures)

pub returns-clause-front : goal.returns-clause-front
returns-clause-front g c = marking_front c.loop-buffer.invariant
