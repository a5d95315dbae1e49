use Rattle.std.proofs.Common.{◌≡◌, ◌<◌, ◌≤◌, length, arith, map, ap, sym, ◌∙◌}
use Rattle.std.proofs.lemmas.List.{length-map}
use Rattle.cell_reader.specs.declared.shapes.Kind.{Kind}
use Rattle.tree_writer.specs.Levels.{needs, room_in}
use Rattle.tree_writer.specs.Plan.{slot_for}
use Rattle.tree_writer.specs.Planned.{items_of}
use Rattle.tree_writer.proofs.Items.{ready_len}
use Rattle.tree_writer.proofs.Laying.{Pointing, SlotFits, pointing_start, pointing_more, pointing_done, slot_fits}
use Rattle.tree_writer.proofs.sheets.Sheet.put_pointers.Goals as goal

pub loop-i-init : goal.loop-i-init
loop-i-init g c = pointing_start _ _ _ _

pub loop-i-preserved : goal.loop-i-preserved
loop-i-preserved g c =
    let len = ready_len c.requires.ready in
    let f = slot_fits _ _ _ _ _ _ _ c.requires.ready.most (omega (arith, c.requires.ready.fits)) (omega (arith, len, c.loop-i-test.true)) c.size.ensures c.loop-i.invariant.end_is in
    pointing_more _ _ _ _ _ _ _ _ _ _ _ c.loop-i.invariant f.here f.is f.fits c.put_u16-at.ensures.end c.put_u16-at.ensures.front

pub overflow_sub-end-in-loop-i : goal.overflow_sub-end-in-loop-i
overflow_sub-end-in-loop-i g c =
    let self = c.args.self.now in
    let items = items_of self.kind (g.N.Entries.entries self.entries.now) self.pages.now self.leaf self.page in
    let len = ready_len c.requires.ready in
    let f = slot_fits self.usable self.kind self.leaf items c.loop-i.i c.loop-i.end c.size.result c.requires.ready.most (omega (arith, c.requires.ready.fits)) (omega (arith, len, c.loop-i-test.true)) c.size.ensures c.loop-i.invariant.end_is in
    f.fits

pub returns-clause-front : goal.returns-clause-front
returns-clause-front g c =
    let self = c.args.self.now in
    let items = items_of self.kind (g.N.Entries.entries self.entries.now) self.pages.now self.leaf self.page in
    let len = ready_len c.requires.ready in
    pointing_done _ _ _ _ _ _ _ _ c.loop-i.invariant (omega (arith, len, c.loop-i-test.false, length-map items (slot_for self.usable self.kind self.leaf)))
