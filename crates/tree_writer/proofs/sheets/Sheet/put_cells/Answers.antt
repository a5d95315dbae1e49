use Rattle.std.proofs.Common.{◌≡◌, ◌≤◌, ◌+◌, ◌-◌, rules, take, get_or, sum, map, length, arith, ap, sym, ◌∙◌, refl}
use Rattle.tree_writer.specs.Entry.{entry_at, no_item, raw_of}
use Rattle.tree_writer.specs.Cells.{laid_of}
use Rattle.tree_writer.specs.Plan.{laid_by}
use Rattle.tree_writer.specs.Numbers.{number_of}
use Rattle.tree_writer.specs.Planned.{items_of}
use Rattle.tree_writer.proofs.Items.{ready_len}
use Rattle.tree_writer.proofs.Laying.{Stacking, stacking_start, stacking_more, stacking_room, stacking_done, stack_len, body_is, laid_same}
use Rattle.tree_writer.proofs.sheets.Sheet.put_cells.Goals as goal

pub cells-init : goal.cells-init
cells-init g c =
    let self = c.args.self.now in
    let items = items_of self.kind (g.N.Entries.entries self.entries.now) self.pages.now self.leaf self.page in
    record {
      stacking = stacking_start _ _ _ _ _ _ _ _ _ _ (sym (ready_len c.requires.ready)) (ap (λ n. c.args.first + n) c.requires.overs)
          (ap (λ n. c.args.at + n) (sym (stack_len self.usable self.kind self.leaf (number_of c.args.numbers.now.start c.args.numbers.now.lock) c.args.first items c.requires.ready.least)) ∙ c.requires.page);
      held = c.requires.held;
      room = c.requires.room;
    }

pub place-place-requires-clause-some : goal.place-place-requires-clause-some
place-place-requires-clause-some g c = omega (arith, c.cells.invariant.stacking.within, ready_len c.requires.ready)

pub size-next-requires-clause-some : goal.size-next-requires-clause-some
size-next-requires-clause-some g c = omega (arith, c.cells.invariant.stacking.within, ready_len c.requires.ready)

pub put_cell-at-requires-clause-room : goal.put_cell-at-requires-clause-room
put_cell-at-requires-clause-room g c =
    let self = c.args.self.now in
    let es = g.N.Entries.entries self.entries.now in
    let number = number_of c.args.numbers.now.start c.args.numbers.now.lock in
    let items = items_of self.kind es self.pages.now self.leaf self.page in
    let next = c.cells.next - c.size-next.result.overs in
    let laid = laid_by (record { child = c.number.result; rowid = c.raw_of.result; next = c.number-in-cells.result }) (take c.payload_size-len.result c.fetch.new.scratch) in
    let same : laid ≡ laid_of number next (get_or items (c.cells.i - 1) no_item)
    = laid_same self.kind self.leaf number next (get_or items (c.cells.i - 1) no_item) c.place-place.result.child (entry_at es c.place-place.result.entry) (record { child = c.number.result; rowid = c.raw_of.result; next = c.number-in-cells.result }) (take c.payload_size-len.result c.fetch.new.scratch)
    c.place-place.ensures.item c.number.ensures (c.raw_of.ensures ∙ ap raw_of c.rowid.ensures) c.number-in-cells.ensures
    (body_is self.kind self.leaf es c.place-place.result.entry c.payload_size-len.result c.fetch.new.scratch c.fetch.ensures.held c.payload_size-len.ensures) in
    stacking_room self.usable self.kind self.leaf number items c.args.first c.cells.next (c.cells.i - 1) c.cells.i c.args.to.now c.cells.to c.args.at c.cells.at c.size-next.result laid
    c.requires.ready.least c.cells.invariant.stacking (omega (arith, c.cells-test.true)) c.size-next.ensures same

pub cells-preserved : goal.cells-preserved
cells-preserved g c =
    let self = c.args.self.now in
    let es = g.N.Entries.entries self.entries.now in
    let number = number_of c.args.numbers.now.start c.args.numbers.now.lock in
    let items = items_of self.kind es self.pages.now self.leaf self.page in
    let next = c.cells.next - c.size-next.result.overs in
    let laid = laid_by (record { child = c.number.result; rowid = c.raw_of.result; next = c.number-in-cells.result }) (take c.payload_size-len.result c.fetch.new.scratch) in
    let same : laid ≡ laid_of number next (get_or items (c.cells.i - 1) no_item)
    = laid_same self.kind self.leaf number next (get_or items (c.cells.i - 1) no_item) c.place-place.result.child (entry_at es c.place-place.result.entry) (record { child = c.number.result; rowid = c.raw_of.result; next = c.number-in-cells.result }) (take c.payload_size-len.result c.fetch.new.scratch)
    c.place-place.ensures.item c.number.ensures (c.raw_of.ensures ∙ ap raw_of c.rowid.ensures) c.number-in-cells.ensures
    (body_is self.kind self.leaf es c.place-place.result.entry c.payload_size-len.result c.fetch.new.scratch c.fetch.ensures.held c.payload_size-len.ensures) in
    record {
      stacking = stacking_more self.usable self.kind self.leaf number items c.args.first c.cells.next (c.cells.i - 1) c.cells.i c.args.to.now c.cells.to c.put_cell-at.new.to c.args.at c.cells.at c.put_cell-at.result c.size-next.result laid
          c.requires.ready.least c.cells.invariant.stacking (omega (arith, c.cells-test.true)) c.size-next.ensures same
          (omega (arith, c.put_cell-at.auto.to)) c.put_cell-at.ensures.end c.put_cell-at.ensures.front;
      held = c.fetch.ensures.held;
      room = search rules;
    }

pub returns : goal.returns
returns g c = record {
  held = c.cells.invariant.held;
  bytes = stacking_done _ _ _ _ _ _ _ _ _ _ _ _ c.cells.invariant.stacking (omega (arith, c.cells-test.false));
}
