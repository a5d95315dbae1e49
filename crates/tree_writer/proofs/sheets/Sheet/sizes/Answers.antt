use Rattle.std.proofs.Common.{◌≡◌, take, arith, ap, sym, ◌∙◌}
use Rattle.std.proofs.lemmas.List.{take_all}
use Rattle.tree_writer.specs.Cells.{overs}
use Rattle.tree_writer.specs.Levels.{needs, room_in}
use Rattle.tree_writer.specs.Planned.{items_of}
use Rattle.tree_writer.proofs.Items.{page_more, items_len}
use Rattle.tree_writer.proofs.sheets.Sheet.sizes.Goals as goal

pub loop-i-preserved : goal.loop-i-preserved
loop-i-preserved g c =
    let more = page_more _ _ _ _ _ _ _ _ c.requires.ready c.loop-i-test.true c.size-size.ensures in
    record { need = omega (arith, more.need, c.loop-i.invariant.need); overs = omega (arith, more.overs_are, c.loop-i.invariant.overs) }

pub overflow_add-all : goal.overflow_add-all
overflow_add-all g c =
    let more = page_more _ _ _ _ _ _ _ _ c.requires.ready c.loop-i-test.true c.size-size.ensures in
    omega (arith, more.need_most, c.loop-i.invariant.need, c.requires.ready.fits, c.requires.ready.most)

pub overflow_add-all-in-loop-i : goal.overflow_add-all-in-loop-i
overflow_add-all-in-loop-i g c =
    let more = page_more _ _ _ _ _ _ _ _ c.requires.ready c.loop-i-test.true c.size-size.ensures in
    omega (arith, more.overs_most, c.loop-i.invariant.overs, c.requires.ready.few)

pub returns : goal.returns
returns g c =
    let self = c.args.self.now in
    let items = items_of self.kind (g.N.Entries.entries self.entries.now) self.pages.now self.leaf self.page in
    let all : take c.loop-i.i items ≡ items
    = take_all c.loop-i.i items (omega (arith, c.loop-i-test.false, items_len self.kind (g.N.Entries.entries self.entries.now) self.pages.now self.leaf self.page c.requires.ready.there)) in
    record {
      need = c.loop-i.invariant.need ∙ ap (needs self.usable self.kind self.leaf) all;
      overs = c.loop-i.invariant.overs ∙ ap (overs self.usable self.kind) all;
    }
