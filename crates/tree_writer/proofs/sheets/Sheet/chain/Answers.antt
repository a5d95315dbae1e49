use Rattle.std.proofs.Common.{arith, ap, sym, ◌∙◌, ◌≡◌, take, ◌+◌}
use Rattle.std.proofs.lemmas.List.{take_all}
use Rattle.tree_writer.specs.Cells.{overs}
use Rattle.tree_writer.specs.Planned.{items_of}
use Rattle.tree_writer.proofs.Items.{ready_len}
use Rattle.tree_writer.proofs.Chaining.{chaining_start, chaining_more, chaining_found, chaining_room}
use Rattle.tree_writer.proofs.sheets.Sheet.chain.Goals as goal

pub loop-i-init : goal.loop-i-init
loop-i-init g c = chaining_start _ _ _ _ _ c.requires.low

pub loop-i-preserved : goal.loop-i-preserved
loop-i-preserved g c =
    let len = ready_len c.requires.ready in
    chaining_more _ _ _ _ _ _ _ _ _ c.loop-i.invariant (omega (arith, len, c.loop-i-test.true)) c.size-count.ensures c.if-k-at.false

pub overflow_add-at : goal.overflow_add-at
overflow_add-at g c =
    let len = ready_len c.requires.ready in
    let room = chaining_room _ _ _ _ _ _ _ _ _ c.loop-i.invariant (omega (arith, len, c.loop-i-test.true)) c.size-count.ensures in
    omega (arith, room, c.requires.end)

pub returns-then-k-at : goal.returns-then-k-at
returns-then-k-at g c =
    let len = ready_len c.requires.ready in
    let self = c.args.self.now in
    let found = chaining_found _ _ _ (g.N.Entries.entries self.entries.now) _ _ _ _ _ c.place.result.child c.place.result.entry _ c.requires.ready.least c.loop-i.invariant (omega (arith, len, c.loop-i-test.true)) c.size-count.ensures
    c.place.ensures.item c.if-k-at.true in
    record {
      chain = record { there = c.place.ensures.entry; low = c.loop-i.invariant.low; high = c.if-k-at.true; many = found.many };
      end = found.end;
      pages = found.pages;
    }

pub unreachable-requires : goal.unreachable-requires
unreachable-requires g c =
    let self = c.args.self.now in
    let items = items_of self.kind (g.N.Entries.entries self.entries.now) self.pages.now self.leaf self.page in
    let len = ready_len c.requires.ready in
    let all : take c.loop-i.i items ≡ items = take_all c.loop-i.i items (omega (arith, len, c.loop-i-test.false)) in
    omega (arith, c.loop-i.invariant.at_is, ap (overs self.usable self.kind) all, c.loop-i.invariant.low, c.requires.high)
