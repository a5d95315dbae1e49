use Rattle.std.proofs.Common.{◌∙◌, map, refl}
use Rattle.std.proofs.lemmas.List.{drop_all}
use Rattle.tree_uses.specs.Trees.{tree_of, turns_of}
use Rattle.salvaged_tables.proofs.Goes.{ends, starts}
use Rattle.salvaged_tables.proofs.Valid.{valid_tables}
use Rattle.salvaged_tables.proofs.Within.{are_on_pages}
use Rattle.salvaged_tables.proofs.salvage.salvage_tables.Goals as goal

pub loop-row-init : goal.loop-row-init
loop-row-init c =
    starts c.args.rows.now c.args.readings.items c.args.trees.now c.args.turns.items _ _ c.into_iter.ensures.rest (c.into_iter.ensures.len ∙ c.args.readings.ok.0)
    c.into_iter-2.ensures.rest (c.into_iter-2.ensures.len ∙ c.args.turns.ok.0) refl c.requires.numbers c.requires.trees c.requires.turns c.requires.few
    c.new.ensures.items c.new-2.ensures.items c.new-3.ensures.items c.new-4.ensures.items c.new-5.ensures.items c.new-6.ensures.items

pub returns-clause-salvage : goal.returns-clause-salvage
returns-clause-salvage c =
    ends c.args.rows.now c.args.readings.items c.args.trees.now c.args.turns.items c.loop-row.row-index c.loop-row.left c.loop-row.found
    (drop_all c.loop-row.row-index c.args.rows.now c.loop-row-test.false) c.loop-row.invariant

pub returns-clause-valid : goal.returns-clause-valid
returns-clause-valid c kinds pages say =
    valid_tables kinds pages c.args.rows.now c.args.readings.items (map tree_of c.args.trees.now) (map turns_of c.args.turns.items) c.loop-row.found say
    (ends c.args.rows.now c.args.readings.items c.args.trees.now c.args.turns.items c.loop-row.row-index c.loop-row.left c.loop-row.found
    (drop_all c.loop-row.row-index c.args.rows.now c.loop-row-test.false) c.loop-row.invariant)

pub returns-clause-bounds : goal.returns-clause-bounds
returns-clause-bounds c usable pages small =
    are_on_pages usable pages c.args.rows.now c.args.readings.items (map tree_of c.args.trees.now) (map turns_of c.args.turns.items) c.loop-row.found small
    (ends c.args.rows.now c.args.readings.items c.args.trees.now c.args.turns.items c.loop-row.row-index c.loop-row.left c.loop-row.found
    (drop_all c.loop-row.row-index c.args.rows.now c.loop-row-test.false) c.loop-row.invariant)
