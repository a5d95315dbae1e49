use Rattle.std.proofs.Common.{sym, ap}
use Rattle.record_core.specs.Tally.{tally_of}
use Rattle.record_core.proofs.Tally.{told_start, told_next}
use Rattle.record_core.proofs.Types.{split_cut}
use Rattle.std.proofs.Common.{option_map}
use Rattle.record_core.proofs.spans.tally_types.Goals as goal

pub types-init : goal.types-init
types-init c = told_start c.args.room c.args.types.now

pub returns-in_default : goal.returns-in_default
returns-in_default c =
    sym (ap (option_map (tally_of c.args.room)) (split_cut _ _ _ _ c.types.invariant.split c.types-test.true (sym c.in_default.ensures.exact)))

pub types-preserved : goal.types-preserved
types-preserved c =
    told_next c.args.room c.args.types.now c.types.at c.in-Some.kind c.in-Some.len c.types.tally c.add_type-tally.result c.types.invariant c.types-test.true
    (sym c.in-Some.ensures.exact) c.in-Some.ensures.there.0 c.in-Some.ensures.there.2
    (record { fields = c.add_type-tally.ensures.fields; reserved = c.add_type-tally.ensures.reserved; bodies = c.add_type-tally.ensures.bodies })
