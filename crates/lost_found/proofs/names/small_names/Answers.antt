use Rattle.std.proofs.Common.{◌∙◌, ap}
use Rattle.std.specs.Str.{str_to_ascii_lowercase}
use Rattle.lost_found.proofs.Loops.{name_next}
use Rattle.lost_found.proofs.names.small_names.Goals as goal

pub loop-name-preserved : goal.loop-name-preserved
loop-name-preserved c =
    name_next c.args.names.now c.loop-name.name-index c.name-item.result c.loop-name.small.keys c.insert.new.self.keys c.in_ok-small_letters.field-0
    c.loop-name-test.true c.name-item.is (c.in_ok-small_letters.ensures ∙ ap str_to_ascii_lowercase c.as_slice.ensures) c.in_ok-_new.ensures.keys
    c.loop-name.invariant
