use Rattle.std.proofs.Common.{arith, ap, sym, ◌∙◌}
use Rattle.varint_core.specs.Shortest.{varint_len}
use Rattle.varint_core.proofs.Spelled.{len_is, len_nine, length-spell}
use Rattle.record_core.specs.Shortest.{serial_type}
use Rattle.record_core.proofs.writing.type_len.Goals as goal

pub returns-then-kind-clause-value : goal.returns-then-kind-clause-value
returns-then-kind-clause-value c =
    c.varint_len.ensures.exact ∙ ap varint_len c.serial_type-kind.ensures
    ∙ sym (length-spell (serial_type c.args.value.now))

pub returns-else-kind-clause-value : goal.returns-else-kind-clause-value
returns-else-kind-clause-value c =
    let v = serial_type c.args.value.now in
    sym (length-spell v ∙ len_nine v (varint_len v) (len_is v) (omega arith))
