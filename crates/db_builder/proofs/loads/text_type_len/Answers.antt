use Rattle.std.proofs.Common.{◌∙◌, ◌+◌, ◌*◌, sym, arith}
use Rattle.varint_core.specs.Shortest.{varint_len}
use Rattle.varint_core.proofs.Spelled.{len_is, len_nine, length-spell}
use Rattle.db_builder.proofs.loads.text_type_len.Goals as goal

pub returns-then-kind-clause-value : goal.returns-then-kind-clause-value
returns-then-kind-clause-value c = c.varint_len.ensures.exact ∙ sym (length-spell (2 * c.args.len + 13))

pub returns-else-kind-clause-value : goal.returns-else-kind-clause-value
returns-else-kind-clause-value c =
    let v = 2 * c.args.len + 13 in
    sym (length-spell v ∙ len_nine v (varint_len v) (len_is v) (omega arith))
