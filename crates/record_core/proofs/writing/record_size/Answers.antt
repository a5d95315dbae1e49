use Rattle.std.proofs.Common.{◌∙◌, ◌+◌, ap, length}
use Rattle.record_core.specs.Shortest.{header_len, types_of}
use Rattle.record_core.proofs.Written.{record_len_is}
use Rattle.record_core.proofs.writing.record_size.Goals as goal

pub returns-clause-value : goal.returns-clause-value
returns-clause-value g c =
    let vs = g.F.Fields.values c.args.values.now in
    ap (λ n. n + c.bodies_len.result) (c.header_len.ensures.value ∙ ap header_len c.types_len.ensures.value)
    ∙ ap (λ n. header_len (length (types_of vs)) + n) c.bodies_len.ensures.value ∙ record_len_is vs c.requires
