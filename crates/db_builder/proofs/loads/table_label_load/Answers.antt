use Rattle.std.proofs.Common.{◌∙◌, ◌+◌, ◌*◌, arith, ap, length, refl}
use Rattle.varint_core.specs.Shortest.{spell}
use Rattle.db_builder.specs.Trees.{table_label}
use Rattle.db_builder.proofs.Loading.{label_is}
use Rattle.db_builder.proofs.loads.table_label_load.Goals as goal

pub returns : goal.returns
returns c =
    let t = c.args.table.now in
    let name = ap length c.as_slice.ensures in
    let text = ap length c.as_slice-2.ensures in
    let names = c.names_load.ensures.value ∙ ap (λ n. length (spell (2 * n + 13)) + length (spell (2 * n + 13)) + n + n + 44) name in
    let type = c.text_type_len.ensures.value ∙ ap (λ n. length (spell (2 * n + 13))) text in
    omega (arith, label_is (table_label t) refl, names, type, c.from.ensures, text)
