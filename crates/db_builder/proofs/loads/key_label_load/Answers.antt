use Rattle.std.proofs.Common.{◌≡◌, ◌∙◌, ◌+◌, ◌*◌, arith, ap, length, refl, decimal}
use Rattle.table_shape.specs.Names.{index_name}
use Rattle.varint_core.specs.Shortest.{spell}
use Rattle.db_builder.specs.Trees.{key_label}
use Rattle.db_builder.proofs.Loading.{index_name_len, label_is, spelled_0}
use Rattle.db_builder.proofs.loads.key_label_load.Goals as goal

pub returns : goal.returns
returns c =
    let t = c.args.table.now in
    let name = ap length c.as_slice.ensures in
    let digits : length c.as_bytes.result.now ≡ length (decimal c.args.number) = ap length (c.as_bytes.ensures.value ∙ c.format.ensures.text) in
    let long : length c.as_slice.result.now + length c.as_bytes.result.now + 18 ≡ length (index_name t.name c.args.number)
    = omega (arith, name, digits, index_name_len t.name c.args.number) in
    let names = c.names_load.ensures.value ∙ ap (λ n. length (spell (2 * n + 13)) + length (spell (2 * length c.as_slice.result.now + 13)) + n + length c.as_slice.result.now + 44) long
    ∙ ap (λ n. length (spell (2 * length (index_name t.name c.args.number) + 13)) + length (spell (2 * n + 13)) + length (index_name t.name c.args.number) + n + 44) name in
    omega (arith, label_is (key_label t c.args.number) refl, names, spelled_0)
