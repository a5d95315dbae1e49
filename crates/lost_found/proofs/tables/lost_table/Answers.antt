use Rattle.std.proofs.Common.{◌≤◌, ◌<◌, ◌^◌, ◌≡◌, ◌∙◌, ap, arith, length, map, subst, sym}
use Rattle.salvaged_tables.specs.Salvaged.{lost_seen}
use Rattle.lost_found.specs.Names.{lost_name}
use Rattle.lost_found.specs.Rows.{most_fields}
use Rattle.lost_found.specs.Texts.{lost_shape, lost_text}
use Rattle.lost_found.proofs.Finished.{most_few, name_is_free, table_is, table_valid}
use Rattle.lost_found.proofs.tables.lost_table.Goals as goal

pub lost_shape-requires : goal.lost_shape-requires
lost_shape-requires c =
    let most : c.most_fields-fields.result ≡ most_fields (map lost_seen c.args.cells.items) =
    c.most_fields-fields.ensures ∙ ap (λ cells. most_fields (map lost_seen cells)) c.deref.ensures.value in
    subst (λ n. n ≤ 1996) (sym most) (most_few c.args.cells.items c.requires.few)

pub returns-clause-name : goal.returns-clause-name
returns-clause-name c =
    let few : length c.args.names.now < 2 ^ 64 = omega arith in
    name_is_free c.args.base.now c.args.names.now c.in_ok-name.name few
    (c.in_ok-name.ensures ∙ ap (λ base. lost_name base c.args.names.now) c.as_slice.ensures)

pub returns-clause-valid : goal.returns-clause-valid
returns-clause-valid c =
    let few : length c.args.names.now < 2 ^ 64 = omega arith in
    let name = c.in_ok-name.ensures ∙ ap (λ base. lost_name base c.args.names.now) c.as_slice.ensures in
    let cells = map lost_seen c.args.cells.items in
    let most : c.most_fields-fields.result ≡ most_fields cells =
    c.most_fields-fields.ensures ∙ ap (λ cells. most_fields (map lost_seen cells)) c.deref.ensures.value in
    table_valid c.args.base.now c.args.names.now cells _ c.in_ok-found.found.places c.requires.base few (most_few c.args.cells.items c.requires.few)
    (table_is c.args.base.now c.args.names.now cells c.in_ok-name.name c.of-text.result c.most_fields-fields.result _ _ name most
    (c.of-text.ensures ∙ (c.in_ok-lost_text.ensures ∙ ap (λ name. lost_text name c.most_fields-fields.result) c.as_slice-2.ensures))
    (c.in_ok-shape.ensures ∙ ap (λ name. lost_shape name c.most_fields-fields.result) c.as_slice-3.ensures)
    c.in_ok-found.ensures.rows)
    c.in_ok-found.ensures.places
