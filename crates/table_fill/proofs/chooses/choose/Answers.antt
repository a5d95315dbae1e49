use Rattle.std.proofs.Common.{ap, ◌∙◌, map}
use Rattle.page_walk.specs.Cells.{row_of}
use Rattle.table_shape.specs.Keys.{keys_seen, parts_seen}
use Rattle.table_fill.specs.Fates.{nothing}
use Rattle.table_fill.proofs.Taking.{shows_nothing, sorted_out}
use Rattle.table_fill.proofs.chooses.choose.Goals as goal

pub returns : goal.returns
returns c =
    let t = keys_seen c.args.plan.now in
    sorted_out t (map row_of c.args.cells.items) c.take_all.new.now c.in_ok-rows.rows.items c.requires
    (c.in_ok-take_all.ensures nothing (shows_nothing t _ c.new.ensures.empty
    (c.in_ok-new_maps.ensures.keys ∙ ap (map parts_seen) c.as_slice.ensures.value)
    c.in_ok-new_maps.ensures.empty c.new-2.ensures.items))
    c.in_ok-rows.ensures
