use Rattle.std.proofs.Common.{sym, subst, ap, ◌∙◌}
use Rattle.page_walk.specs.Cells.{row_of}
use Rattle.table_fill.specs.Maps.{AddedByAll, found_by}
use Rattle.table_fill.proofs.Taking.{in_all, in_clash}
use Rattle.table_fill.proofs.maps.take_in.Goals as goal

pub returns-in-Some : goal.returns-in-Some
returns-in-Some c =
    in_clash (row_of c.args.cell.now) c.args.maps.now c.in-Some.fate
    (sym c.in-Some.is ∙ c.find_among.ensures
    ∙ ap (found_by c.args.maps.now) (c.as_slice.ensures.value ∙ c.in_ok-keys.ensures))

pub returns : goal.returns
returns c =
    in_all (row_of c.args.cell.now) c.args.maps.now c.add_all.new.maps
    (sym c.in_default.is ∙ c.find_among.ensures
    ∙ ap (found_by c.args.maps.now) (c.as_slice.ensures.value ∙ c.in_ok-keys.ensures))
    (subst (λ ks. AddedByAll ks c.args.cell.now.place c.args.maps.now c.add_all.new.maps) c.in_ok-keys.ensures c.in_ok-add_all.ensures)
