use Rattle.std.proofs.Common.{refl}
use Rattle.std.proofs.lemmas.Result.{on_ok_weaker}
use Rattle.salvaged_tables.proofs.Gaining.{gains_built, gains_unread}
use Rattle.salvaged_tables.proofs.salvage.add_part.Goals as goal

pub returns-in_ok-add_left-in-Built : goal.returns-in_ok-add_left-in-Built
returns-in_ok-add_left-in-Built c =
    on_ok_weaker c.add_built.result (λ gained. gains_built c.args.row.now c.args.root c.args.part c.in-Built.shape c.in-Built.rows c.in-Built.left
    c.args.found.now _ c.in-Built.is gained c.in_ok-add_left-in-Built.ensures refl refl refl) c.add_built.ensures

pub returns-in_ok-add_table_text-in-Unread : goal.returns-in_ok-add_table_text-in-Unread
returns-in_ok-add_table_text-in-Unread c =
    on_ok_weaker c.add_lost.result (λ lost. gains_unread c.args.row.now c.args.root c.args.part c.in-Unread.cause c.in-Unread.cells
    c.args.found.now _ c.in-Unread.is refl refl lost c.in_ok-add_table_text-in-Unread.ensures refl refl) c.add_lost.ensures
