use Rattle.std.proofs.Common.{[], sym}
use Rattle.std.proofs.lemmas.List.{append-nil}
use Rattle.page_access.proofs.Gains.{front_as, front_out, front_start, front_step}
use Rattle.salvage_files.proofs.Making.{made_cut, quiet}
use Rattle.db_builder.specs.Layout.{layout}
use Rattle.salvage_files.proofs.writes.write_database.Goals as goal

pub returns-in_err-create-clause-makes : goal.returns-in_err-create-clause-makes
returns-in_err-create-clause-makes g c = made_cut c.from_residual.ensures.0
    (front_out (layout c.args.prepared.now.page_size c.args.db.now) c.from_residual.ensures.0 (front_start _ _ _)
    (quiet c.in_err-create.ensures.bytes c.in_err-create.ensures.cause))
    c.in_err-create.ensures.finished

pub returns-in_err-finish-clause-makes : goal.returns-in_err-finish-clause-makes
returns-in_err-finish-clause-makes g c = made_cut c.from_residual-in_err-finish.ensures.0
    (front_out [] c.from_residual-in_err-finish.ensures.0
    (front_step [] (front_as (sym (append-nil (layout c.args.prepared.now.page_size c.args.db.now)))
    (front_step (layout c.args.prepared.now.page_size c.args.db.now) (front_start _ _ _)
    (quiet c.in_ok-create.ensures.bytes c.in_ok-create.ensures.cause))) c.in_ok-pages.ensures.writes)
    (quiet c.in_err-finish.ensures.bytes c.in_err-finish.ensures.cause))
    c.in_err-finish.ensures.err
