use Rattle.std.proofs.Common.{◌∙◌, refl, ap, List, ◌∷◌, [], ◌++◌}
use Rattle.table_shape.specs.declared.rows.OutTable.{OutTable}
use Rattle.trial_file.specs.Trial.{IsTrial}
use Rattle.trial_file.proofs.tables.make_db.Goals as goal

pub returns-clause-trial : goal.returns-clause-trial
returns-clause-trial c = record {
  table = c.in_ok-table_of.field-0;
  tables = c.in_ok-push.ensures.items ∙ ap (λ (ts : List OutTable). ts ++ c.in_ok-table_of.field-0 ∷ []) c.new-tables.ensures.items;
  table_is = c.in_ok-table_of.ensures;
  user_version = refl;
  application_id = refl;
}

pub returns-clause-valid : goal.returns-clause-valid
returns-clause-valid c =
    let is : IsTrial c.args.rows (record { tables = c.push.new.self; user_version = 0; application_id = 0 }) = returns-clause-trial c in
    c.the_database_of_a_trial_can_be_written.ensures c.args.rows _ c.requires is
