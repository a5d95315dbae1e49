use Rattle.std.proofs.Common.{◌≡◌, ◌≤◌, ◌^◌, List, [], map, sum_by, sym, ap, subst, arith}
use Rattle.std.specs.List.{AllByRecursion, IsDistinct}
use Rattle.table_shape.specs.declared.rows.OutTable.{OutTable}
use Rattle.table_shape.specs.Names.{same_name}
use Rattle.db_builder.specs.declared.databases.OutDb.{OutDb}
use Rattle.db_builder.specs.Load.{load, table_load}
use Rattle.db_builder.specs.Valid.{IsTable, IsValid}
use Rattle.db_builder.proofs.Preparing.{can_be_prepared}
use Rattle.db_builder.proofs.tests.an_empty_database_has_one_page.Goals as goal

-- a database without tables can be written
none_valid : (db : OutDb) → db.tables.items ≡ [] → IsValid db
unfolding IsDistinct
none_valid db e = record {
  tables = subst (AllByRecursion IsTable) (sym e) tt;
  names = subst (λ (ts : List OutTable). IsDistinct same_name (map (λ (t : OutTable). t.name) ts)) (sym e) tt;
}

none_small : (db : OutDb) → db.tables.items ≡ [] → load db ≤ 2 ^ 35
none_small db e = omega (arith, ap (sum_by table_load) e)

pub plan_file-requires-clause-can : goal.plan_file-requires-clause-can
plan_file-requires-clause-can g c =
    let db : OutDb = record { tables = c.new.result; user_version = 7; application_id = 9 } in
    can_be_prepared 4096 db (omega arith) (omega arith) (none_valid db c.new.ensures.items) (none_small db c.new.ensures.items)
