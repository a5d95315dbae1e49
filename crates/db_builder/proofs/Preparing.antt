-- A database that can be written, and whose load is not too large, can be prepared.
use Rattle.std.proofs.Common.{◌^◌, List, [], ◌∷◌, arith}
use Rattle.std.specs.List.{AllByRecursion}
use Rattle.table_shape.specs.declared.rows.OutTable.{OutTable}
use Rattle.db_builder.specs.declared.databases.OutDb.{OutDb}
use Rattle.db_builder.specs.Laws.{CanBePrepared}
use Rattle.db_builder.specs.Load.{HasFewValues, HaveFewValues, table_load}
use Rattle.db_builder.specs.Valid.{IsTable, IsValid}
use Rattle.db_builder.proofs.Fitting.{few_of, tables_fit}
use Rattle.db_builder.proofs.Sized.{trees_small}
use Rattle.db_builder.proofs.Sums.{each_within}

few_in : (ts : List OutTable) → AllByRecursion IsTable ts → AllByRecursion (λ (t : OutTable). HaveFewValues t.rows.items) ts
few_in [] all = tt
few_in (t ∷ ts) all = (few_of t all.0, few_in ts all.1)

pub few_values : (db : OutDb) → IsValid db → HasFewValues db
few_values db is = few_in db.tables.items is.tables

pub can_be_prepared : CanBePrepared
can_be_prepared size db least most is small =
    let tables = db.tables.items in
    let all = trees_small size tables least is.tables (omega (arith, small)) in
    record {
      tables = tables_fit tables is.tables (each_within table_load (2 ^ 35) tables (omega (arith, small)));
      few = all.few;
      schema = all.schema;
      pages = all.pages;
    }
