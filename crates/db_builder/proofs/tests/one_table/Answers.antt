use Rattle.std.proofs.Common.{◌++◌, Vec, Global, List, [], ◌∷◌, map, ap, sym, subst, ◌∙◌}
use Rattle.std.specs.Prelude.{Option, IfSome}
use Rattle.std.specs.List.{AllByRecursion, IsDistinct}
use Rattle.table_shape.specs.declared.rows.OutTable.{OutTable}
use Rattle.table_shape.specs.Names.{same_name}
use Rattle.db_builder.specs.Valid.{IsTable}
use Rattle.db_builder.proofs.tests.one_table.Goals as goal
use Rattle.db_builder.proofs.tests.one_table.Goals.{in-Some+in_ok-push, in_default}

-- no table, or one
record AreTables (ts : List OutTable) : Type 0 where
  tables : AllByRecursion IsTable ts
  names : IsDistinct same_name (map (λ (t : OutTable). t.name) ts)

none_is : AreTables []
unfolding IsDistinct
none_is = record { tables = tt; names = tt }

one_is : (t : OutTable) → IsTable t → AreTables (t ∷ [])
unfolding IsDistinct
one_is t is = record { tables = (is, tt); names = (tt, tt) }

pub returns : goal.returns
returns c =
    let all : AreTables c.match-branch-2.tables.items = elim c.match-branch-2.branch [
      | in-Some+in_ok-push w ↦ subst AreTables
          (sym (ap (λ (v : Vec OutTable Global). v.items) w.tables-is ∙ w.in_ok-push.ensures.items ∙ ap (λ ts. ts ++ w.in-Some.table ∷ []) c.new-tables.ensures.items))
          (one_is w.in-Some.table (subst (λ (o : Option OutTable). IfSome o IsTable) w.in-Some.is c.in_ok-table.ensures))
      | in_default w ↦ subst AreTables (sym (ap (λ (v : Vec OutTable Global). v.items) w.tables-is ∙ c.new-tables.ensures.items)) none_is
    ] in
    record { tables = all.tables; names = all.names }
