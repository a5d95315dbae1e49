use Rattle.std.proofs.Common.{ap, refl, subst, ◌∙◌, Err, List}
use Rattle.create_grammar.specs.declared.reading.Said.{Said}
use Rattle.create_reader.specs.Constraints.{table_of}
use Rattle.create_reader.specs.Faults.{first_fault}
use Rattle.create_reader.specs.Outcome.{FailsBy}
use Rattle.create_reader.specs.Views.{seen}
use Rattle.create_reader.proofs.One.{told}
use Rattle.create_reader.proofs.reading.read.Goals as goal

pub returns-in-Some : goal.returns-in-Some
returns-in-Some c = told c.args.sql.now c.in-Ok.said.items (table_of c.args.sql.now c.in-Ok.said.items) (Err c.in-Some.fault)
    c.in-Ok.ensures.0 c.in-Ok.ensures.1 refl
    (subst (λ (z : List Said). FailsBy (first_fault (table_of c.args.sql.now z)) c.in-Some.fault) c.as_slice.ensures.value
    (c.in-Some.ensures c.args.sql.now))

pub returns : goal.returns
returns c = told c.args.sql.now c.in-Ok.said.items (seen c.in-Ok-table_of.table) c.shape_of.result
    c.in-Ok.ensures.0 c.in-Ok.ensures.1
    (c.in-Ok-table_of.ensures ∙ ap (table_of c.args.sql.now) c.as_slice-2.ensures.value) c.shape_of.ensures
