use Rattle.std.proofs.Common.{◌≡◌, ◌∙◌, ◌++◌, ◌∷◌, [], ℕ, List, ap, arith, length, map, sym}
use Rattle.std.proofs.lemmas.Bool.Decides.{nat_tests}
use Rattle.report_text.specs.declared.ReportLine.TheVariants as lines
use Rattle.table_shape.specs.Names.{is_named}
use Rattle.salvaged_tables.specs.Salvaged.{lost_seen}
use Rattle.lost_found.specs.Lost.{lost_of}
use Rattle.salvage_core.specs.Lost.{schema_names}
use Rattle.salvage_core.proofs.Losing.{gains_lost, lost_places_on}
use Rattle.salvage_core.proofs.Naming.{valid_more}
use Rattle.salvage_core.proofs.lost.add_lost_table.Goals as goal

pub returns-clause-added : goal.returns-clause-added
returns-clause-added c =
    gains_lost c.args.base.now (schema_names c.args.rows.now) c.args.lost.items c.in_ok-found.found.table c.in_ok-found.found.places
    c.args.tables.now.items c.push-2.new.self.items c.args.places.now.items c.push-3.new.self.items c.args.lines.now.items c.push.new.self.items
    (grind (arith, nat_tests, c.is_empty.ensures, c.if-is_empty.false))
    (c.in_ok-found.ensures.table ∙ ap (λ (ns : List (List ℕ)). lost_of c.args.base.now ns (map lost_seen c.args.lost.items)) (c.deref.ensures.value ∙ c.in_ok-names.ensures))
    c.in_ok-found.ensures.places c.in_ok-push-2.ensures.items c.in_ok-push-3.ensures.items
    (c.in_ok-push.ensures.items
    ∙ (ap (λ (n : List ℕ). c.args.lines.now.items ++ lines.Lost n c.len.result ∷ []) (c.in_ok-copy_of.ensures ∙ c.as_slice.ensures)
    ∙ ap (λ (k : ℕ). c.args.lines.now.items ++ lines.Lost c.in_ok-found.found.table.name k ∷ []) (c.len.ensures ∙ c.in_ok-found.found.table.rows.ok.0)))

pub returns-clause-valid : goal.returns-clause-valid
returns-clause-valid c = λ valid named.
    valid_more c.args.rows.now c.args.tables.now.items c.push-2.new.self.items c.in_ok-found.found.table valid named c.in_ok-found.ensures.valid
    (ap (is_named c.in_ok-found.found.table.name) (sym (c.deref.ensures.value ∙ c.in_ok-names.ensures)) ∙ c.in_ok-found.ensures.name)
    c.in_ok-push-2.ensures.items

pub returns-clause-bounds : goal.returns-clause-bounds
returns-clause-bounds c = λ pages was on.
    lost_places_on pages c.args.base.now (schema_names c.args.rows.now) c.args.lost.items c.in_ok-found.found.table c.in_ok-found.found.places
    c.args.places.now.items c.push-3.new.self.items
    (c.in_ok-found.ensures.table ∙ ap (λ (ns : List (List ℕ)). lost_of c.args.base.now ns (map lost_seen c.args.lost.items)) (c.deref.ensures.value ∙ c.in_ok-names.ensures))
    c.in_ok-found.ensures.places c.in_ok-push-3.ensures.items was on
