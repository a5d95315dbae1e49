use Rattle.std.proofs.Common.{◌∙◌, List, ℕ, ap, length, map, arith}
use Rattle.std.proofs.lemmas.List.{length-map}
use Rattle.std.specs.List.{flat_map}
use Rattle.page_walk.specs.Cells.{Outcome}
use Rattle.page_walk.specs.InTurn.{turn_of}
use Rattle.raw_schema.specs.Schema.{bad_in, cells_in, entries_in, noted}
use Rattle.raw_schema.proofs.Small.{schema_small}
use Rattle.raw_schema.proofs.Turns.{evidence_of_turns, of_turns, table_of_turns, turns_few}
use Rattle.raw_schema.proofs.reading.read_pages.Goals as goal

pub sort_turns-requires : goal.sort_turns-requires
sort_turns-requires g c =
    turns_few c.args.geo.now.usable c.args.geo.now.pages c.in_ok-turns.turns.items (omega (arith, c.args.geo.now.usable_most, c.args.geo.now.size_most))
    c.in_ok-turns.ensures.small

pub returns-clause-rows : goal.returns-clause-rows
returns-clause-rows g c =
    of_turns (λ (ts : List (ℕ × List Outcome)). entries_in (cells_in ts)) _ c.args.geo.now c.args.pages.items c.deref.result.now _ (map turn_of c.in_ok-turns.turns.items) _
    c.deref.ensures.value c.in_ok-turns.ensures.value c.in_ok-sort_turns.ensures.rows

pub returns-clause-bad : goal.returns-clause-bad
returns-clause-bad g c =
    of_turns (λ (ts : List (ℕ × List Outcome)). bad_in (cells_in ts)) _ c.args.geo.now c.args.pages.items c.deref.result.now _ (map turn_of c.in_ok-turns.turns.items) _
    c.deref.ensures.value c.in_ok-turns.ensures.value c.in_ok-sort_turns.ensures.bad

pub returns-clause-notes : goal.returns-clause-notes
returns-clause-notes g c =
    of_turns (λ (ts : List (ℕ × List Outcome)). flat_map noted ts) _ c.args.geo.now c.args.pages.items c.deref.result.now _ (map turn_of c.in_ok-turns.turns.items) _
    c.deref.ensures.value c.in_ok-turns.ensures.value c.in_ok-sort_turns.ensures.notes

pub returns-clause-evidence : goal.returns-clause-evidence
returns-clause-evidence g c = evidence_of_turns _ c.args.geo.now c.args.pages.items c.args.table.now c.requires.pages c.requires.partition c.requires.same_pages

pub returns-clause-table : goal.returns-clause-table
returns-clause-table g c =
    table_of_turns _ c.args.geo.now c.args.pages.items c.deref.result.now c.args.table.now c.read_turns.new.table (map turn_of c.in_ok-turns.turns.items)
    c.deref.ensures.value c.in_ok-turns.ensures.value c.in_ok-turns.ensures.moved

pub returns-clause-small : goal.returns-clause-small
returns-clause-small g c =
    schema_small c.args.geo.now.usable c.args.geo.now.pages (map turn_of c.in_ok-turns.turns.items) _ _ c.args.pages.items _ c.in_ok-turns.ensures.small
    (length-map c.in_ok-turns.turns.items turn_of ∙ c.in_ok-turns.ensures.len ∙ ap length c.deref.ensures.value) c.in_ok-sort_turns.ensures.pages
    c.requires.pages c.in_ok-sort_turns.ensures.rows c.in_ok-sort_turns.ensures.bad
