-- The name of the table of lost cells is that of no other table.
use Rattle.std.proofs.Common.{◌≡◌, ℕ, zero, suc, Bool, true, false, ◌||◌, Option, Some, None, List, [], ◌∷◌, ◌++◌, map, refl, sym, ◌∙◌, ap, subst, Vec, Global}
use Rattle.std.specs.Prelude.{slice_get}
use Rattle.std.specs.List.{AllByRecursion, IsDistinct, flat_map, list_any}
use Rattle.std.proofs.lemmas.List.{map-append}
use Rattle.std.proofs.lemmas.Map.Keys.{IsDistinct-push}
use Rattle.create_reader.proofs.Valid.{same_equiv}
use Rattle.db_builder.specs.Valid.{IsTable}
use Rattle.page_walk.specs.Cells.{Outcome}
use Rattle.page_walk.proofs.Going.{all_append}
use Rattle.raw_schema.specs.declared.rows.SchemaRow.{SchemaRow}
use Rattle.schema_texts.specs.declared.readings.TableReading.{TableReading}
use Rattle.table_parts.specs.declared.parts.TablePart.{TablePart}
use Rattle.table_parts.specs.declared.parts.TablePart.TheVariants.{Built, Unread}
use Rattle.table_shape.specs.Names.{is_named, same_name}
use Rattle.table_shape.specs.declared.rows.OutTable.{OutTable}
use Rattle.tree_uses.specs.Trees.{Tree}
use Rattle.salvaged_tables.specs.declared.places.Placed.{Placed}
use Rattle.salvaged_tables.specs.Fates.{AreFates, StoredTable, TableFate, built_table, table_of}
use Rattle.salvaged_tables.specs.Salvaged.{AreValid, HavePlaces, IsSalvage, stored_tables}
use Rattle.salvaged_tables.specs.declared.salvage.SalvagedTables.{SalvagedTables}
use Rattle.salvaged_tables.proofs.Items.{some_same}
use Rattle.salvaged_tables.proofs.Valid.{names_seen, stored_names}
use Rattle.salvage_core.specs.Lost.{AreOfSchema, schema_names}

-- ---- names among others

-- a name that none of these is is not this one
abbrev IsKnown : List (List ℕ) → List ℕ → Type 0
IsKnown names n = (l : List ℕ) → is_named l names ≡ false → same_name n l ≡ false

neither : (a b : Bool) → (a || b) ≡ false → (a ≡ false) × (b ≡ false)
neither true b is = absurd (cc)
neither false true is = absurd (cc)
neither false false is = (refl, refl)

known_at : (rows : List SchemaRow) (i : ℕ) (row : SchemaRow) → slice_get rows i ≡ Some row → IsKnown (schema_names rows) row.name
known_at [] i row is = absurd (cc)
known_at (r ∷ rows) zero row is =
    subst (λ (w : SchemaRow). IsKnown (schema_names (r ∷ rows)) w.name) (some_same r row is)
    (λ l free. (neither (same_name r.name l) (is_named l (schema_names rows)) free).0)
known_at (r ∷ rows) (suc i) row is =
    λ l free. known_at rows i row is l (neither (same_name r.name l) (is_named l (schema_names rows)) free).1

part_known : (names : List (List ℕ)) (row : SchemaRow) (part : TablePart) → IsKnown names row.name
    → AllByRecursion (λ (t : StoredTable). IsKnown names t.name) (built_table row part)
part_known names row (Built shape rows left) known = (known, tt)
part_known names row (Unread cause cells) known = tt

-- the tables that are built have names of the schema
fates_known : (rows : List SchemaRow) (rs : List TableReading) (trees : List Tree) (turns : List (List (ℕ × List Outcome))) (fates : List TableFate)
    → AreFates rows rs trees turns fates → AllByRecursion (λ (t : StoredTable). IsKnown (schema_names rows) t.name) (flat_map table_of fates)
fates_known rows [] [] [] [] are = tt
fates_known rows (r ∷ rs) (t ∷ trees) (ts ∷ turns) (f ∷ fates) are =
    all_append (λ (s : StoredTable). IsKnown (schema_names rows) s.name) (table_of f) (flat_map table_of fates)
    (part_known (schema_names rows) f.row f.part (known_at rows r.row f.row are.0.row_is)) (fates_known rows rs trees turns fates are.1)
fates_known rows rs trees turns fates are = absurd are

not_among : (names : List (List ℕ)) (stored : List StoredTable) (l : List ℕ) → AllByRecursion (λ (t : StoredTable). IsKnown names t.name) stored
    → is_named l names ≡ false → is_named l (stored_names stored) ≡ false
not_among names [] l known free = refl
not_among names (t ∷ stored) l known free = rw (known.0 l free) (not_among names stored l known.1 free)

pub of_schema : (rows : List SchemaRow) (rs : List TableReading) (trees : List Tree) (turns : List (List (ℕ × List Outcome))) (fates : List TableFate)
    (tables : List OutTable) (places : List (Vec Placed Global)) → AreFates rows rs trees turns fates → HavePlaces tables places
    → stored_tables tables places ≡ flat_map table_of fates → AreOfSchema rows tables
of_schema rows rs trees turns fates tables places are even stored = λ l free.
    ap (is_named l) (sym (names_seen tables places even) ∙ ap stored_names stored)
    ∙ not_among (schema_names rows) (flat_map table_of fates) l (fates_known rows rs trees turns fates are) free

-- ---- one table more

turned : (l : List ℕ) (names : List (List ℕ)) → list_any (same_name l) names ≡ is_named l names
turned l [] = refl
turned l (n ∷ names) =
    ap (λ (b : Bool). b || list_any (same_name l) names) (same_equiv.symm l n) ∙ ap (λ (b : Bool). same_name n l || b) (turned l names)

pub valid_more : (rows : List SchemaRow) (tables new : List OutTable) (t : OutTable) → AreValid tables → AreOfSchema rows tables → IsTable t
    → is_named t.name (schema_names rows) ≡ false → new ≡ tables ++ t ∷ [] → AreValid new
valid_more rows tables new t valid named one free pushed = subst AreValid (sym pushed) (record {
  tables_are = all_append IsTable tables (t ∷ []) valid.tables_are (one, tt);
  names = subst (IsDistinct same_name) (sym (map-append (λ (u : OutTable). u.name) tables (t ∷ [])))
      (IsDistinct-push same_equiv (map (λ (u : OutTable). u.name) tables) t.name valid.names
      (turned t.name (map (λ (u : OutTable). u.name) tables) ∙ named t.name free));
})

pub salvage_named : (rows : List SchemaRow) (rs : List TableReading) (trees : List Tree) (turns : List (List (ℕ × List Outcome))) (v : SalvagedTables)
    → IsSalvage rows rs trees turns v → AreOfSchema rows v.tables.items
salvage_named rows rs trees turns v s =
    of_schema rows rs trees turns s.fates v.tables.items v.places.items s.are s.salvaged.places s.salvaged.tables
