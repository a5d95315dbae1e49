-- A well-formed input comes back whole.
use Rattle.std.proofs.Common.{◌≡◌, ◌∙◌, ◌++◌, inl, inr, ℕ, Bool, true, false, List, [], ◌∷◌, Option, Some, None, Result, Ok, Err, IfSome, Vec, Global, ap, append-nil, arith, length, map, refl, subst, sym}
use Rattle.std.specs.Prelude.{◌≤◌, nat_lt}
use Rattle.std.specs.List.{flat_map, range_with_len}
use Rattle.std.proofs.lemmas.Bool.Decides.{nat_tests}
use Rattle.page_access.specs.Pages.{File}
use Rattle.page_size.specs.Rule.{Finding}
use Rattle.input_pages.specs.Input.{left_of, pages_of}
use Rattle.input_pages.specs.declared.faults.InputFault.{InputFault}
use Rattle.input_pages.specs.declared.faults.InputFault.TheVariants as inputs
use Rattle.page_walk.specs.Cells.{Outcome, Row}
use Rattle.table_fill.specs.Fates.{held}
use Rattle.table_shape.specs.Keys.{StoredRow}
use Rattle.table_shape.specs.Seen.{row_seen}
use Rattle.table_shape.specs.declared.rows.OutRow.{OutRow}
use Rattle.table_shape.specs.declared.rows.OutTable.{OutTable}
use Rattle.freelist_core.specs.Free as free
use Rattle.orphan_trees.specs.Orphans.{Orphan, orphan_of, orphan_trees}
use Rattle.orphan_trees.specs.declared.trees.OrphanTree.{OrphanTree}
use Rattle.orphan_cells.specs.Orphaned.{orphan_failed, orphan_lost}
use Rattle.orphan_uses.specs.Order.{behind_free}
use Rattle.page_lists.specs.Lists.{minus}
use Rattle.raw_schema.specs.Schema.{bad_rows}
use Rattle.salvaged_tables.specs.Fates.{Failed, StoredTable, failed_of, lost_of, table_of}
use Rattle.salvaged_tables.specs.Salvaged.{HavePlaces, failed_seen, rows_at, stored_tables}
use Rattle.salvaged_tables.specs.declared.places.FailedEntry.{FailedEntry}
use Rattle.salvaged_tables.specs.declared.places.Placed.{Placed}
use Rattle.salvaged_tables.proofs.Items.{front, nothing}
use Rattle.salvage_laws.specs.Stored.{bad_lost, lost_cells}
use Rattle.layout_laws.specs.Written.{database_of, table_of as written_of}
use Rattle.db_builder.specs.declared.databases.OutDb.{OutDb}
use Rattle.well_formed.specs.Database.{Database, TableRows, empty_database}
use Rattle.well_formed.specs.Header.{file_in}
use Rattle.well_formed.specs.Spells.{IsWellFormed, Spells}
use Rattle.well_formed_uses.specs.Laws.{IsUsed, left_unused}
use Rattle.round_trip.specs.Found.{IsFound, finding_in}
use Rattle.round_trip.specs.Laws.{ComesBack as FatesComeBack, as_rows}
use Rattle.round_trip.specs.Scope.{IsInScope}
use Rattle.round_trip.proofs.Back.{files_come_back, pages_are_all}
use Rattle.round_trip.proofs.Found.{headers_are_found}
use Rattle.salvage_core.specs.Back.{ArePlain, ComesBack, IsBack}
use Rattle.salvage_core.specs.Lost.{lost_tables, schema_names}
use Rattle.salvage_core.specs.Plan.{IsEmptyPlan, IsFilePlan, IsPlan, IsPlanBy, file_by, input_of, trunk_of}
use Rattle.salvage_core.specs.declared.gathered.Gathered.{Gathered}
use Rattle.salvage_core.specs.declared.options.Options.{Options}

-- ---- lists

mapped_none : {X Y : Type 0} (f : X → Y) (xs : List X) → map f xs ≡ [] → xs ≡ []
mapped_none f [] none = refl
mapped_none f (x ∷ xs) none = absurd (nothing _ _ none)

rows_spelled : (rows : List OutRow) (places : List Placed) → length rows ≡ length places → map held (rows_at rows places) ≡ map row_seen rows
rows_spelled [] places even = refl
rows_spelled (o ∷ rows) [] even = absurd (omega (arith, even))
rows_spelled (o ∷ rows) (p ∷ places) even = ap (λ (rs : List StoredRow). row_seen o ∷ rs) (rows_spelled rows places (omega (arith, even)))

-- the tables as a file spells them
tables_spelled : (tables : List OutTable) (places : List (Vec Placed Global)) → HavePlaces tables places
    → map as_rows (stored_tables tables places) ≡ map written_of tables
tables_spelled [] places even = refl
tables_spelled (t ∷ tables) [] even = absurd (nothing _ _ even)
tables_spelled (t ∷ tables) (p ∷ places) even =
    ap (λ (rows : List StoredRow). record { name = t.name; text = t.text; rows = rows } ∷ map as_rows (stored_tables tables places))
    (rows_spelled t.rows.items p.items (front _ _ _ _ even).0)
    ∙ ap (λ (ts : List TableRows). written_of t ∷ ts) (tables_spelled tables places (front _ _ _ _ even).1)

-- ---- a file with pages

trunk_given : (o : Options) (all : List ℕ) → ArePlain o → trunk_of o (finding_in all) ≡ Some (finding_in all).header.first_trunk
trunk_given o all plain = rw plain.freelist refl

abbrev used_of : (o : Options) (all : List ℕ) (d : Database) (left : ℕ) (g : Gathered) → IsWellFormed all d
    → IsFilePlan o (finding_in all) left (file_in all) g → IsUsed all d
used_of o all d left g w p = record {
  formed = w;
  unused = range_with_len 1 (file_in all).pages;
  rows = g.schema.items;
  readings = p.readings;
  tables = p.tables;
  indexes = p.indexes;
  turns = p.turns;
  all = pages_are_all (file_in all).pages;
  order = p.order;
}

no_orphans : (o : Options) (all : List ℕ) (d : Database) (left : ℕ) (g : Gathered) (w : IsWellFormed all d) → ArePlain o
    → (p : IsFilePlan o (finding_in all) left (file_in all) g) → FatesComeBack all d (used_of o all d left g w p) p.fates → p.orphans ≡ []
no_orphans o all d left g w plain p back =
    let f : File = file_in all in
    let rest : List ℕ = left_unused (used_of o all d left g w p) in
    p.orphans_are.trees_are
    ∙ (ap (λ (t : Option ℕ). orphan_trees f (behind_free f rest t)) (trunk_given o all plain)
    ∙ (ap (λ (ps : List ℕ). orphan_trees f (minus rest ps)) back.left.free ∙ back.left.none))

file_back : (o : Options) (all : List ℕ) (d : Database) (left : ℕ) (g : Gathered) → IsWellFormed all d → ArePlain o → IsInScope all d
    → IsFound o.input_limit all d → HavePlaces g.db.tables.items g.places.items → IsFilePlan o (finding_in all) left (file_in all) g → IsBack d g
file_back o all d left g w plain scope found placed p =
    let s : IsUsed all d = used_of o all d left g w p in
    let back : FatesComeBack all d s p.fates = files_come_back all d s p.fates scope p.fates_are in
    let none : p.orphans ≡ [] = no_orphans o all d left g w plain p back in
    let lost : p.lost ≡ [] =
    p.lost_are
    ∙ (ap (λ (bad : List Row). bad_lost bad ++ (flat_map lost_of p.fates ++ orphan_lost p.orphans p.cells)) back.none_bad
    ∙ (ap (λ (ls : List (ℕ × Row)). ls ++ orphan_lost p.orphans p.cells) back.back.no_roots
    ∙ ap (λ (ts : List Orphan). orphan_lost ts p.cells) none)) in
    let stored : stored_tables g.db.tables.items g.places.items ≡ flat_map table_of p.fates =
    p.stored ∙ (ap (λ (ls : List (ℕ × Row)). flat_map table_of p.fates ++ lost_tables o.lost (schema_names g.schema.items) ls) lost
    ∙ append-nil (flat_map table_of p.fates)) in
    let tables : map written_of g.db.tables.items ≡ d.tables =
    sym (tables_spelled g.db.tables.items g.places.items placed) ∙ (ap (map as_rows) stored ∙ back.back.tables) in
    record {
      database = ap (λ (n : ℕ). record { user_version = n; application_id = g.db.application_id; tables = map written_of g.db.tables.items })
          (p.user_version ∙ found.user_version)
          ∙ (ap (λ (n : ℕ). record { user_version = d.user_version; application_id = n; tables = map written_of g.db.tables.items })
          (p.application_id ∙ found.application_id)
          ∙ ap (λ (ts : List TableRows). record { user_version = d.user_version; application_id = d.application_id; tables = ts }) tables);
      none_lost = p.lost_rows ∙ ap length lost;
      no_orphans = mapped_none orphan_of g.orphans.items (p.orphan_trees ∙ none);
      none_failed = mapped_none failed_seen g.failed.items
          (p.failed ∙ (ap (λ (fs : List Failed). fs ++ orphan_failed p.orphans p.cells) back.back.none_failed
          ∙ ap (λ (ts : List Orphan). orphan_failed ts p.cells) none));
    }

-- ---- an empty file

empty_spelled : (db : OutDb) → db.tables.items ≡ [] → db.user_version ≡ 0 → db.application_id ≡ 0 → database_of db ≡ empty_database
empty_spelled db tables version id =
    ap (λ (ts : List OutTable). record { user_version = db.user_version; application_id = db.application_id; tables = map written_of ts }) tables
    ∙ (ap (λ (n : ℕ). record { user_version = n; application_id = db.application_id; tables = [] }) version
    ∙ ap (λ (n : ℕ). record { user_version = 0; application_id = n; tables = [] }) id)

empty_back : (o : Options) (d : Database) (g : Gathered) → d ≡ database_of g.db → IsEmptyPlan o g → IsBack d g
empty_back o d g same p = record { database = sym same; none_lost = p.lost_rows; no_orphans = p.orphans; none_failed = p.failed }

-- ---- an input

pub nothing_found : (limit : ℕ) (size reserved : Option ℕ) → pages_of limit size reserved [] ≡ Ok None
unfolding pages_of
nothing_found limit size reserved = rw (not_over limit) refl
  where
    not_over : (limit : ℕ) → nat_lt limit 0 ≡ false
    not_over limit = grind (arith, nat_tests)

empty_of : (o : Options) (g : Gathered) → IsPlanBy o [] (input_of o []) g → IsEmptyPlan o g
empty_of o g p = subst (λ (r : Result (Option Finding) InputFault). IsPlanBy o [] r g) (nothing_found o.input_limit o.page_size o.reserved) p

pub plain_input : (o : Options) (all : List ℕ) → ArePlain o → input_of o all ≡ pages_of o.input_limit None None all
plain_input o all plain =
    ap (λ (size : Option ℕ). pages_of o.input_limit size o.reserved all) plain.page_size
    ∙ ap (λ (reserved : Option ℕ). pages_of o.input_limit None reserved all) plain.reserved

-- what has a plan is not too large
fits : (o : Options) (all : List ℕ) (g : Gathered) (b : Bool) → nat_lt o.input_limit (length all) ≡ b → IsPlan o all g → length all ≤ o.input_limit
unfolding pages_of
fits o all g true over p =
    let e : input_of o all ≡ Err (inputs.TooLarge (length all)) = rw over refl in
    absurd (subst (λ (r : Result (Option Finding) InputFault). IsPlanBy o all r g) e p)
fits o all g false over p = grind (arith, nat_tests, over)

spelled_back : (o : Options) (all : List ℕ) (g : Gathered) (d : Database) → length all ≤ o.input_limit → HavePlaces g.db.tables.items g.places.items
    → IsPlan o all g → ArePlain o → IsInScope all d → Spells all d → IsBack d g
spelled_back o all g d few placed p plain scope (inl (none, empty)) =
    let e : IsEmptyPlan o g = empty_of o g (subst (λ (bytes : List ℕ). IsPlanBy o bytes (input_of o bytes) g) none p) in
    empty_back o d g (empty ∙ sym (empty_spelled g.db e.tables e.user_version e.application_id)) e
spelled_back o all g d few placed p plain scope (inr w) =
    let found : IsFound o.input_limit all d = headers_are_found o.input_limit all d w.header few in
    let by : IsPlanBy o all (Ok (Some (finding_in all))) g =
    subst (λ (r : Result (Option Finding) InputFault). IsPlanBy o all r g) (plain_input o all plain ∙ found.pages) p in
    file_back o all d (left_of all (finding_in all)) g w plain scope found placed
    (subst (λ (f : File). IsFilePlan o (finding_in all) (left_of all (finding_in all)) f g) (sym found.file) by.1)

pub told_back : (o : Options) (told : Option (List ℕ)) (g : Gathered) → HavePlaces g.db.tables.items g.places.items → IfSome told (λ all. IsPlan o all g) → IfSome told (λ all. ComesBack o all g)
told_back o None g placed p = tt
told_back o (Some all) g placed p =
    λ d plain spells scope. spelled_back o all g d (fits o all g (nat_lt o.input_limit (length all)) refl p) placed p plain scope spells
