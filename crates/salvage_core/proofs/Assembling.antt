-- What is gathered of a file is its plan.
use Rattle.std.proofs.Common.{◌≡◌, ◌∙◌, ◌++◌, ℕ, false, List, [], Option, Some, None, Result, Ok, Err, IfSome, Vec, ap, append_assoc, length, map, refl, subst, sym}
use Rattle.std.specs.Prelude.{◌≤◌, ◌<◌, ◌^◌, IsSomeAnd, IsTrue}
use Rattle.std.proofs.lemmas.List.{length-map, map-append}
use Rattle.std.specs.declared.alloc.Global.{Global}
use Rattle.std.specs.List.{AllByRecursion, IsDistinct, flat_map}
use Rattle.page_access.specs.Files.{file_of}
use Rattle.page_access.specs.Pages.{File, is_page_size}
use Rattle.page_access.specs.declared.geometry.Geometry.{Geometry}
use Rattle.page_size.specs.Rule.{Finding, finding}
use Rattle.page_size.specs.declared.finds.Found.{Found}
use Rattle.page_walk.specs.Cells.{Outcome, Row, row_of}
use Rattle.page_walk.specs.declared.rows.PageNotes.{PageNotes}
use Rattle.raw_schema.specs.Schema.{bad_rows, schema_notes}
use Rattle.raw_schema.specs.declared.rows.SchemaRow.{SchemaRow}
use Rattle.report_text.specs.declared.ReportLine.{ReportLine}
use Rattle.table_shape.specs.Names.{same_name}
use Rattle.table_shape.specs.declared.rows.OutTable.{OutTable}
use Rattle.tree_uses.specs.Trees.{Tree, tree_of, turns_of}
use Rattle.schema_texts.specs.declared.readings.TableReading.{TableReading}
use Rattle.tree_uses.specs.declared.walks.TreeUse.{TreeUse}
use Rattle.use_order.specs.Order.{AreBelow, AreInOrder, AreTreesOf}
use Rattle.orphan_trees.specs.Orphans.{IsOrphanOf, Orphan, orphan_of}
use Rattle.orphan_trees.specs.declared.trees.OrphanTree.{OrphanTree}
use Rattle.orphan_cells.specs.Bounds.{IsRootOn}
use Rattle.orphan_cells.specs.Orphaned.{AreOrphanCells, orphan_lines}
use Rattle.orphan_cells.specs.declared.cells.OrphanCells.{OrphanCells}
use Rattle.input_pages.specs.Input.{is_utf16, left_of}
use Rattle.input_pages.specs.declared.inputs.Input.{Input}
use Rattle.db_builder.specs.Valid.{IsTable, IsValid}
use Rattle.db_builder.specs.declared.databases.OutDb.{OutDb}
use Rattle.salvaged_tables.specs.Fates.{AreFates, Failed, StoredTable, failed_of, fate_lines, lost_of, table_of}
use Rattle.salvaged_tables.specs.Salvaged.{AreValid, IsSalvage, failed_seen, lost_seen, script_of}
use Rattle.salvaged_tables.specs.Bounds.{ArePlacesOn, IsOn}
use Rattle.salvaged_tables.specs.declared.places.FailedEntry.{FailedEntry}
use Rattle.salvaged_tables.specs.declared.places.LostCell.{LostCell}
use Rattle.salvaged_tables.specs.declared.places.Placed.{Placed}
use Rattle.salvaged_tables.specs.declared.salvage.SalvagedTables.{SalvagedTables}
use Rattle.salvage_laws.specs.Stored.{bad_lost, lost_cells}
use Rattle.salvage_core.specs.Lost.{GainsLost, lost_lines, lost_tables, schema_names}
use Rattle.salvage_core.specs.Plan.{Gathers, IsFileOf, IsFilePlan, IsPagesAnswer, IsPlanBy, IsUtf16By, file_by, front_lines, header_number, input_of, pages_in, trunk_of}
use Rattle.salvage_core.specs.Sound.{IsSound, pages_of}
use Rattle.salvage_core.specs.Uses.{AreUses}
use Rattle.salvage_core.specs.declared.uses.FoundUses.{FoundUses}
use Rattle.salvage_core.specs.declared.faults.Fault.{Fault}
use Rattle.salvage_core.specs.declared.faults.Fault.TheVariants as faults
use Rattle.salvage_core.specs.declared.gathered.Gathered.{Gathered}
use Rattle.salvage_core.specs.declared.options.Options.{Options}

-- the parts of what is gathered: what the tables give, what the orphan trees give, and the table of the lost cells
pub record HasParts (o : Options) (found : Finding) (left : ℕ) (u : FoundUses) (v : SalvagedTables) (w : OrphanCells) (g : Gathered) : Type 0 where
  pub schema : g.schema.items ≡ u.uses.schema.rows.items
  pub lost : List LostCell
  pub lost_are : map lost_seen lost
      ≡ (bad_lost (map row_of u.uses.schema.bad.items) ++ map lost_seen v.lost.items) ++ map lost_seen w.lost.items
  pub lost_rows : g.lost ≡ length lost
  pub gains : GainsLost (lost_tables o.lost (schema_names u.uses.schema.rows.items) (map lost_seen lost)) v.tables.items v.places.items
      ((front_lines found left (map row_of u.uses.schema.bad.items) u.uses.schema.notes.items ++ v.lines.items) ++ w.lines.items)
      g.db.tables.items g.places.items g.lines.items
  pub user_version : g.db.user_version ≡ header_number found found.header.user_version
  pub application_id : g.db.application_id ≡ header_number found found.header.application_id
  pub script : g.script.items ≡ v.script.items
  pub trees : g.trees.items ≡ u.uses.tables.items ++ u.uses.indexes.items
  pub orphans : g.orphans.items ≡ u.orphans.trees.items
  pub failed : g.failed.items ≡ v.failed.items ++ w.failed.items
  pub uses : g.uses ≡ u.table
  pub size : g.page_size ≡ found.size
  pub origin : g.origin ≡ found.origin
  pub cut : IsSomeAnd g.geometry (λ (geo : Geometry). (geo.page_size ≡ found.size) × (geo.usable ≡ found.usable) × (geo.pages ≡ found.pages))

joined : {X : Type 0} (a b c d : List X) → ((a ++ b) ++ c) ++ d ≡ a ++ (b ++ (c ++ d))
joined a b c d = append_assoc (a ++ b) c d ∙ append_assoc a b (c ++ d)

-- they are the plan of the file
pub is_plan : (o : Options) (found : Finding) (left : ℕ) (f : File) (u : FoundUses) (v : SalvagedTables) (w : OrphanCells) (g : Gathered)
    → AreUses f (trunk_of o found) u
    → IsSalvage u.uses.schema.rows.items u.uses.readings.items (map tree_of u.uses.tables.items) (map turns_of u.uses.turns.items) v
    → AreOrphanCells (map orphan_of u.orphans.trees.items) (map turns_of u.orphans.turns.items) w
    → HasParts o found left u v w g → IsFilePlan o found left f g
is_plan o found left f u v w g uses s c p =
    let rs : List TableReading = u.uses.readings.items in
    let tables : List Tree = map tree_of u.uses.tables.items in
    let indexes : List Tree = map tree_of u.uses.indexes.items in
    let turns : List (List (ℕ × List Outcome)) = map turns_of u.uses.turns.items in
    let orphans : List Orphan = map orphan_of u.orphans.trees.items in
    let cells : List (List (ℕ × List Outcome)) = map turns_of u.orphans.turns.items in
    let bad : List Row = bad_rows f (pages_in f) in
    let notes : List (ℕ × PageNotes) = schema_notes f (pages_in f) in
    let lost : List (ℕ × Row) = lost_cells bad s.fates orphans cells in
    let names : List (List ℕ) = schema_names g.schema.items in
    let lost_is : map lost_seen p.lost ≡ lost =
    p.lost_are
    ∙ (append_assoc (bad_lost (map row_of u.uses.schema.bad.items)) (map lost_seen v.lost.items) (map lost_seen w.lost.items)
    ∙ (ap (λ (bs : List Row). bad_lost bs ++ (map lost_seen v.lost.items ++ map lost_seen w.lost.items)) uses.schema.bad_are
    ∙ (ap (λ (ls : List (ℕ × Row)). bad_lost bad ++ (ls ++ map lost_seen w.lost.items)) s.salvaged.lost
    ∙ ap (λ (ls : List (ℕ × Row)). bad_lost bad ++ (flat_map lost_of s.fates ++ ls)) c.lost_are))) in
    let told : List ReportLine = lost_lines (lost_tables o.lost (schema_names u.uses.schema.rows.items) (map lost_seen p.lost)) in
    let more : lost_tables o.lost (schema_names u.uses.schema.rows.items) (map lost_seen p.lost) ≡ lost_tables o.lost names lost =
    ap (λ (rows : List SchemaRow). lost_tables o.lost (schema_names rows) (map lost_seen p.lost)) (sym p.schema)
    ∙ ap (lost_tables o.lost names) lost_is in
    record {
      readings = rs;
      tables = tables;
      indexes = indexes;
      turns = turns;
      fates = s.fates;
      order = subst (λ (rows : List SchemaRow). AreInOrder f (pages_in f) rows rs tables indexes turns) (sym p.schema) uses.order;
      fates_are = subst (λ (rows : List SchemaRow). AreFates rows rs tables turns s.fates) (sym p.schema) s.are;
      orphans = orphans;
      cells = cells;
      orphans_are = uses.orphans;
      lost = lost;
      lost_are = refl;
      stored = p.gains.tables_are.gained s.salvaged.places
          ∙ (ap (λ (ts : List StoredTable). ts ++ lost_tables o.lost (schema_names u.uses.schema.rows.items) (map lost_seen p.lost)) s.salvaged.tables
          ∙ ap (λ (ts : List StoredTable). flat_map table_of s.fates ++ ts) more);
      user_version = p.user_version;
      application_id = p.application_id;
      lost_rows = p.lost_rows ∙ (sym (length-map p.lost lost_seen) ∙ ap length lost_is);
      script = p.script ∙ (s.salvaged.script ∙ ap (λ (rows : List SchemaRow). script_of rows s.fates) (sym p.schema));
      lines = p.gains.lines_are
          ∙ (joined (front_lines found left (map row_of u.uses.schema.bad.items) u.uses.schema.notes.items) v.lines.items w.lines.items told
          ∙ (ap (λ (bs : List Row). front_lines found left bs u.uses.schema.notes.items ++ (v.lines.items ++ (w.lines.items ++ told))) uses.schema.bad_are
          ∙ (ap (λ (ns : List (ℕ × PageNotes)). front_lines found left bad ns ++ (v.lines.items ++ (w.lines.items ++ told))) uses.schema.notes_are
          ∙ (ap (λ (ls : List ReportLine). front_lines found left bad notes ++ (ls ++ (w.lines.items ++ told))) s.salvaged.lines
          ∙ (ap (λ (ls : List ReportLine). front_lines found left bad notes ++ (flat_map fate_lines s.fates ++ (ls ++ told))) c.lines_are
          ∙ ap (λ (ts : List StoredTable). front_lines found left bad notes ++ (flat_map fate_lines s.fates ++ (orphan_lines orphans cells ++ lost_lines ts))) more)))));
      trees = ap (map tree_of) p.trees ∙ map-append tree_of u.uses.tables.items u.uses.indexes.items;
      orphan_trees = ap (map orphan_of) p.orphans;
      failed = ap (map failed_seen) p.failed
          ∙ (map-append failed_seen v.failed.items w.failed.items
          ∙ (ap (λ (fs : List Failed). fs ++ map failed_seen w.failed.items) s.salvaged.failed
          ∙ ap (λ (fs : List Failed). flat_map failed_of s.fates ++ fs) c.failed_are));
      uses = p.uses ∙ uses.moved;
      size = p.size;
      origin = p.origin;
      cut = p.cut;
    }

-- a database of valid tables
pub is_valid : (db : OutDb) (ts : Vec OutTable Global) → db.tables ≡ ts → AreValid ts.items → IsValid db
is_valid db ts e v =
    let w : AreValid db.tables.items = subst (λ (us : Vec OutTable Global). AreValid us.items) (sym e) v in record { tables = w.tables_are; names = w.names }

-- what is told of the pages of an input
pub pages_told : (opts : Options) (o : Option (List ℕ)) (found : Found) (left : ℕ) (trunk : Option ℕ) (u : FoundUses) (g : Gathered)
    → is_utf16 (finding found) ≡ false → trunk ≡ trunk_of opts (finding found)
    → ((f : File) → IsFileOf f (finding found) → AreUses f (trunk_of opts (finding found)) u → IsFilePlan opts (finding found) left f g)
    → IfSome o (λ all. AreUses (file_of all found.geometry) trunk u)
    → IfSome o (λ all. left ≡ left_of all (finding found) → IsPagesAnswer opts all (finding found) (Ok g))
pages_told opts None found left trunk u g plain same plan uses = tt
pages_told opts (Some all) found left trunk u g plain same plan uses =
    λ e. (
      plain,
      subst (λ (n : ℕ). IsFilePlan opts (finding found) n (file_by all (finding found)) g) e
          (plan (file_by all (finding found)) (record { size_is = refl; usable_is = refl; pages_is = refl })
          (subst (λ (t : Option ℕ). AreUses (file_of all found.geometry) t u) same uses)),
    )

-- and so of the input
pub input_told : (o : Options) (told : Option (List ℕ)) (i : Input) (r : Result Gathered Fault) → IfSome told (λ all. input_of o all ≡ Ok (Some (finding i.found)))
    → IfSome told (λ all. i.left ≡ left_of all (finding i.found)) → IfSome told (λ all. i.left ≡ left_of all (finding i.found) → IsPagesAnswer o all (finding i.found) r)
    → IfSome told (λ all. Gathers o all r)
input_told o None i r e left h = tt
input_told o (Some all) i (Ok g) e left h = subst (λ p. IsPlanBy o all p g) (sym e) (h left)
input_told o (Some all) i (Err (faults.Utf16 encoding)) e left h = subst (λ p. IsUtf16By encoding p) (sym e) (h left)
input_told o (Some all) i (Err faults.InputFault) e left h = tt
input_told o (Some all) i (Err faults.Memory) e left h = tt
input_told o (Some all) i (Err (faults.TooLarge len)) e left h = absurd (h left)
input_told o (Some all) i (Err faults.NoPageSize) e left h = absurd (h left)
input_told o (Some all) i (Err (faults.NoWholePage len size)) e left h = absurd (h left)
input_told o (Some all) i (Err (faults.OutputTooLarge n)) e left h = absurd (h left)
input_told o (Some all) i (Err faults.OutputFault) e left h = absurd (h left)
input_told o (Some all) i (Err faults.ScriptFault) e left h = absurd (h left)
input_told o (Some all) i (Err faults.ReportFault) e left h = absurd (h left)

-- a database without tables
pub no_tables : (db : OutDb) → db.tables.items ≡ [] → IsValid db
unfolding IsDistinct
no_tables db e = record {
  tables = subst (λ (ts : List OutTable). AllByRecursion IsTable ts) (sym e) tt;
  names = subst (λ (ts : List OutTable). IsDistinct same_name (map (λ (t : OutTable). t.name) ts)) (sym e) tt;
}

-- what is gathered of nothing
pub nothing_is_sound : (g : Gathered) → IsTrue (is_page_size g.page_size) → 512 ≤ g.page_size → g.page_size ≤ 65536
    → g.uses.pages ≡ pages_of g.geometry → length g.uses.lists ≡ 7 → g.db.tables.items ≡ [] → g.trees.items ≡ [] → g.orphans.items ≡ []
    → g.places.items ≡ [] → g.failed.items ≡ [] → IsSound g
nothing_is_sound g size least most uses lists tables trees orphans places failed = record {
  valid = no_tables g.db tables;
  few = subst (AllByRecursion (λ (t : OutTable). length t.rows.items < 2 ^ 32)) (sym tables) tt;
  size = size;
  least = least;
  most = most;
  uses = uses;
  lists = lists;
  below = subst (λ (ts : List TreeUse). AreBelow (length g.schema.items) (map tree_of ts)) (sym trees) tt;
  trees = subst (AreTreesOf g.uses.pages) (sym trees) tt;
  orphans = subst (λ (ts : List OrphanTree). AllByRecursion (IsOrphanOf g.uses.pages) (map orphan_of ts)) (sym orphans) tt;
  placed = ap (map (λ (t : OutTable). length t.rows.items)) tables ∙ sym (ap (map (λ (p : Vec Placed Global). length p.items)) places);
  places = subst (ArePlacesOn g.uses.pages) (sym places) tt;
  failed = subst (AllByRecursion (λ (e : FailedEntry). IsOn g.uses.pages e.place.page e.chain.items)) (sym failed) tt;
  roots = subst (AllByRecursion (λ (e : FailedEntry). IsRootOn g.uses.pages e.root)) (sym failed) tt;
}
