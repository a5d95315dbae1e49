use Rattle.std.proofs.Common.{◌≡◌, ◌<◌, ◌∙◌, ◌++◌, ◌*◌, ◌/◌, ◌^◌, ℕ, List, Vec, Global, ap, arith, length, map, refl, subst, sym}
use Rattle.std.specs.List.{AllByRecursion}
use Rattle.std.proofs.lemmas.List.{map-append}
use Rattle.page_size.specs.Rule.{finding}
use Rattle.page_walk.specs.Cells.{Row, row_of}
use Rattle.page_walk.proofs.Going.{all_append}
use Rattle.page_walk.specs.declared.outcomes.TakenCell.{TakenCell}
use Rattle.raw_schema.specs.declared.rows.SchemaRow.{SchemaRow}
use Rattle.report_text.specs.declared.ReportLine.{ReportLine}
use Rattle.orphan_trees.specs.Orphans.{IsOrphanOf, orphan_of, tree_pages}
use Rattle.orphan_trees.specs.declared.trees.OrphanTree.{OrphanTree}
use Rattle.orphan_cells.specs.Bounds.{IsRootOn}
use Rattle.orphan_cells.specs.Orphaned.{AreOrphanCells}
use Rattle.schema_texts.specs.Readings.{AreReadings}
use Rattle.table_shape.specs.declared.rows.OutTable.{OutTable}
use Rattle.tree_uses.specs.Trees.{IsTreeOf, Tree, pages_of, tree_of, turns_of}
use Rattle.tree_uses.specs.declared.walks.TreeUse.{TreeUse}
use Rattle.use_order.specs.Order.{AreBelow, AreTreesOf}
use Rattle.salvaged_tables.specs.Bounds.{ArePlacesOn, IsLostOn, IsOn}
use Rattle.salvaged_tables.specs.Fates.{StoredTable}
use Rattle.salvaged_tables.specs.Salvaged.{HavePlaces, IsSalvage, lost_seen}
use Rattle.salvaged_tables.specs.declared.places.FailedEntry.{FailedEntry}
use Rattle.salvaged_tables.specs.declared.places.LostCell.{LostCell}
use Rattle.salvaged_tables.proofs.Within.{all_few}
use Rattle.salvage_laws.specs.Stored.{bad_lost}
use Rattle.salvage_core.specs.Lost.{AreOfSchema, GainsLost, lost_tables, schema_names}
use Rattle.salvage_core.specs.Plan.{front_lines}
use Rattle.salvage_core.proofs.Assembling.{is_plan, is_valid}
use Rattle.salvage_core.proofs.Losing.{have_few, joined_on, orphans_on, schema_on}
use Rattle.salvage_core.proofs.Naming.{salvage_named}
use Rattle.salvage_core.proofs.Rooting.{salvage_roots}
use Rattle.salvage_core.proofs.Sizing.{AreFew, all_tables_few, cells_limit, cells_within, fates_few, lost_together, trees_few}
use Rattle.salvage_core.proofs.assemble.assemble.Goals as goal

pub orphan_cells-requires-clause-few : goal.orphan_cells-requires-clause-few
orphan_cells-requires-clause-few c =
    let geo = c.args.input.now.found.geometry in
    all_few geo.usable geo.pages (map turns_of c.args.found_uses.orphans.turns.items) (omega (arith, geo.usable_most, geo.size_most)) c.requires.orphans.small

pub add_lost_table-requires-clause-few : goal.add_lost_table-requires-clause-few
add_lost_table-requires-clause-few c =
    let geo = c.args.input.now.found.geometry in
    let u = c.args.found_uses in
    have_few geo.pages c.append-5.new.self.items
    (joined_on geo.pages c.in_ok-lost.lost.items c.in_ok-salvaged.salvaged.lost.items c.in_ok-cells.cells.lost.items c.append-4.new.self.items c.append-5.new.self.items
    (schema_on geo.usable geo.pages (map row_of u.uses.schema.bad.items) c.in_ok-lost.lost.items c.requires.readings.bad c.in_ok-lost.ensures)
    (c.in_ok-salvaged.ensures.bounds geo.usable geo.pages c.requires.readings.small).lost
    (orphans_on geo.pages c.in_ok-cells.cells.lost.items
    (c.in_ok-cells.ensures.bounds geo.usable geo.pages (subst (λ (ts : List OrphanTree). AllByRecursion (IsOrphanOf geo.pages) (map orphan_of ts)) (sym c.deref-5.ensures.value) c.requires.orphans.trees)
    c.requires.orphans.small).lost
    (c.in_ok-cells.ensures.fields geo.usable geo.pages c.requires.orphans.small))
    c.in_ok-append-4.ensures.items c.in_ok-append-5.ensures.items)

pub returns-clause-plan : goal.returns-clause-plan
returns-clause-plan c = λ f cut uses.
    let u = c.args.found_uses in
    let found = c.args.input.now.found in
    let v = c.in_ok-salvaged.salvaged in
    let w = c.in_ok-cells.cells in
    let bad = map row_of u.uses.schema.bad.items in
    let notes = u.uses.schema.notes.items in
    let lost = c.append-5.new.self.items in
    let front : c.in_ok-lines.lines.items ≡ front_lines (finding found) c.args.input.now.left bad notes =
    c.in_ok-lines.ensures
    ∙ (ap (λ (cells : List TakenCell). front_lines (finding found) c.args.input.now.left (map row_of cells) c.deref-2.result.now) c.deref.ensures.value
    ∙ ap (λ ns. front_lines (finding found) c.args.input.now.left bad ns) c.deref-2.ensures.value) in
    let before : c.append-2.new.self.items ≡ (front_lines (finding found) c.args.input.now.left bad notes ++ v.lines.items) ++ w.lines.items =
    c.in_ok-append-2.ensures.items ∙ ap (λ (ls : List ReportLine). ls ++ w.lines.items)
    (c.in_ok-append.ensures.items ∙ ap (λ (ls : List ReportLine). ls ++ v.lines.items) front) in
    let seen : map lost_seen lost ≡ (bad_lost bad ++ map lost_seen v.lost.items) ++ map lost_seen w.lost.items =
    ap (map lost_seen) c.in_ok-append-5.ensures.items ∙ (map-append lost_seen c.append-4.new.self.items w.lost.items
    ∙ ap (λ (ls : List (ℕ × Row)). ls ++ map lost_seen w.lost.items)
    (ap (map lost_seen) c.in_ok-append-4.ensures.items ∙ (map-append lost_seen c.in_ok-lost.lost.items v.lost.items
    ∙ ap (λ (ls : List (ℕ × Row)). ls ++ map lost_seen v.lost.items) c.in_ok-lost.ensures))) in
    is_plan c.args.opts.now (finding found) c.args.input.now.left f u v w _ uses
    (subst (λ (ts : List TreeUse). IsSalvage u.uses.schema.rows.items u.uses.readings.items (map tree_of ts) (map turns_of u.uses.turns.items) v) c.deref-4.ensures.value
    (subst (λ (rows : List SchemaRow). IsSalvage rows u.uses.readings.items (map tree_of c.deref-4.result.now) (map turns_of u.uses.turns.items) v) c.deref-3.ensures.value
    c.in_ok-salvaged.ensures.salvage))
    (subst (λ (ts : List OrphanTree). AreOrphanCells (map orphan_of ts) (map turns_of u.orphans.turns.items) w) c.deref-5.ensures.value c.in_ok-cells.ensures.cells)
    (record {
      schema = refl;
      lost = lost;
      lost_are = seen;
      lost_rows = c.len-lost_rows.ensures ∙ c.append-5.new.self.ok.0;
      gains = subst (λ (ts : Vec OutTable Global). GainsLost (lost_tables c.args.opts.now.lost (schema_names u.uses.schema.rows.items) (map lost_seen lost))
          v.tables.items v.places.items ((front_lines (finding found) c.args.input.now.left bad notes ++ v.lines.items) ++ w.lines.items)
          ts.items c.add_lost_table.new.places.items c.add_lost_table.new.lines.items) (sym c.database.ensures.tables)
          (subst (λ (ls : List ReportLine). GainsLost (lost_tables c.args.opts.now.lost (schema_names u.uses.schema.rows.items) (map lost_seen lost))
          v.tables.items v.places.items ls c.add_lost_table.new.tables.items c.add_lost_table.new.places.items c.add_lost_table.new.lines.items) before
          (subst (λ (rows : List SchemaRow). GainsLost (lost_tables c.args.opts.now.lost (schema_names rows) (map lost_seen lost))
          v.tables.items v.places.items c.append-2.new.self.items c.add_lost_table.new.tables.items c.add_lost_table.new.places.items
          c.add_lost_table.new.lines.items) c.deref-6.ensures.value c.in_ok-add_lost_table.ensures.added));
      user_version = c.database.ensures.user_version;
      application_id = c.database.ensures.application_id;
      script = refl;
      trees = c.in_ok-append-6.ensures.items;
      orphans = refl;
      failed = c.in_ok-append-3.ensures.items;
      uses = refl;
      size = refl;
      origin = refl;
      cut = (refl, refl, refl);
    })

pub returns-clause-sound : goal.returns-clause-sound
returns-clause-sound c =
    let u = c.args.found_uses in
    let geo = c.args.input.now.found.geometry in
    let v = c.in_ok-salvaged.salvaged in
    let w = c.in_ok-cells.cells in
    let rows = u.uses.schema.rows.items in
    let same : u.table.pages ≡ geo.pages = c.requires.lists.0 in
    let rs = c.requires.readings in
    let bounds = c.in_ok-salvaged.ensures.bounds geo.usable geo.pages rs.small in
    let orphan_bounds = c.in_ok-cells.ensures.bounds geo.usable geo.pages
    (subst (λ (ts : List OrphanTree). AllByRecursion (IsOrphanOf geo.pages) (map orphan_of ts)) (sym c.deref-5.ensures.value) c.requires.orphans.trees) c.requires.orphans.small in
    let lost_on : AllByRecursion (IsLostOn geo.pages) c.append-5.new.self.items =
    joined_on geo.pages c.in_ok-lost.lost.items v.lost.items w.lost.items c.append-4.new.self.items c.append-5.new.self.items
    (schema_on geo.usable geo.pages (map row_of u.uses.schema.bad.items) c.in_ok-lost.lost.items rs.bad c.in_ok-lost.ensures)
    bounds.lost (orphans_on geo.pages w.lost.items orphan_bounds.lost (c.in_ok-cells.ensures.fields geo.usable geo.pages c.requires.orphans.small))
    c.in_ok-append-4.ensures.items c.in_ok-append-5.ensures.items in
    let all_trees : map tree_of c.append-6.new.self.items ≡ map tree_of u.uses.tables.items ++ map tree_of u.uses.indexes.items =
    ap (map tree_of) c.in_ok-append-6.ensures.items ∙ map-append tree_of u.uses.tables.items u.uses.indexes.items in
    let n : ℕ = geo.pages * (geo.usable / 2) in
    let salvage = c.in_ok-salvaged.ensures.salvage in
    let few : AreFew n salvage.fates =
    fates_few n c.deref-3.result.now u.uses.readings.items (map tree_of c.deref-4.result.now) (map turns_of u.uses.turns.items) salvage.fates salvage.are
    (cells_within geo.usable geo.pages _ _ (trees_few geo.usable geo.pages pages_of (map tree_of u.uses.tables.items) (map turns_of u.uses.turns.items)
    rs.each rs.small) rs.few) in
    let named : AreOfSchema c.deref-6.result.now v.tables.items =
    subst (λ (rs : List SchemaRow). AreOfSchema rs v.tables.items) (c.deref-3.ensures.value ∙ sym c.deref-6.ensures.value)
    (salvage_named c.deref-3.result.now u.uses.readings.items (map tree_of c.deref-4.result.now) (map turns_of u.uses.turns.items) v c.in_ok-salvaged.ensures.salvage) in
    record {
      valid = is_valid c.database.result _ c.database.ensures.tables
          (c.in_ok-add_lost_table.ensures.valid
          (c.in_ok-salvaged.ensures.valid rs.kinds geo.pages
          (subst (λ (rows : List SchemaRow). AreReadings rs.kinds geo.pages rows u.uses.readings.items) (sym c.deref-3.ensures.value) rs.readings)) named);
      few = subst (λ (ts : Vec OutTable Global). AllByRecursion (λ (t : OutTable). length t.rows.items < 2 ^ 32) ts.items) (sym c.database.ensures.tables)
          (all_tables_few n c.args.opts.now.lost (schema_names c.deref-6.result.now) c.append-5.new.self.items c.add_lost_table.new.tables.items
          c.add_lost_table.new.places.items salvage.fates
          (cells_limit geo.usable geo.pages geo.page_size c.args.input.now.left geo.usable_most c.requires.within.fits) few
          (lost_together n u.uses.schema.bad.items salvage.fates (map orphan_of c.deref-5.result.now) (map turns_of u.orphans.turns.items)
          c.in_ok-lost.lost.items v.lost.items w.lost.items c.append-4.new.self.items c.append-5.new.self.items rs.few_bad few
          (cells_within geo.usable geo.pages _ _ (trees_few geo.usable geo.pages tree_pages (map orphan_of u.orphans.trees.items) (map turns_of u.orphans.turns.items)
          c.requires.orphans.each c.requires.orphans.small) c.requires.orphans.few)
          c.in_ok-lost.ensures salvage.salvaged.lost c.in_ok-cells.ensures.cells.lost_are c.in_ok-append-4.ensures.items c.in_ok-append-5.ensures.items)
          (c.in_ok-add_lost_table.ensures.added.tables_are.placed salvage.salvaged.places)
          (c.in_ok-add_lost_table.ensures.added.tables_are.gained salvage.salvaged.places
          ∙ ap (λ (ts : List StoredTable). ts ++ lost_tables c.args.opts.now.lost (schema_names c.deref-6.result.now) (map lost_seen c.append-5.new.self.items))
          salvage.salvaged.tables));
      size = geo.size_power;
      least = geo.size_least;
      most = geo.size_most;
      uses = same;
      lists = c.requires.lists.1;
      below = subst (AreBelow (length rows)) (sym all_trees)
          (all_append (λ (t : Tree). t.row < length rows) (map tree_of u.uses.tables.items) (map tree_of u.uses.indexes.items)
          rs.matched.tables_below rs.matched.indexes_below);
      trees = subst (AllByRecursion (IsTreeOf u.table.pages)) (sym all_trees)
          (subst (λ (n : ℕ). AllByRecursion (IsTreeOf n) (map tree_of u.uses.tables.items ++ map tree_of u.uses.indexes.items)) (sym same)
          (all_append (IsTreeOf geo.pages) (map tree_of u.uses.tables.items) (map tree_of u.uses.indexes.items) rs.tables rs.indexes));
      orphans = subst (λ (n : ℕ). AllByRecursion (IsOrphanOf n) (map orphan_of u.orphans.trees.items)) (sym same) c.requires.orphans.trees;
      placed = subst (λ (ts : Vec OutTable Global). HavePlaces ts.items c.add_lost_table.new.places.items) (sym c.database.ensures.tables)
          (c.in_ok-add_lost_table.ensures.added.tables_are.placed c.in_ok-salvaged.ensures.salvage.salvaged.places);
      places = subst (λ (n : ℕ). ArePlacesOn n c.add_lost_table.new.places.items) (sym same)
          (c.in_ok-add_lost_table.ensures.bounds geo.pages bounds.places lost_on);
      failed = subst (λ (n : ℕ). AllByRecursion (λ (e : FailedEntry). IsOn n e.place.page e.chain.items) c.append-3.new.self.items) (sym same)
          (subst (AllByRecursion (λ (e : FailedEntry). IsOn geo.pages e.place.page e.chain.items)) (sym c.in_ok-append-3.ensures.items)
          (all_append (λ (e : FailedEntry). IsOn geo.pages e.place.page e.chain.items) v.failed.items w.failed.items bounds.failed orphan_bounds.failed));
      roots = subst (λ (n : ℕ). AllByRecursion (λ (e : FailedEntry). IsRootOn n e.root) c.append-3.new.self.items) (sym same)
          (subst (AllByRecursion (λ (e : FailedEntry). IsRootOn geo.pages e.root)) (sym c.in_ok-append-3.ensures.items)
          (all_append (λ (e : FailedEntry). IsRootOn geo.pages e.root) v.failed.items w.failed.items
          (salvage_roots geo.pages c.deref-3.result.now u.uses.readings.items (map tree_of u.uses.tables.items) (map turns_of u.uses.turns.items) v
          rs.each rs.tables (subst (λ (ts : List TreeUse). IsSalvage c.deref-3.result.now u.uses.readings.items (map tree_of ts) (map turns_of u.uses.turns.items) v)
          c.deref-4.ensures.value salvage))
          orphan_bounds.failed_roots));
    }
