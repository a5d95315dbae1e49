-- The uses of the pages of a well-formed file, in order.
use Rattle.std.proofs.Common.{◌≡◌, ℕ, ◌+◌, Option, Some, List, ◌++◌, map, sym, ap, ◌∙◌, subst, arith}
use Rattle.std.specs.List.{AllZip, concat, flat_map}
use Rattle.page_access.specs.Pages.{File}
use Rattle.page_lists.specs.Lists.{IsPartOf, count, minus}
use Rattle.page_lists.specs.Table.{is_page}
use Rattle.page_lists.proofs.Counts.{at_most_one, count-append, count-minus}
use Rattle.page_walk.specs.Cells.{Outcome}
use Rattle.page_walk.specs.Evidence.{AreOnce}
use Rattle.page_walk.specs.Walk.{kinds_of}
use Rattle.raw_schema.specs.declared.rows.SchemaRow.{SchemaRow}
use Rattle.raw_schema.specs.Schema.{schema_pages}
use Rattle.schema_texts.specs.Readings.{AreReadings}
use Rattle.schema_texts.specs.declared.readings.TableReading.{TableReading}
use Rattle.tree_uses.specs.declared.walks.WantedTree.{WantedTree}
use Rattle.tree_uses.specs.Trees.{Tree, chains_in, pages_in, pages_of}
use Rattle.tree_uses.proofs.Splits.{trees_take_turns}
use Rattle.tree_walks.specs.Laws.{AreTurned}
use Rattle.tree_walks.specs.Rows.{all_chains}
use Rattle.tree_walks.proofs.Turning.{pages_turned}
use Rattle.use_order.specs.Order.{behind_schema, index_trees, table_tree}
use Rattle.well_formed.specs.Database.{Database}
use Rattle.well_formed.specs.Freelist.{free_pages}
use Rattle.well_formed.specs.Header.{file_in, lock_pages}
use Rattle.well_formed.specs.Spells.{IsWellFormed, all_keys}
use Rattle.well_formed_uses.specs.Laws.{IsUsed, left_unused}
use Rattle.well_formed_uses.specs.Rows.{all_unplaced}
use Rattle.well_formed_uses.specs.Trees.{IsWanted, StoredTree, chains_if, own_chains, own_pages, pages_if}
use Rattle.well_formed_uses.proofs.Indexes.{IndexesWanted, indexes_wanted}
use Rattle.well_formed_uses.proofs.Phases.{SchemaIs, chains_joined, same_joined, schema_is, some_pages, walks_are, wanted_turn}
use Rattle.well_formed_uses.proofs.Stored.{stored_is, tree_in}
use Rattle.well_formed_uses.proofs.Unplaced.{readings_same, trees_same}
use Rattle.well_formed_uses.proofs.Wanting.{Matched, matched, trees_of, trees_wanted}

-- the pages that are unused before the tables' cells have their turns
abbrev pub before_turns : File → List ℕ → List Tree → List Tree → List ℕ
before_turns f unused tables indexes = minus (minus (behind_schema f unused) (pages_in tables)) (pages_in indexes)

-- the trees that the file has, and the uses that take their pages
pub record Uses (bytes : List ℕ) (db : Database) (s : IsUsed bytes db) : Type 0 where
  pub schema : SchemaIs (file_in bytes) s.unused s.formed.rows (tree_in s.formed.schema.stored)
  pub tables_match : Matched (file_in bytes) s.formed.rows s.readings db.tables s.formed.tables_used
  pub indexes_want : IndexesWanted (file_in bytes) s.formed.rows (all_keys s.formed.keys_used) s.formed.others_used
  pub tables_are : map pages_of s.tables ≡ map (pages_if (file_in bytes)) (trees_of (file_in bytes) s.formed.rows s.readings tables_match.rows)
  pub indexes_are : map pages_of s.indexes ≡ map (own_pages (file_in bytes)) indexes_want.trees
  pub turned : AreTurned (file_in bytes) (pages_in s.tables) (before_turns (file_in bytes) s.unused s.tables s.indexes)
  pub chains_are : flat_map chains_in s.turns ≡ flat_map (chains_if (file_in bytes)) (trees_of (file_in bytes) s.formed.rows s.readings tables_match.rows)
  pub left : (q : ℕ) → count q (left_unused s) ≡ count q (flat_map (own_chains (file_in bytes)) indexes_want.trees)
      + (count q (free_pages (file_in bytes) s.formed.trunks) + count q (lock_pages (file_in bytes)))

pub uses_of : (bytes : List ℕ) (db : Database) (s : IsUsed bytes db) → Uses bytes db s
uses_of bytes db s =
    let w : IsWellFormed bytes db = s.formed in
    let unused : List ℕ = s.unused in
    let rows : List SchemaRow = s.rows in
    let rs : List TableReading = s.readings in
    let tables : List Tree = s.tables in
    let indexes : List Tree = s.indexes in
    let turns : List (List (ℕ × List Outcome)) = s.turns in
    let all = s.all in
    let o = s.order in
    let f : File = file_in bytes in
    let free : List ℕ = free_pages f w.trunks in
    let keys : List (List ℕ) = all_keys w.keys_used in
    let once : AreOnce f.pages unused = λ q. omega (arith, all q) in
    -- each page has one use
    let sum : (q : ℕ) → count q w.schema_used + (count q (concat w.tables_used) + (count q (concat keys) + (count q (concat w.others_used)
    + (count q free + count q (lock_pages f))))) ≡ count q unused =
    λ q. omega (
      arith,
      all q,
      w.uses q,
      count-append q w.schema_used (concat w.tables_used ++ (concat keys ++ (concat w.others_used ++ (free ++ lock_pages f)))),
      count-append q (concat w.tables_used) (concat keys ++ (concat w.others_used ++ (free ++ lock_pages f))),
      count-append q (concat keys) (concat w.others_used ++ (free ++ lock_pages f)),
      count-append q (concat w.others_used) (free ++ lock_pages f),
      count-append q free (lock_pages f),
    ) in
    -- the schema
    let schema = schema_is f unused w.rows w.schema_used w.schema once (λ q. omega (arith, sum q)) in
    let st : StoredTree = tree_in w.schema.stored in
    let sw = stored_is w.schema.stored in
    let found : all_unplaced rows ≡ w.rows = ap all_unplaced o.rows_are ∙ schema.rows_are in
    let spart : IsPartOf (own_pages f st) unused = λ q. omega (arith, sum q, sw.used_are q) in
    let cpart : IsPartOf (own_chains f st) (minus unused (own_pages f st)) = λ q. omega (arith, sum q, sw.used_are q, count-minus q unused (own_pages f st) spart) in
    let behind : behind_schema f unused ≡ minus (minus unused (own_pages f st)) (own_chains f st) =
    ap (minus (minus unused (schema_pages f unused))) schema.chains_are
    ∙ ap (λ (ps : List ℕ). minus (minus unused ps) (own_chains f st)) schema.pages_are in
    let b : List ℕ = behind_schema f unused in
    let at_b : (q : ℕ) → count q b + count q w.schema_used ≡ count q unused =
    λ q. omega (
      arith,
      ap (count q) behind,
      count-minus q unused (own_pages f st) spart,
      count-minus q (minus unused (own_pages f st)) (own_chains f st) cpart,
      sw.used_are q,
    ) in
    -- the trees of the tables
    let readings : AreReadings (kinds_of f) f.pages w.rows rs =
    subst (λ (xs : List SchemaRow). AreReadings (kinds_of f) f.pages xs rs) found (readings_same (kinds_of f) f.pages rows rs o.readings) in
    let m = matched f w.rows rs db.tables w.tables_used readings w.tables.tables in
    let os : List (Option StoredTree) = trees_of f w.rows rs m.rows in
    let wanted : AllZip (IsWanted f) (map table_tree rs) os = trees_wanted f w.rows rs m.rows in
    let tpart : IsPartOf (flat_map (pages_if f) os) b = λ q. omega (arith, sum q, at_b q, m.used_are q) in
    let tpages : map pages_of tables ≡ map (pages_if f) os = ap (map pages_of) o.tables_are ∙ walks_are f _ (map table_tree rs) os b wanted tpart in
    let tjoined : pages_in tables ≡ flat_map (pages_if f) os = same_joined pages_of (pages_if f) tables os tpages in
    let tpart' : IsPartOf (pages_in tables) b = subst (λ (ps : List ℕ). IsPartOf ps b) (sym tjoined) tpart in
    let c : List ℕ = minus b (pages_in tables) in
    let at_c : (q : ℕ) → count q c + count q (flat_map (pages_if f) os) ≡ count q b =
    λ q. omega (arith, count-minus q b (pages_in tables) tpart', ap (count q) tjoined) in
    -- the trees of the index rows
    let x = indexes_wanted f w.rows db.tables w.keys_used w.others_used w.keys.indexes w.keys.no_other w.others.indexes
    (λ q. omega (arith, sum q, all q, at_most_one (is_page f.pages q))) in
    let xs : List StoredTree = x.trees in
    let xos : List (Option StoredTree) = map (λ (t : StoredTree). Some t) xs in
    let xjoined : flat_map (pages_if f) xos ≡ flat_map (own_pages f) xs = same_joined (pages_if f) (own_pages f) xos xs (some_pages f xs) in
    let xwanted : AllZip (IsWanted f) (index_trees 0 rows) xos =
    subst (λ (ws : List WantedTree). AllZip (IsWanted f) ws xos) (ap (index_trees 0) (sym found) ∙ trees_same 0 rows) x.are in
    let xpart : IsPartOf (flat_map (pages_if f) xos) c = λ q. omega (arith, sum q, at_b q, at_c q, m.used_are q, x.used_are q, ap (count q) xjoined) in
    let xpages : map pages_of indexes ≡ map (own_pages f) xs =
    ap (map pages_of) o.indexes_are ∙ walks_are f _ (index_trees 0 rows) xos c xwanted xpart ∙ some_pages f xs in
    let ijoined : pages_in indexes ≡ flat_map (own_pages f) xs = same_joined pages_of (own_pages f) indexes xs xpages in
    let ipart : IsPartOf (pages_in indexes) c = λ q. omega (arith, ap (count q) ijoined, ap (count q) xjoined, xpart q) in
    let d : List ℕ = minus c (pages_in indexes) in
    let at_d : (q : ℕ) → count q d + count q (flat_map (own_pages f) xs) ≡ count q c =
    λ q. omega (arith, count-minus q c (pages_in indexes) ipart, ap (count q) ijoined) in
    -- the turns of the tables' cells
    let can = wanted_turn f (map table_tree rs) os wanted in
    let chains : all_chains f (flat_map (pages_if f) os) ≡ flat_map (chains_if f) os = chains_joined f os in
    let hpart : IsPartOf (flat_map (chains_if f) os) d = λ q. omega (arith, sum q, at_b q, at_c q, at_d q, m.used_are q, x.used_are q) in
    let turned : AreTurned f (flat_map (pages_if f) os) d =
    pages_turned f (flat_map (pages_if f) os) d can.say can.chains (λ q. omega (arith, all q, at_b q, at_c q, at_d q))
    (subst (λ (ps : List ℕ). IsPartOf ps d) (sym chains) hpart) in
    let turned' : AreTurned f (pages_in tables) d = subst (λ (ps : List ℕ). AreTurned f ps d) (sym tjoined) turned in
    let taken : flat_map chains_in turns ≡ flat_map (chains_if f) os =
    ap (flat_map chains_in) o.turns_are ∙ (trees_take_turns f tables d).chains ∙ turned'.chains ∙ ap (all_chains f) tjoined ∙ chains in
    let hpart' : IsPartOf (flat_map chains_in turns) d = subst (λ (ps : List ℕ). IsPartOf ps d) (sym taken) hpart in
    record {
      schema = schema;
      tables_match = m;
      indexes_want = x;
      tables_are = tpages;
      indexes_are = xpages;
      turned = turned';
      chains_are = taken;
      left = λ q. omega (
        arith,
        count-minus q d (flat_map chains_in turns) hpart',
        ap (count q) taken,
        sum q,
        at_b q,
        at_c q,
        at_d q,
        m.used_are q,
        x.used_are q,
      );
    }
