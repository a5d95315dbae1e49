-- Each row on a clear path is among the readable cells of its own tree.
use Rattle.std.proofs.Common.{◌≡◌, ◌≤◌, ℕ, ◌+◌, true, Option, Some, None, List, [], ◌∷◌, ◌++◌, map, slice_get, refl, sym, ◌∙◌, ap, subst, arith}
use Rattle.std.specs.Prelude.{ℤ, pos}
use Rattle.std.specs.List.{AllByRecursion, Contains, flat_map}
use Rattle.page_access.specs.Pages.{File}
use Rattle.page_lists.specs.Lists.{count, is_in, minus}
use Rattle.page_lists.proofs.Counts.{count-append, count_in, in_from_count}
use Rattle.cell_reader.specs.declared.shapes.Kind.{Kind}
use Rattle.cell_reader.specs.declared.shapes.Kind.TheVariants as kinds
use Rattle.page_walk.specs.Cells.{Outcome, Row}
use Rattle.page_walk.specs.Turns.{chains_on, turns_on}
use Rattle.page_walk.specs.Walk.{kinds_of, walk}
use Rattle.page_walk.proofs.InTurn.{chains_are}
use Rattle.page_walk.proofs.Levels.{in_front}
use Rattle.raw_schema.specs.Schema.{cells_in, schema_pages}
use Rattle.raw_schema.specs.declared.rows.SchemaRow.{SchemaRow}
use Rattle.schema_texts.specs.Readings.{AreReadings, IsReadingIn}
use Rattle.schema_texts.specs.declared.readings.TableReading.{TableReading}
use Rattle.tree_uses.specs.Trees.{Tree, chains_in, pages_in, tree_for, turns_in, walk_for, walks}
use Rattle.tree_uses.specs.declared.walks.WantedTree.{WantedTree}
use Rattle.use_order.specs.Order.{AreInOrder, behind_schema, index_trees, kind_read, table_tree}
use Rattle.use_order.specs.declared.TheConstants.{INDEX_LIST, TABLE_LIST}
use Rattle.salvaged_tables.specs.Fates.{AreFates, TableFate}
use Rattle.clear_paths.specs.Clear.{IsClearPath, Touched, all_pages, outer_numbers, overflows_on, root_number, roots_of, touched}
use Rattle.clear_paths.specs.Laws.{ClearAreRead, ClearCellsAreRead}
use Rattle.clear_paths.proofs.Measures.{times, times-append, times_part}
use Rattle.clear_paths.proofs.Moments.{IsOuter, Moment, Takes, Used, chain_used, moment_once, more_used, no_use, pages_take, takes_more, takes_none, tree_takes, tree_used, trees_take, walk_takes, wanted_roots}
use Rattle.clear_paths.proofs.Reading.{pages_read}
use Rattle.clear_paths.proofs.Room.{HasRoom, used_part}
use Rattle.clear_paths.proofs.Roots.{roots_are_part}
use Rattle.clear_paths.proofs.Touched.{pages_once}
use Rattle.clear_paths.proofs.Ways.{way_walked}

-- ---- the trees of tables, one after another

-- the moments before the next of the wanted trees is walked, and before the cells of its pages, the first of these, take
-- their turns
record AreNext (f : File) (roots : List ℕ) (a b : Used) (u v : List ℕ) (ws : List WantedTree) (pages : List ℕ) : Type 0 where
  walk_at : Moment f roots a u
  turn_at : Moment f roots b v
  walk_room : HasRoom f roots a
  turn_room : HasRoom f roots b
  roots_left : (q : ℕ) → count q a.seen + count q (wanted_roots ws) ≤ count q (outer_numbers roots)
  asked_left : (q : ℕ) → count q b.asked + times (overflows_on f) pages q ≤ times (overflows_on f) (touched f roots) q

module _ {f : File} {roots : List ℕ} {a b : Used} {u v : List ℕ} {w : WantedTree} {ws : List WantedTree} (later : List ℕ)
    (n : AreNext f roots a b u v (w ∷ ws) (walk_for f u w.root w.kind ++ later)) where
  -- its root is among those that are left
  root_left : (q : ℕ) → count q a.seen + (count q (root_number w.root) + count q (wanted_roots ws)) ≤ count q (outer_numbers roots)
  root_left q = omega (arith, n.roots_left q, count-append q (root_number w.root) (wanted_roots ws))

  pages_left : (q : ℕ) → count q b.asked + (times (overflows_on f) (walk_for f u w.root w.kind) q + times (overflows_on f) later q)
      ≤ times (overflows_on f) (touched f roots) q
  pages_left q = omega (arith, n.asked_left q, times-append (overflows_on f) (walk_for f u w.root w.kind) later q)

  tree_step : Takes f roots (tree_used (root_number w.root) (walk_for f u w.root w.kind)) u (minus u (walk_for f u w.root w.kind))
  tree_step = tree_takes f roots u w.root w.kind (moment_once f roots a u n.walk_at)
      (λ r h. in_from_count r (outer_numbers roots) (omega (arith, root_left r, count_in r (root_number w.root) h)))

  pages_touched : (p : ℕ) → is_in p (walk_for f u w.root w.kind) ≡ true → Touched f roots p
  pages_touched p there = tree_step.touched p (omega (arith, count_in p (walk_for f u w.root w.kind) there))

  -- a row on a clear path from it is read
  first_read : (kind : Kind) (row : Row) → w.kind ≡ Some kind → IsClearPath f roots w.root kind row
      → Contains (cells_in (turns_on f (walk_for f u w.root w.kind) v)) row
  first_read kind row is path =
      let on : is_in row.page (walk f u w.root kind) ≡ true =
      way_walked n.walk_at n.walk_room w.root kind row (λ q. omega (arith, root_left q)) path in
      let there : is_in row.page (walk_for f u w.root w.kind) ≡ true =
      subst (λ (k : Option Kind). is_in row.page (walk_for f u w.root k) ≡ true) (sym is) on in
      pages_read path.evidence path.chain (walk_for f u w.root w.kind) n.turn_at n.turn_room pages_touched
      (λ q. omega (arith, pages_left q)) there

  -- and the next tree is that of the next root
  others_next : AreNext f roots (more_used a (tree_used (root_number w.root) (walk_for f u w.root w.kind)))
      (more_used b (chain_used (flat_map (overflows_on f) (walk_for f u w.root w.kind)) (chains_on f (walk_for f u w.root w.kind) v)))
      (minus u (walk_for f u w.root w.kind)) (minus v (chains_in (turns_on f (walk_for f u w.root w.kind) v))) ws later
  others_next =
      let ps : List ℕ = walk_for f u w.root w.kind in
      let root : Used = tree_used (root_number w.root) ps in
      let turns : Used = chain_used (flat_map (overflows_on f) ps) (chains_on f ps v) in
      record {
        walk_at = takes_more f roots a root (all_pages f) u (minus u ps) n.walk_at tree_step;
        turn_at = subst (λ (xs : List ℕ). Moment f roots (more_used b turns) (minus v xs)) (sym (chains_are f ps v))
            (takes_more f roots b turns (all_pages f) v (minus v (chains_on f ps v)) n.turn_at
            (pages_take f roots ps v (moment_once f roots b v n.turn_at) pages_touched));
        walk_room = record {
          seen = λ q. omega (arith, root_left q, count-append q a.seen (root_number w.root));
          asked = λ q. omega (arith, n.walk_room.asked q, count-append q a.asked []);
        };
        turn_room = record {
          seen = λ q. omega (arith, n.turn_room.seen q, count-append q b.seen []);
          asked = λ q. omega (arith, pages_left q, count-append q b.asked (flat_map (overflows_on f) ps));
        };
        roots_left = λ q. omega (arith, root_left q, count-append q a.seen (root_number w.root));
        asked_left = λ q. omega (arith, pages_left q, count-append q b.asked (flat_map (overflows_on f) ps));
      }

same_root : (rows : List SchemaRow) (i : ℕ) (a b : SchemaRow) → slice_get rows i ≡ Some a → slice_get rows i ≡ Some b → a.root ≡ b.root
same_root rows i a b first next =
    let same : a ≡ b = cc in
    ap (λ (r : SchemaRow). r.root) same

fates_read : (f : File) (roots : List ℕ) (kinds : List (Option Kind)) (pages : ℕ) (rows : List SchemaRow) (list : ℕ) (rs : List TableReading)
    (a b : Used) (u v : List ℕ) (fates : List TableFate) → AllByRecursion (IsReadingIn kinds pages rows) rs
    → AreNext f roots a b u v (map table_tree rs) (pages_in (walks f list (map table_tree rs) u))
    → AreFates rows rs (walks f list (map table_tree rs) u) (turns_in f (walks f list (map table_tree rs) u) v) fates
    → AllByRecursion (ClearAreRead f roots) fates
fates_read f roots kinds pages rows list [] a b u v [] readings n are = tt
fates_read f roots kinds pages rows list [] a b u v (x ∷ fates) readings n are = absurd are
fates_read f roots kinds pages rows list (r ∷ rs) a b u v [] readings n are = absurd are
fates_read f roots kinds pages rows list (r ∷ rs) a b u v (x ∷ fates) readings n are =
    let ps : List ℕ = walk_for f u r.root (kind_read r.reading) in
    let root_is : x.row.root ≡ r.root =
    same_root rows r.row x.row readings.0.row are.0.row_is readings.0.row_is ∙ sym readings.0.root_is in (
      λ kind row is path.
          subst (λ (ts : List (ℕ × List Outcome)). Contains (cells_in ts) row) (sym are.0.turns_are)
          (first_read (pages_in (walks f list (map table_tree rs) (minus u ps))) n kind row (ap kind_read (sym are.0.reading_is) ∙ is)
          (subst (λ (z : ℤ). IsClearPath f roots z kind row) root_is path)),
      fates_read f roots kinds pages rows list rs _ _ (minus u ps) (minus v (chains_in (turns_on f ps v))) fates readings.1 (others_next (pages_in (walks f list (map table_tree rs) (minus u ps))) n) are.1,
    )

-- ---- the whole

-- the moments before the first tree of a table is walked, and before its cells take their turns
begins : (f : File) (rows : List SchemaRow) (rs : List TableReading) → AreReadings (kinds_of f) f.pages rows rs
    → (a b : Used) × AreNext f (roots_of rows) a b (behind_schema f (all_pages f))
    (minus (minus (behind_schema f (all_pages f)) (pages_in (walks f TABLE_LIST (map table_tree rs) (behind_schema f (all_pages f)))))
    (pages_in (walks f INDEX_LIST (index_trees 0 rows)
    (minus (behind_schema f (all_pages f)) (pages_in (walks f TABLE_LIST (map table_tree rs) (behind_schema f (all_pages f))))))))
    (map table_tree rs) (pages_in (walks f TABLE_LIST (map table_tree rs) (behind_schema f (all_pages f))))
begins f rows rs readings =
    let roots : List ℕ = roots_of rows in
    let part : (q : ℕ) → count q (wanted_roots (map table_tree rs)) + count q (wanted_roots (index_trees 0 rows)) ≤ count q roots =
    λ q. roots_are_part (kinds_of f) f.pages rows rs q readings in
    let u0 : List ℕ = all_pages f in
    let schema : List ℕ = schema_pages f u0 in
    let u1 : List ℕ = minus u0 schema in
    let chains : List ℕ = chains_on f schema u1 in
    let u2 : List ℕ = minus u1 chains in
    let d0 : Used = tree_used (1 ∷ []) schema in
    let m0 : Moment f roots d0 u1 = walk_takes f roots u0 (pos 1) kinds.Table (pages_once f) (λ r h. in_front r (1 ∷ []) roots h) in
    let d1 : Used = chain_used (flat_map (overflows_on f) schema) chains in
    let m1 : Takes f roots d1 u1 u2 = pages_take f roots schema u1 (moment_once f roots d0 u1 m0)
    (λ p h. m0.touched p (omega (arith, count_in p schema h))) in
    let a : Used = more_used d0 d1 in
    let ma : Moment f roots a u2 = takes_more f roots d0 d1 u0 u1 u2 m0 m1 in
    let tables : List ℕ = pages_in (walks f TABLE_LIST (map table_tree rs) u2) in
    let u3 : List ℕ = minus u2 tables in
    let d2 : Used = tree_used (wanted_roots (map table_tree rs)) tables in
    let m2 : Takes f roots d2 u2 u3 = trees_take f roots u2 TABLE_LIST (map table_tree rs) (moment_once f roots a u2 ma) (λ q. omega (arith, part q)) in
    let t : Used = more_used a d2 in
    let mt : Moment f roots t u3 = takes_more f roots a d2 u0 u2 u3 ma m2 in
    let indexes : List ℕ = pages_in (walks f INDEX_LIST (index_trees 0 rows) u3) in
    let d3 : Used = tree_used (wanted_roots (index_trees 0 rows)) indexes in
    let m3 : Takes f roots d3 u3 (minus u3 indexes) = trees_take f roots u3 INDEX_LIST (index_trees 0 rows) (moment_once f roots t u3 mt)
    (λ q. omega (arith, part q)) in
    let b : Used = more_used t d3 in
    let mb : Moment f roots b (minus u3 indexes) = takes_more f roots t d3 u0 u3 (minus u3 indexes) mt m3 in
    let schema_room : (q : ℕ) → times (overflows_on f) schema q + times (overflows_on f) tables q ≤ times (overflows_on f) (touched f roots) q =
    λ q. omega (
      arith,
      times-append (overflows_on f) schema tables q,
      times_part (overflows_on f) (schema ++ tables) (touched f roots) q
          (used_part mt (schema ++ tables) (λ r. omega (arith, count-append r schema tables, count-append r (schema ++ []) tables, count-append r schema []))),
    ) in (
      a,
      b,
      record {
        walk_at = ma;
        turn_at = mb;
        walk_room = record {
          seen = λ q. omega arith;
          asked = λ q. omega (arith, schema_room q);
        };
        turn_room = record {
          seen = λ q. omega (arith, part q, count-append q (1 ∷ wanted_roots (map table_tree rs)) (wanted_roots (index_trees 0 rows)));
          asked = λ q. omega (
            arith,
            schema_room q,
            count-append q (flat_map (overflows_on f) schema ++ []) [],
            count-append q (flat_map (overflows_on f) schema) [],
          );
        };
        roots_left = λ q. omega (arith, part q);
        asked_left = λ q. omega (
          arith,
          schema_room q,
          count-append q (flat_map (overflows_on f) schema ++ []) [],
          count-append q (flat_map (overflows_on f) schema) [],
        );
      },
    )

-- all rows on clear paths are read
pub clear_are_read : ClearCellsAreRead
clear_are_read f trunk fates orphans cells s =
    let b : List ℕ = behind_schema f (all_pages f) in
    let trees : List Tree = walks f TABLE_LIST (map table_tree s.readings) b in
    let v : List Tree → List Tree → List ℕ = λ ts is. minus (minus b (pages_in ts)) (pages_in is) in
    let is : List Tree → List Tree = λ ts. walks f INDEX_LIST (index_trees 0 s.rows) (minus b (pages_in ts)) in
    let turns : s.turns ≡ turns_in f trees (v trees (is trees)) =
    s.order.turns_are ∙ ap (λ (xs : List Tree). turns_in f s.tables (v s.tables xs)) s.order.indexes_are
    ∙ ap (λ (ts : List Tree). turns_in f ts (v ts (is ts))) s.order.tables_are in
    let n = begins f s.rows s.readings s.order.readings in
    fates_read f (roots_of s.rows) (kinds_of f) f.pages s.rows TABLE_LIST s.readings n.0 n.1 b (v trees (is trees)) fates
    s.order.readings.readings n.2
    (subst (λ (tss : List (List (ℕ × List Outcome))). AreFates s.rows s.readings trees tss fates) turns
    (subst (λ (ts : List Tree). AreFates s.rows s.readings ts s.turns fates) s.order.tables_are s.fates_are))
