-- The rows of a schema gone over, one after another.
use Rattle.std.proofs.Common.{◌≡◌, ℕ, zero, suc, ◌+◌, true, false, Some, None, List, [], ◌∷◌, ◌++◌, length, map, drop, refl, sym, ◌∙◌, ap, subst, arith, append_assoc, append-nil, Vec, Global}
use Rattle.std.specs.Prelude.{slice_get}
use Rattle.std.specs.List.{AllByRecursion, flat_map}
use Rattle.std.specs.Vec.Iter.{into_iter_items, into_iter_len}
use Rattle.std.proofs.lemmas.Grind.{flat_map-append}
use Rattle.std.proofs.lemmas.List.{drop_all}
use Rattle.page_walk.specs.InTurn.{turn_of}
use Rattle.raw_schema.specs.declared.rows.SchemaRow.{SchemaRow}
use Rattle.schema_texts.specs.Readings.{is_table, tables_from}
use Rattle.schema_texts.specs.declared.readings.TableReading.{TableReading}
use Rattle.tree_uses.specs.Trees.{tree_of, turns_of}
use Rattle.tree_uses.specs.declared.reads.TreeTurns.{TreeTurns}
use Rattle.tree_uses.specs.declared.walks.TreeUse.{TreeUse}
use Rattle.salvaged_tables.specs.declared.places.ScriptText.{ScriptText}
use Rattle.salvaged_tables.specs.declared.salvage.Left.{Left}
use Rattle.salvaged_tables.specs.declared.salvage.SalvagedTables.{SalvagedTables}
use Rattle.salvaged_tables.specs.Fates.{AreFates, TableFate, IsFate, fate_text, table_of, text_of}
use Rattle.salvaged_tables.specs.Salvaged.{IsSalvage, failed_seen, lost_seen, script_of}
use Rattle.salvaged_tables.specs.Steps.{AreFew, AreReady, GainsTable, AreSaved, fate_with, tables_in}
use Rattle.salvaged_tables.proofs.Items.{front, nothing}

-- ---- lists

-- the row in front of which so many stand
row_at : {X : Type 0} (i : ℕ) (rows : List X) (row : X) (rest : List X) → drop i rows ≡ row ∷ rest → slice_get rows i ≡ Some row
row_at zero [] row rest at = absurd (nothing row rest (sym at))
row_at zero (r ∷ rows) row rest at = ap Some (front r row rows rest at).0
row_at (suc i) [] row rest at = absurd (nothing row rest (sym at))
row_at (suc i) (r ∷ rows) row rest at = row_at i rows row rest at

none_mapped : {X Y : Type 0} (f : X → Y) (xs : List X) → map f xs ≡ [] → xs ≡ []
none_mapped f [] none = refl
none_mapped f (x ∷ xs) none = absurd (nothing _ _ none)

none_long : {X : Type 0} (xs : List X) → length xs ≡ 0 → xs ≡ []
none_long [] none = refl
none_long (x ∷ xs) none = absurd (omega (arith, none))

-- one item behind others, where both give more
flat_more : {X Y : Type 0} (f : X → List Y) (xs : List X) (x : X) (old new : List Y) → old ≡ flat_map f xs → new ≡ old ++ f x
    → new ≡ flat_map f (xs ++ x ∷ [])
flat_more {X} {Y} f xs x old new was more =
    more ∙ ap (λ (ys : List Y). ys ++ f x) was ∙ ap (λ (ys : List Y). flat_map f xs ++ ys) (sym (append-nil (f x)))
    ∙ sym (flat_map-append f xs (x ∷ []))

-- ---- the start and the end

pub starts : (rows : List SchemaRow) (rs : List TableReading) (trees : List TreeUse) (turns : List TreeTurns) (left : Left) (v : SalvagedTables)
    → into_iter_items left.readings ≡ rs → into_iter_len left.readings ≡ length rs
    → into_iter_items left.turns ≡ turns → into_iter_len left.turns ≡ length turns → left.number ≡ 0
    → map (λ (r : TableReading). r.row) rs ≡ tables_from 0 rows → length trees ≡ length rs → length turns ≡ length rs
    → AllByRecursion AreFew (map turns_of turns)
    → v.tables.items ≡ [] → v.places.items ≡ [] → v.lost.items ≡ [] → v.failed.items ≡ [] → v.script.items ≡ [] → v.lines.items ≡ []
    → AreSaved rows rs trees turns 0 left v
starts rows rs trees turns left v rs_are rs_len us_are us_len first numbers trees_len turns_len few tables places lost failed script lines = record {
  fates = [];
  are = λ rest h. subst (λ (xs : List TableReading). AreFates rows xs (map tree_of trees) (map turns_of turns) rest) rs_are
      (subst (λ (us : List TreeTurns). AreFates rows (into_iter_items left.readings) (map tree_of trees) (map turns_of us) rest) us_are
      (subst (λ (n : ℕ). AreFates rows (into_iter_items left.readings) (map tree_of (drop n trees)) (map turns_of (into_iter_items left.turns)) rest) first h));
  numbers = ap (map (λ (r : TableReading). r.row)) rs_are ∙ numbers;
  readings = rs_len ∙ ap length (sym rs_are);
  turns_left = us_len ∙ ap length (sym us_are);
  same_turns = ap length us_are ∙ turns_len ∙ ap length (sym rs_are);
  same_trees = omega (arith, first, trees_len, ap length rs_are);
  few = subst (λ (us : List TreeTurns). AllByRecursion AreFew (map turns_of us)) (sym us_are) few;
  tables = rw tables refl;
  places = rw (tables, places) refl;
  lost = ap (map lost_seen) lost;
  failed = ap (map failed_seen) failed;
  script = λ rest. ap (λ (ts : List ScriptText). ts ++ script_of rows rest) script;
  lines = lines;
}

pub ends : (rows : List SchemaRow) (rs : List TableReading) (trees : List TreeUse) (turns : List TreeTurns) (i : ℕ) (left : Left) (v : SalvagedTables)
    → drop i rows ≡ [] → AreSaved rows rs trees turns i left v → IsSalvage rows rs (map tree_of trees) (map turns_of turns) v
ends rows rs trees turns i left v all was =
    let none : into_iter_items left.readings ≡ [] =
    none_mapped (λ (r : TableReading). r.row) (into_iter_items left.readings) (was.numbers ∙ ap (tables_from i) all) in
    let no_turns : into_iter_items left.turns ≡ [] = none_long (into_iter_items left.turns) (was.same_turns ∙ ap length none) in
    let no_trees : drop left.number trees ≡ [] = drop_all left.number trees (omega (arith, was.same_trees, ap length none)) in
    let whole : was.fates ++ [] ≡ was.fates = append-nil was.fates in
    record {
      fates = was.fates;
      are = subst (AreFates rows rs (map tree_of trees) (map turns_of turns)) whole
          (was.are [] (subst (λ (xs : List TableReading). AreFates rows xs (map tree_of (drop left.number trees)) (map turns_of (into_iter_items left.turns)) []) (sym none)
          (subst (λ (ts : List TreeUse). AreFates rows [] (map tree_of ts) (map turns_of (into_iter_items left.turns)) []) (sym no_trees)
          (subst (λ (us : List TreeTurns). AreFates rows [] [] (map turns_of us) []) (sym no_turns) tt))));
      salvaged = record {
        tables = was.tables;
        places = was.places;
        lost = was.lost;
        failed = was.failed;
        script = sym (append-nil v.script.items) ∙ ap (λ (r : List SchemaRow). v.script.items ++ script_of r []) (sym all) ∙ was.script []
            ∙ ap (script_of rows) whole;
        lines = was.lines;
      };
    }

pub is_ready : (rows : List SchemaRow) (rs : List TableReading) (trees : List TreeUse) (turns : List TreeTurns) (i : ℕ) (left : Left) (v : SalvagedTables)
    → AreSaved rows rs trees turns i left v → AreReady trees left
is_ready rows rs trees turns i left v was = record { enough = omega (arith, was.same_trees, was.readings); few = was.few }

-- ---- a row

-- a row that is no table's gives its text
pub goes_other : (rows : List SchemaRow) (rs : List TableReading) (trees : List TreeUse) (turns : List TreeTurns) (i : ℕ) (left : Left)
    (v : SalvagedTables) (row : SchemaRow) (script : Vec ScriptText Global) → is_table row.kind ≡ false → drop i rows ≡ row ∷ drop (i + 1) rows
    → script.items ≡ v.script.items ++ text_of None row.sql → AreSaved rows rs trees turns i left v
    → AreSaved rows rs trees turns (i + 1) left (record v { script = script })
goes_other rows rs trees turns i left v row script isnt at more was = record {
  fates = was.fates;
  are = was.are;
  numbers = was.numbers ∙ ap (tables_from i) at ∙ (rw isnt refl);
  readings = was.readings;
  turns_left = was.turns_left;
  same_turns = was.same_turns;
  same_trees = was.same_trees;
  few = was.few;
  tables = was.tables;
  places = was.places;
  lost = was.lost;
  failed = was.failed;
  script = λ rest.
      let here : script_of (row ∷ drop (i + 1) rows) rest ≡ text_of None row.sql ++ script_of (drop (i + 1) rows) rest = rw isnt refl in
      ap (λ (ts : List ScriptText). ts ++ script_of (drop (i + 1) rows) rest) more
      ∙ append_assoc v.script.items (text_of None row.sql) (script_of (drop (i + 1) rows) rest)
      ∙ ap (λ (ts : List ScriptText). v.script.items ++ ts) (sym (ap (λ (r : List SchemaRow). script_of r rest) at ∙ here))
      ∙ was.script rest;
  lines = was.lines;
}

-- there is a reading for a table row
pub no_reading : (rows : List SchemaRow) (rs : List TableReading) (trees : List TreeUse) (turns : List TreeTurns) (i : ℕ) (left : Left)
    (v : SalvagedTables) (row : SchemaRow) → is_table row.kind ≡ true → drop i rows ≡ row ∷ drop (i + 1) rows → AreSaved rows rs trees turns i left v
    → into_iter_len left.readings ≡ 0 → ⊥
no_reading rows rs trees turns i left v row is at was none =
    let empty : into_iter_items left.readings ≡ [] = none_long (into_iter_items left.readings) (sym was.readings ∙ none) in
    let here : tables_from i (row ∷ drop (i + 1) rows) ≡ i ∷ tables_from (i + 1) (drop (i + 1) rows) = rw is refl in
    nothing _ _ (sym (sym (ap (map (λ (r : TableReading). r.row)) empty) ∙ was.numbers ∙ ap (tables_from i) at ∙ here))

pub no_turns : (rows : List SchemaRow) (rs : List TableReading) (trees : List TreeUse) (turns : List TreeTurns) (i : ℕ) (left : Left)
    (v : SalvagedTables) (row : SchemaRow) → is_table row.kind ≡ true → drop i rows ≡ row ∷ drop (i + 1) rows → AreSaved rows rs trees turns i left v
    → into_iter_len left.turns ≡ 0 → ⊥
no_turns rows rs trees turns i left v row is at was none =
    no_reading rows rs trees turns i left v row is at was (was.readings ∙ sym was.same_turns ∙ sym was.turns_left ∙ none)

-- a table row gives what its fate does
pub goes_table : (rows : List SchemaRow) (rs : List TableReading) (trees : List TreeUse) (turns : List TreeTurns) (i : ℕ) (left after : Left)
    (old new : SalvagedTables) (row : SchemaRow) (r : TableReading) (tree : TreeUse) (u : TreeTurns) (pages : List ℕ)
    → is_table row.kind ≡ true → drop i rows ≡ row ∷ drop (i + 1) rows
    → into_iter_items left.readings ≡ r ∷ into_iter_items after.readings → into_iter_len after.readings + 1 ≡ into_iter_len left.readings
    → into_iter_items left.turns ≡ u ∷ into_iter_items after.turns → into_iter_len after.turns + 1 ≡ into_iter_len left.turns
    → drop left.number trees ≡ tree ∷ drop after.number trees → after.number ≡ left.number + 1 → pages ≡ tree.pages.items
    → GainsTable row r.reading pages (map turn_of u.turns.items) old new
    → AreSaved rows rs trees turns i left old → AreSaved rows rs trees turns (i + 1) after new
goes_table rows rs trees turns i left after old new row r tree u pages is at rs_are rs_len us_are us_len ts_are next pages_are gains was =
    let f : TableFate = fate_with row r.reading pages (turns_of u) gains.part in
    let here : tables_from i (row ∷ drop (i + 1) rows) ≡ i ∷ tables_from (i + 1) (drop (i + 1) rows) = rw is refl in
    let both : (r.row ≡ i) × (map (λ (r : TableReading). r.row) (into_iter_items after.readings) ≡ tables_from (i + 1) (drop (i + 1) rows)) =
    front _ _ _ _ (sym (ap (map (λ (r : TableReading). r.row)) rs_are) ∙ was.numbers ∙ ap (tables_from i) at ∙ here) in
    let fate_is : IsFate rows r (tree_of tree) (turns_of u) f = record {
      row_is = ap (slice_get rows) both.0 ∙ row_at i rows row (drop (i + 1) rows) at;
      reading_is = refl;
      pages_are = pages_are;
      turns_are = refl;
      part_is = gains.part_is;
    } in
    let few : AllByRecursion AreFew (map turns_of (u ∷ into_iter_items after.turns)) =
    subst (λ (us : List TreeTurns). AllByRecursion AreFew (map turns_of us)) us_are was.few in
    record {
      fates = was.fates ++ f ∷ [];
      are = λ rest h. subst (AreFates rows rs (map tree_of trees) (map turns_of turns)) (sym (append_assoc was.fates (f ∷ []) rest))
          (was.are (f ∷ rest)
          (subst (λ (xs : List TableReading). AreFates rows xs (map tree_of (drop left.number trees)) (map turns_of (into_iter_items left.turns)) (f ∷ rest)) (sym rs_are)
          (subst (λ (ts : List TreeUse). AreFates rows (r ∷ into_iter_items after.readings) (map tree_of ts) (map turns_of (into_iter_items left.turns)) (f ∷ rest)) (sym ts_are)
          (subst (λ (us : List TreeTurns). AreFates rows (r ∷ into_iter_items after.readings) (map tree_of (tree ∷ drop after.number trees)) (map turns_of us) (f ∷ rest)) (sym us_are)
          (fate_is, h)))));
      numbers = both.1;
      readings = omega (arith, rs_len, was.readings, ap length rs_are);
      turns_left = omega (arith, us_len, was.turns_left, ap length us_are);
      same_turns = omega (arith, was.same_turns, ap length rs_are, ap length us_are);
      same_trees = omega (arith, was.same_trees, ap length rs_are, next);
      few = few.1;
      tables = flat_more table_of was.fates f (tables_in old) (tables_in new) was.tables (gains.gains.tables.gained was.places);
      places = gains.gains.tables.placed was.places;
      lost = flat_more _ was.fates f _ _ was.lost gains.gains.lost;
      failed = flat_more _ was.fates f _ _ was.failed gains.gains.failed;
      script = λ rest.
          let first : script_of (row ∷ drop (i + 1) rows) (f ∷ rest) ≡ fate_text f ++ script_of (drop (i + 1) rows) rest = rw is refl in
          ap (λ (ts : List ScriptText). ts ++ script_of (drop (i + 1) rows) rest) gains.gains.script
          ∙ append_assoc old.script.items (fate_text f) (script_of (drop (i + 1) rows) rest)
          ∙ ap (λ (ts : List ScriptText). old.script.items ++ ts) (sym (ap (λ (rs : List SchemaRow). script_of rs (f ∷ rest)) at ∙ first))
          ∙ was.script (f ∷ rest) ∙ ap (script_of rows) (sym (append_assoc was.fates (f ∷ []) rest));
      lines = flat_more _ was.fates f _ _ was.lines gains.gains.lines;
    }
