-- The pages of a plan are a well-formed tree.
use Rattle.std.proofs.Common.{◌≡◌, ◌≢◌, ◌<◌, ◌≤◌, ℕ, zero, suc, ◌+◌, ◌-◌, ◌^◌, Bool, true, false, List, [], ◌∷◌, ◌++◌, length, map, nat_eq, sum_by, refl, sym, ap, ◌∙◌, subst, arith, append-nil}
use Rattle.std.specs.Prelude.{if◌then◌else◌, None}
use Rattle.std.specs.List.{AllByRecursion}
use Rattle.std.proofs.lemmas.Bool.Decides.{nat_tests}
use Rattle.std.proofs.lemmas.List.Sums.{sum_by-cons}
use Rattle.page_access.specs.Pages.{File, page_at}
use Rattle.page_lists.specs.Lists.{count}
use Rattle.page_lists.specs.Table.{is_page}
use Rattle.cell_reader.specs.declared.shapes.Kind.{Kind}
use Rattle.cell_reader.specs.declared.shapes.Kind.TheVariants.{Table, Index}
use Rattle.tree_forms.specs.Node.{node_of}
use Rattle.tree_forms.specs.Payload.{own_of}
use Rattle.tree_forms.specs.Tree.{items_of, pages_of}
use Rattle.tree_writer.specs.Cells.{chains_from, need_of, overs}
use Rattle.tree_writer.specs.Entry.{Entry, HasBytes, Item, RowidsRise, leaf_item, weight}
use Rattle.tree_writer.specs.Layout.{pages_from, sheet_page}
use Rattle.tree_writer.specs.Levels.{Sheet, first_room, fits_first, leaf_cut, leaf_line, level_sheets, needs, pages_in, schema_sheets, schema_top, sheets_of, tree_line, tree_sheets}
use Rattle.tree_writer.specs.Trees.{schema_count, tree_count}
use Rattle.tree_writer.proofs.Rising.{line_pages, pages_overs}
use Rattle.tree_writer.proofs.Writing.{length-pages}
use Rattle.written_trees.specs.Laws.{PagesAreTree, SchemaIsTree}
use Rattle.written_trees.specs.Trees.{HoldEntries, ArePageNumbers, CanHold, HasRowid, HasPagesAt, IsTreeOf, first_then, numbers}
use Rattle.written_trees.proofs.Forests.{Forest, TreeAt, entry_of, leaf_tree, page_over}
use Rattle.written_trees.proofs.Leaves.{InRise, LeavesAre, entries_back, entries_shown, group_is, kept_all, last_order, leaf_items, leaf_reached, leaves_are, order_shown, row_entries, some_bytes}
use Rattle.written_trees.proofs.Levels.{Reached, pages-append, pages_apart, reach_top}
use Rattle.written_trees.proofs.Numbers.{Stand, count-numbers, none_below, numbers_least, numbers_once, page_same, page_there, same_number, stand_all, stand_apart}
use Rattle.written_trees.proofs.Sheets.{AreFew, IsEntry, ItemIs, SheetSays, sheet_says}

-- a tree of these entries, and of the keys between them
tree_made : (f : File) (kind : Kind) (es row : List Entry) (p d : ℕ) (n : ℕ → ℕ) (pages : List ℕ) → TreeAt f kind p d p row n → some_bytes row ≡ es
    → (kind ≡ Table → InRise None row) → ((q : ℕ) → n q ≡ count q pages) → ((q : ℕ) → count q pages ≤ (if is_page f.pages q then 1 else 0)) → IsTreeOf f kind p es pages
tree_made f kind es row p d n pages t entries_are order same once = record {
  items = items_of (node_of f) d p;
  used = pages_of (node_of f) (own_of f) d p;
  tree = record { depth = d; is_tree = t.is_tree; items_are = refl; pages_are = refl };
  order = λ table. order_shown f None (items_of (node_of f) d p) row t.shows (order table);
  holds = subst (HoldEntries f _) entries_are (entries_shown f (items_of (node_of f) d p) row t.shows);
  same = λ q. t.uses q ∙ same q;
  once = λ q. omega (arith, t.uses q, same q, once q);
}

-- ---- what the premises give

entries_each : (kind : Kind) (es : List Entry) → AllByRecursion HasBytes es → sum_by weight es ≤ 2 ^ 35 → AllByRecursion (λ (e : Entry). HasRowid kind e.rowid) es
    → AllByRecursion (IsEntry kind) es
entries_each kind [] some load rowids = tt
entries_each kind (e ∷ es) some load rowids =
    let sums = sum_by-cons weight e es in
    (record { rowid = rowids.0; some = some.0; large = omega (arith, load, sums) }, entries_each kind es some.1 (omega (arith, load, sums)) rowids.1)

each_entry : (f : File) (kind : Kind) (number : ℕ → ℕ) (total : ℕ) (es : List Entry) → CanHold f kind number total es → AllByRecursion (IsEntry kind) es
each_entry f kind number total es can = entries_each kind es can.entries_are.some can.entries_are.load can.rowids

-- a file whose pages have these numbers has page 1 too
are_few : (f : File) (number : ℕ → ℕ) (total : ℕ) → ArePageNumbers f number total → (total ≡ 0 → 1 ≤ f.pages) → AreFew f number total
are_few f number zero a some = record { are = a; more = some refl }
are_few f number (suc k) a some =
    let above = numbers_least number a.rise 2 a.some k in
    let inside : number k ≤ f.pages = a.inside k (omega arith) in
    record { are = a; more = omega (arith, above, inside) }

tree_some : (usable : ℕ) (kind : Kind) (es : List Entry) → 1 ≤ tree_count usable kind es
unfolding tree_sheets
tree_some usable kind es =
    let cut = leaf_cut usable kind es in
    let line = leaf_line usable kind es in
    omega (
      arith,
      pages_overs usable kind true cut.firsts cut.last 0,
      pages-append usable kind (sheets_of true cut 0) (level_sheets usable kind 0 (length line.cells) line),
    )

-- ---- all levels over the leaves

record TreeTop (f : File) (number : ℕ → ℕ) (kind : Kind) (r total top : ℕ) (es : List Entry) : Type 0 where
  depth : ℕ
  reached : Reached f number kind r total (row_entries f.usable kind es) depth (tree_line f.usable kind top es)
  fits : needs f.usable kind false (tree_line f.usable kind top es).cells ≤ top
  next_is : (tree_line f.usable kind top es).next ≡ pages_in f.usable kind (tree_sheets f.usable kind top es)

tree_top : (f : File) (number : ℕ → ℕ) (total : ℕ) → AreFew f number total → (kind : Kind) (r top : ℕ) (es : List Entry) → 480 ≤ f.usable → f.usable ≤ 65536
    → LeavesAre f kind total es (leaf_cut f.usable kind es).firsts (leaf_cut f.usable kind es).last → (es ≡ [] → r ≡ number (leaf_line f.usable kind es).right)
    → pages_in f.usable kind (tree_sheets f.usable kind top es) ≤ total → Stand f number 0 (pages_from f.usable kind number 0 (tree_sheets f.usable kind top es))
    → TreeTop f number kind r total top es
unfolding tree_sheets tree_line
tree_top f number total a kind r top es least most w root le s =
    let cut = leaf_cut f.usable kind es in
    let line = leaf_line f.usable kind es in
    let low = sheets_of true cut 0 in
    let up = level_sheets f.usable kind top (length line.cells) line in
    let sums = pages-append f.usable kind low up in
    let parts = pages_apart f kind number 0 low up s in
    let next : line.next ≡ 0 + pages_in f.usable kind low = line_pages f.usable kind true 0 cut.firsts cut.last 0 in
    let one = leaf_reached f number total a kind r es least most w root (omega (arith, le, sums)) parts.0 in
    let t = reach_top f number total a kind r top (row_entries f.usable kind es) (length line.cells) 0 line least most one (omega arith) (omega (arith, le, sums, next))
    (subst (λ n. Stand f number n (pages_from f.usable kind number n up)) (sym next) parts.1) in
    record { depth = t.depth; reached = t.reached; fits = t.fits; next_is = omega (arith, t.next_is, next, sums) }

-- cells that take no bytes are none
none_taken : (usable : ℕ) (kind : Kind) (xs : List Item) → needs usable kind false xs ≤ 0 → xs ≡ []
none_taken usable kind [] le = refl
none_taken usable kind (x ∷ xs) le = absurd (omega (arith, le, sum_by-cons (need_of usable kind false) x xs))

-- the root of a tree without entries is its one leaf
bare_root : (usable : ℕ) (kind : Kind) (es : List Entry) → es ≡ [] → (tree_line usable kind 0 es).right ≡ (leaf_line usable kind es).right
unfolding tree_line
bare_root usable Table [] e = refl
bare_root usable Index [] e = refl
bare_root usable kind (x ∷ xs) e = cc

pub tree_is : PagesAreTree
tree_is f kind number es can holds =
    let total = tree_count f.usable kind es in
    let a = are_few f number total can.numbers_are (λ none. absurd (omega (arith, none, tree_some f.usable kind es))) in
    let line = tree_line f.usable kind 0 es in
    let r = number line.right in
    let w = leaves_are f kind total es can.least (each_entry f kind number total es can) in
    let t = tree_top f number total a kind r 0 es can.least can.most w (λ none. ap number (bare_root f.usable kind es none)) (omega arith)
    (stand_all f number (pages_from f.usable kind number 0 (tree_sheets f.usable kind 0 es)) holds) in
    let none = none_taken f.usable kind line.cells t.fits in
    let root : TreeAt f kind r t.depth r (row_entries f.usable kind es) (λ q. count q (numbers number 0 line.next))
    = subst (λ (xs : List Item). Forest f number kind r t.depth xs line.right (row_entries f.usable kind es) (λ q. count q (numbers number 0 line.next))) none t.reached.forest in
    tree_made f kind es (row_entries f.usable kind es) r t.depth (λ q. count q (numbers number 0 line.next)) (numbers number 0 total) root w.entries_are
    (λ table. w.order table (can.rise table)) (λ q. ap (λ n. count q (numbers number 0 n)) t.next_is) (λ q. numbers_once f number total can.numbers_are q 0 total (omega arith))

-- ---- the schema's tree

-- page 1 and the numbers behind it stand once
first_once : (f : File) (number : ℕ → ℕ) (total q : ℕ) → ArePageNumbers f number total → 1 ≤ f.pages → count q (1 ∷ numbers number 0 total) ≤ (if is_page f.pages q then 1 else 0)
first_once f number total q a some = by (nat_eq 1 q) refl (numbers_once f number total a q 0 total (omega arith))
  where
    by : (b : Bool) → nat_eq 1 q ≡ b → count q (numbers number 0 total) ≤ (if is_page f.pages q then 1 else 0)
        → (if b then 1 else 0) + count q (numbers number 0 total) ≤ (if is_page f.pages q then 1 else 0)
    by true e more =
        let none = none_below number a.rise q 0 total (omega (arith, a.some, same_number 1 q e)) in
        let page = page_same f.pages 1 q e (omega arith) some in
        rw page (omega (arith, none))
    by false e more = omega (arith, more)

-- what is asked of page 1
record FirstFits (f : File) (total : ℕ) (s : Sheet) : Type 0 where
  ok : AllByRecursion (ItemIs Table s.leaf) s.items
  children : AllByRecursion (λ (x : Item). x.child ≤ total) s.items
  right : s.right ≤ total
  fits : needs f.usable Table s.leaf s.items ≤ first_room f.usable s.leaf

record FirstStands (f : File) (front : List ℕ) (number : ℕ → ℕ) (s : Sheet) (below : List Sheet) : Type 0 where
  page : page_at f 1 ≡ sheet_page front f.usable Table number (pages_in f.usable Table below) s
  below_stand : Stand f number 0 (pages_from f.usable Table number 0 below)
  over : Stand f number (pages_in f.usable Table below) (chains_from f.usable Table number (pages_in f.usable Table below) s.items)

first_stands : (f : File) (front : List ℕ) (number : ℕ → ℕ) (s : Sheet) (below : List Sheet)
    → HasPagesAt f (first_then number) (sheet_page front f.usable Table number (pages_in f.usable Table below) s
    ∷ (pages_from f.usable Table number 0 below ++ chains_from f.usable Table number (pages_in f.usable Table below) s.items))
    → FirstStands f front number s below
first_stands f front number s below holds =
    let n = pages_in f.usable Table below in
    let lows = pages_from f.usable Table number 0 below in
    let overs_of = chains_from f.usable Table number n s.items in
    let rest : HasPagesAt f number (lows ++ overs_of) = λ i lt. holds (suc i) (omega (arith, lt)) in
    let parts = stand_apart f number 0 lows overs_of (stand_all f number (lows ++ overs_of) rest) in
    let place : 0 + length lows ≡ n = omega (arith, length-pages f.usable Table number 0 below) in
    record {
      page = holds 0 (omega arith);
      below_stand = parts.0;
      over = subst (λ k. Stand f number k overs_of) place parts.1;
    }

first_says : (f : File) (front : List ℕ) (number : ℕ → ℕ) (total : ℕ) (s : Sheet) (below : List Sheet) → AreFew f number total → 480 ≤ f.usable → f.usable ≤ 65536
    → length front ≡ 100 → 1 ≤ f.pages → pages_in f.usable Table below + overs f.usable Table s.items ≤ total → FirstFits f total s → FirstStands f front number s below
    → SheetSays f number Table 1 (pages_in f.usable Table below) s
first_says f front number total s below a least most len some le w st =
    let there = page_there f.pages 1 (omega arith) some in
    sheet_says f number total a Table 1 (pages_in f.usable Table below) front s least most there len
    (record { ok = w.ok; children = w.children; right = w.right; overs_le = le; room = room s.leaf (needs f.usable Table s.leaf s.items) w.fits }) st.page st.over
  where
    room : (leaf : Bool) (n : ℕ) → n ≤ first_room f.usable leaf → 100 + (if leaf then 8 else 12) + n ≤ f.usable
    room true n fits = omega arith
    room false n fits = omega arith

-- all entries in a leaf on page 1
leaf_first : (f : File) (front : List ℕ) (number : ℕ → ℕ) (total : ℕ) (es : List Entry) → CanHold f Table number total es → length front ≡ 100 → 1 ≤ f.pages
    → needs f.usable Table true (map leaf_item es) ≤ first_room f.usable true → total ≡ overs f.usable Table (map leaf_item es)
    → FirstStands f front number (record { leaf = true; items = map leaf_item es; right = 0 }) [] → IsTreeOf f Table 1 es (1 ∷ numbers number 0 total)
leaf_first f front number total es can len some fits total_is st =
    let xs = map leaf_item es in
    let sheet : Sheet = record { leaf = true; items = xs; right = 0 } in
    let items = leaf_items Table es (each_entry f Table number total es can) in
    let g = group_is f Table total xs 0 items refl (omega (arith, fits)) in
    let says = first_says f front number total sheet [] (are_few f number total can.numbers_are (λ none. some)) can.least can.most len some (omega (arith, total_is))
    (record { ok = g.ok; children = g.children; right = omega arith; fits = fits }) st in
    let n : ℕ → ℕ = λ q. count q (1 ∷ numbers number 0 (overs f.usable Table xs)) in
    let t = leaf_tree f number Table 1 1 0 xs 0 n says (λ other. absurd (other refl)) (λ q. refl) in
    let back = entries_back es in
    let whole : some_bytes (map entry_of xs) ≡ es
    = ap some_bytes (sym (append-nil (map entry_of xs))) ∙ kept_all Table xs [] items ∙ append-nil (map entry_of xs) ∙ back in
    tree_made f Table es (map entry_of xs) 1 0 n (1 ∷ numbers number 0 total) t whole
    (λ table. last_order None xs items (subst (RowidsRise None) (sym back) (can.rise table)))
    (λ q. ap (λ m. count q (1 ∷ numbers number 0 m)) (sym total_is)) (λ q. first_once f number total q can.numbers_are some)

-- page 1 over other pages
levels_first : (f : File) (front : List ℕ) (number : ℕ → ℕ) (total : ℕ) (es : List Entry) → CanHold f Table number total es → length front ≡ 100 → 1 ≤ f.pages → es ≢ []
    → let line = tree_line f.usable Table (first_room f.usable false) es in let below = tree_sheets f.usable Table (first_room f.usable false) es in
    total ≡ pages_in f.usable Table below + overs f.usable Table line.cells
    → FirstStands f front number (record { leaf = false; items = line.cells; right = line.right }) below → IsTreeOf f Table 1 es (1 ∷ numbers number 0 total)
levels_first f front number total es can len some full total_is st =
    let top = first_room f.usable false in
    let line = tree_line f.usable Table top es in
    let below = tree_sheets f.usable Table top es in
    let sheet : Sheet = record { leaf = false; items = line.cells; right = line.right } in
    let j = pages_in f.usable Table below in
    let m = overs f.usable Table line.cells in
    let w = leaves_are f Table total es can.least (each_entry f Table number total es can) in
    let t = tree_top f number total (are_few f number total can.numbers_are (λ none. some)) Table 1 top es can.least can.most w (λ none. absurd (full none)) (omega (arith, total_is)) st.below_stand in
    let says = first_says f front number total sheet below (are_few f number total can.numbers_are (λ none. some)) can.least can.most len some (omega (arith, total_is))
    (record { ok = t.reached.good; children = t.reached.below.cells; right = t.reached.below.right; fits = t.fits }) st in
    let n : ℕ → ℕ = λ q. count q (numbers number 0 line.next) in
    let n' : ℕ → ℕ = λ q. count q (1 ∷ numbers number j m) + n q in
    let root = page_over f number Table 1 t.depth 1 j line.cells line.right (row_entries f.usable Table es) n n' says (λ other. absurd (other refl)) t.reached.forest (λ q. refl) in
    tree_made f Table es (row_entries f.usable Table es) 1 (suc t.depth) n' (1 ∷ numbers number 0 total) root w.entries_are (λ table. w.order table (can.rise table))
    (λ q. summed q line.next j m t.next_is total_is) (λ q. first_once f number total q can.numbers_are some)
  where
    summed : (q next j m : ℕ) → next ≡ j → total ≡ j + m
        → count q (1 ∷ numbers number j m) + count q (numbers number 0 next) ≡ count q (1 ∷ numbers number 0 total)
    summed q next j m a b =
        let place : 0 + j ≡ j = omega arith in
        let low : count q (numbers number 0 next) ≡ count q (numbers number 0 j) = ap (λ i. count q (numbers number 0 i)) a in
        let all : count q (numbers number 0 total) ≡ count q (numbers number 0 j) + count q (numbers number j m)
        = ap (λ i. count q (numbers number 0 i)) b ∙ count-numbers number q 0 j m ∙ ap (λ i. count q (numbers number 0 j) + count q (numbers number i m)) place in
        omega (arith, low, all)

pub schema_is : SchemaIsTree
unfolding schema_sheets schema_top
schema_is f front number es len some can holds = by (fits_first f.usable es) refl
  where
    by : (b : Bool) → fits_first f.usable es ≡ b → IsTreeOf f Table 1 es (1 ∷ numbers number 0 (schema_count f.usable es - 1))
    by true test =
        let sheets : schema_sheets f.usable es ≡ [] = rw test refl in
        let top : schema_top f.usable es ≡ record { leaf = true; items = map leaf_item es; right = 0 } = rw test refl in
        let fits : needs f.usable Table true (map leaf_item es) ≤ first_room f.usable true = grind (arith, nat_tests) in
        leaf_first f front number (schema_count f.usable es - 1) es can len some fits
        (omega (arith, ap (pages_in f.usable Table) sheets, ap (λ (s : Sheet). overs f.usable Table s.items) top))
        (subst (λ (ss : List Sheet). FirstStands f front number (record { leaf = true; items = map leaf_item es; right = 0 }) ss) sheets
        (subst (λ (s : Sheet). FirstStands f front number s (schema_sheets f.usable es)) top (first_stands f front number (schema_top f.usable es) (schema_sheets f.usable es) holds)))
    by false test =
        let room = first_room f.usable false in
        let line = tree_line f.usable Table room es in
        let sheets : schema_sheets f.usable es ≡ tree_sheets f.usable Table room es = rw test refl in
        let top : schema_top f.usable es ≡ record { leaf = false; items = line.cells; right = line.right } = rw test refl in
        let over : first_room f.usable true < needs f.usable Table true (map leaf_item es) = grind (arith, nat_tests) in
        levels_first f front number (schema_count f.usable es - 1) es can len some
        (λ none. absurd (omega (arith, over, ap (λ (t : List Entry). needs f.usable Table true (map leaf_item t)) none)))
        (omega (arith, ap (pages_in f.usable Table) sheets, ap (λ (s : Sheet). overs f.usable Table s.items) top))
        (subst (λ (ss : List Sheet). FirstStands f front number (record { leaf = false; items = line.cells; right = line.right }) ss) sheets
        (subst (λ (s : Sheet). FirstStands f front number s (schema_sheets f.usable es)) top (first_stands f front number (schema_top f.usable es) (schema_sheets f.usable es) holds)))
