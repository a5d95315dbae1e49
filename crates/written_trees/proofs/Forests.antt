-- Pages over rows of trees: each level of a written tree makes trees of those below it.
use Rattle.std.proofs.Common.{◌≡◌, ◌≢◌, ℕ, suc, ◌+◌, Bool, true, false, List, [], ◌∷◌, ◌++◌, map, refl, sym, ap, ◌∙◌, subst, arith, append_assoc}
use Rattle.std.specs.List.{AllByRecursion}
use Rattle.std.proofs.lemmas.List.{map-append}
use Rattle.std.proofs.lemmas.List.Sums.{sum_by-cons}
use Rattle.page_access.specs.Pages.{File}
use Rattle.page_lists.specs.Lists.{count}
use Rattle.page_lists.proofs.Counts.{count-append}
use Rattle.cell_reader.specs.declared.shapes.Kind.{Kind}
use Rattle.tree_forms.specs.Node.{Held, cells_in, child_of, node_of, number_in, right_in}
use Rattle.tree_forms.specs.Payload.{own_of, payload_of}
use Rattle.tree_forms.specs.Tree.{IsTree, Row, bare, items_of, pages_of, row_items, row_pages}
use Rattle.tree_writer.specs.Cells.{overs, width_of}
use Rattle.tree_writer.specs.Entry.{Entry, Item}
use Rattle.tree_writer.specs.Groups.{flat_from}
use Rattle.tree_writer.specs.Levels.{Sheet, line_from, pages_in, sheets_from}
use Rattle.written_trees.specs.Trees.{HoldEntries, HoldsEntry, numbers}
use Rattle.written_trees.proofs.Numbers.{count-numbers}
use Rattle.written_trees.proofs.Sheets.{CellsShow, SheetSays}

abbrev pub entry_of : Item → Entry
entry_of x = x.entry

-- ---- cells and entries, one by one

bare_shows : (f : File) (h : Held) (e : Entry) → HoldsEntry f h e → HoldsEntry f (bare h) e
unfolding payload_of
bare_shows f h e s = record { rowid = s.rowid; total = s.total; payload = s.payload; chain = s.chain }

pub all_show-append : (f : File) (hs ks : List Held) (es ds : List Entry) → HoldEntries f hs es → HoldEntries f ks ds → HoldEntries f (hs ++ ks) (es ++ ds)
all_show-append f [] ks [] ds a b = b
all_show-append f [] ks (e ∷ es) ds a b = absurd a
all_show-append f (h ∷ hs) ks [] ds a b = absurd a
all_show-append f (h ∷ hs) ks (e ∷ es) ds a b = (a.0, all_show-append f hs ks es ds a.1 b)

leaf_show : (f : File) (number : ℕ → ℕ) (leaf : Bool) (hs : List Held) (xs : List Item) → CellsShow f number leaf hs xs → HoldEntries f hs (map entry_of xs)
leaf_show f number leaf [] [] w = tt
leaf_show f number leaf [] (x ∷ xs) w = absurd w
leaf_show f number leaf (h ∷ hs) [] w = absurd w
leaf_show f number leaf (h ∷ hs) (x ∷ xs) w = (w.0.1, leaf_show f number leaf hs xs w.1)

some_cells : (f : File) (number : ℕ → ℕ) (leaf : Bool) (hs : List Held) (xs : List Item) → CellsShow f number leaf hs xs → xs ≢ [] → hs ≢ []
some_cells f number leaf [] [] w some = λ e. some refl
some_cells f number leaf [] (x ∷ xs) w some = absurd w
some_cells f number leaf (h ∷ hs) [] w some = absurd w
some_cells f number leaf (h ∷ hs) (x ∷ xs) w some = λ e. cc

-- ---- trees and rows of them

-- page p is the root of a tree of this depth whose cells hold these entries, and page q is one of its
-- pages n q times
pub record TreeAt (f : File) (kind : Kind) (r d p : ℕ) (es : List Entry) (n : ℕ → ℕ) : Type 0 where
  pub is_tree : IsTree (node_of f) kind r d p
  pub shows : HoldEntries f (items_of (node_of f) d p) es
  pub uses : (q : ℕ) → count q (pages_of (node_of f) (own_of f) d p) ≡ n q

-- what stands before an item, and what stands behind it
pub record Branch (T U : List Entry → (ℕ → ℕ) → Type 0) (x : Item) (es : List Entry) (n : ℕ → ℕ) : Type 0 where
  pub left : List Entry
  pub rest : List Entry
  pub m : ℕ → ℕ
  pub m' : ℕ → ℕ
  pub tree : T left m
  pub forest : U rest m'
  pub es_is : es ≡ left ++ (x.entry ∷ rest)
  pub n_is : (q : ℕ) → n q ≡ m q + m' q

-- the children of items and the right-most one are trees, and the items' entries stand between theirs
abbrev pub Forest : File → (ℕ → ℕ) → Kind → ℕ → ℕ → List Item → ℕ → List Entry → (ℕ → ℕ) → Type 0
Forest f number kind r d [] right es n = TreeAt f kind r d (number right) es n
Forest f number kind r d (x ∷ xs) right es n = Branch (TreeAt f kind r d (number x.child)) (Forest f number kind r d xs right) x es n

-- a row is cut at a separator
forest_split : (f : File) (number : ℕ → ℕ) (kind : Kind) (r d : ℕ) (g : List Item) (y : Item) (rest : List Item) (right : ℕ) (es : List Entry) (n : ℕ → ℕ)
    → Forest f number kind r d (g ++ (y ∷ rest)) right es n → Branch (Forest f number kind r d g y.child) (Forest f number kind r d rest right) y es n
forest_split f number kind r d [] y rest right es n b = b
forest_split f number kind r d (x ∷ g) y rest right es n b =
    let c = forest_split f number kind r d g y rest right b.rest b.m' b.forest in
    record {
      left = b.left ++ (x.entry ∷ c.left);
      rest = c.rest;
      m = λ q. b.m q + c.m q;
      m' = c.m';
      tree = record { left = b.left; rest = c.left; m = b.m; m' = c.m; tree = b.tree; forest = c.tree; es_is = refl; n_is = λ q. refl };
      forest = c.forest;
      es_is = b.es_is ∙ ap (λ (t : List Entry). b.left ++ (x.entry ∷ t)) c.es_is ∙ sym (append_assoc b.left (x.entry ∷ c.left) (y.entry ∷ c.rest));
      n_is = λ q. omega (arith, b.n_is q, c.n_is q);
    }

-- a row under a page
record RowIs (f : File) (kind : Kind) (r d : ℕ) (hs : List Held) (right : ℕ) (es : List Entry) (n : ℕ → ℕ) : Type 0 where
  row : Row (IsTree (node_of f) kind r d) hs right
  shows : HoldEntries f (row_items (items_of (node_of f) d) hs right) es
  uses : (q : ℕ) → count q (row_pages (pages_of (node_of f) (own_of f) d) hs right) ≡ n q

row_over : (f : File) (number : ℕ → ℕ) (kind : Kind) (r d : ℕ) (hs : List Held) (xs : List Item) (p right : ℕ) (es : List Entry) (n : ℕ → ℕ)
    → CellsShow f number false hs xs → p ≡ number right → Forest f number kind r d xs right es n → RowIs f kind r d hs p es n
row_over f number kind r d [] [] p right es n w e t =
    let moved : TreeAt f kind r d p es n = subst (λ q. TreeAt f kind r d q es n) (sym e) t in
    record { row = moved.is_tree; shows = moved.shows; uses = moved.uses }
row_over f number kind r d [] (x ∷ xs) p right es n w e t = absurd w
row_over f number kind r d (h ∷ hs) [] p right es n w e t = absurd w
row_over f number kind r d (h ∷ hs) (x ∷ xs) p right es n w e b =
    let first : TreeAt f kind r d (child_of h) b.left b.m = subst (λ q. TreeAt f kind r d q b.left b.m) (sym (w.0.0 refl)) b.tree in
    let more = row_over f number kind r d hs xs p right b.rest b.m' w.1 e b.forest in
    record {
      row = (first.is_tree, more.row);
      shows = subst (HoldEntries f (items_of (node_of f) d (child_of h) ++ (bare h ∷ row_items (items_of (node_of f) d) hs p))) (sym b.es_is)
          (all_show-append f (items_of (node_of f) d (child_of h)) (bare h ∷ row_items (items_of (node_of f) d) hs p) b.left (x.entry ∷ b.rest) first.shows
          (bare_shows f h x.entry w.0.1, more.shows));
      uses = λ q.
          let pages = pages_of (node_of f) (own_of f) d (child_of h) in
          let rest = row_pages (pages_of (node_of f) (own_of f) d) hs p in
          omega (arith, count-append q pages rest, first.uses q, more.uses q, b.n_is q);
    }

-- an interior page over a row is a tree
pub page_over : (f : File) (number : ℕ → ℕ) (kind : Kind) (r d p j : ℕ) (items : List Item) (right : ℕ) (es : List Entry) (n n' : ℕ → ℕ)
    → SheetSays f number kind p j (record { leaf = false; items = items; right = right }) → (p ≢ 1 → items ≢ []) → Forest f number kind r d items right es n
    → ((q : ℕ) → n' q ≡ count q (p ∷ numbers number j (overs f.usable kind items)) + n q) → TreeAt f kind r (suc d) p es n'
page_over f number kind r d p j items right es n n' s some forest uses =
    let w = row_over f number kind r d s.node.cells items (number_in s.node.right) right es n s.cells (s.right refl) forest in
    let cells : cells_in (node_of f p) ≡ s.node.cells = ap cells_in s.is.is in
    let last : right_in (node_of f p) ≡ number_in s.node.right = ap right_in s.is.is in
    let items_are : items_of (node_of f) (suc d) p ≡ row_items (items_of (node_of f) d) s.node.cells (number_in s.node.right)
    = ap (λ (t : List Held). row_items (items_of (node_of f) d) t (right_in (node_of f p))) cells ∙ ap (row_items (items_of (node_of f) d) s.node.cells) last in
    let pages = row_pages (pages_of (node_of f) (own_of f) d) s.node.cells (number_in s.node.right) in
    let pages_are : pages_of (node_of f) (own_of f) (suc d) p ≡ (p ∷ numbers number j (overs f.usable kind items)) ++ pages
    = ap (λ (t : List Held). own_of f p ++ row_pages (pages_of (node_of f) (own_of f) d) t (right_in (node_of f p))) cells
    ∙ ap (λ m. own_of f p ++ row_pages (pages_of (node_of f) (own_of f) d) s.node.cells m) last ∙ ap (λ (t : List ℕ). t ++ pages) s.own in
    record {
      is_tree = (s.node, s.is, (λ other. some_cells f number false s.node.cells items s.cells (some other)), w.row);
      shows = subst (λ (t : List Held). HoldEntries f t es) (sym items_are) w.shows;
      uses = λ q. omega (arith, ap (count q) pages_are, count-append q (p ∷ numbers number j (overs f.usable kind items)) pages, w.uses q, uses q);
    }

-- a leaf is a tree
pub leaf_tree : (f : File) (number : ℕ → ℕ) (kind : Kind) (r p j : ℕ) (items : List Item) (right : ℕ) (n : ℕ → ℕ)
    → SheetSays f number kind p j (record { leaf = true; items = items; right = right }) → (p ≢ r → items ≢ [])
    → ((q : ℕ) → n q ≡ count q (p ∷ numbers number j (overs f.usable kind items))) → TreeAt f kind r 0 p (map entry_of items) n
leaf_tree f number kind r p j items right n s some uses =
    let cells : cells_in (node_of f p) ≡ s.node.cells = ap cells_in s.is.is in
    record {
      is_tree = (s.node, s.is, λ other. some_cells f number true s.node.cells items s.cells (some other));
      shows = subst (λ (t : List Held). HoldEntries f t (map entry_of items)) (sym cells) (leaf_show f number true s.node.cells items s.cells);
      uses = λ q. ap (count q) s.own ∙ sym (uses q);
    }

-- ---- levels

-- the pages of a level, the first of index k, say what they are made of
abbrev pub LevelSays : File → (ℕ → ℕ) → Kind → ℕ → List Sheet → Type 0
LevelSays f number kind k [] = Unit {0}
LevelSays f number kind k (s ∷ ss) = SheetSays f number kind (number k) (k + 1) s × LevelSays f number kind (k + width_of f.usable kind s.items) ss

-- no page of a level is without cells
pub record HaveCells (firsts : List (List Item × Item)) (last : List Item) : Type 0 where
  pub each : AllByRecursion (λ (g : List Item × Item). g.0 ≢ []) firsts
  pub last_some : last ≢ []

pub level_over : (f : File) (number : ℕ → ℕ) (kind : Kind) (r d k : ℕ) (firsts : List (List Item × Item)) (last : List Item) (right : ℕ) (es : List Entry) (n n' : ℕ → ℕ)
    → LevelSays f number kind k (sheets_from false firsts last right) → HaveCells firsts last → Forest f number kind r d (flat_from firsts last) right es n
    → ((q : ℕ) → n' q ≡ count q (numbers number k (pages_in f.usable kind (sheets_from false firsts last right))) + n q)
    → Forest f number kind r (suc d) (line_from (width_of f.usable kind) k firsts last).cells (line_from (width_of f.usable kind) k firsts last).right es n'
level_over f number kind r d k [] last right es n n' s some forest uses =
    let one : pages_in f.usable kind (record { leaf = false; items = last; right = right } ∷ []) ≡ width_of f.usable kind last
    = sum_by-cons (λ (t : Sheet). width_of f.usable kind t.items) (record { leaf = false; items = last; right = right }) [] ∙ omega arith in
    page_over f number kind r d (number k) (k + 1) last right es n n' s.0 (λ other. some.last_some) forest
    (λ q. uses q ∙ ap (λ m. count q (numbers number k m) + n q) one)
level_over f number kind r d k (g ∷ gs) last right es n n' s some forest uses =
    let w = width_of f.usable kind g.0 in
    let total = pages_in f.usable kind (sheets_from false gs last right) in
    let sums = sum_by-cons (λ (t : Sheet). width_of f.usable kind t.items) (record { leaf = false; items = g.0; right = g.1.child }) (sheets_from false gs last right) in
    let b = forest_split f number kind r d g.0 g.1 (flat_from gs last) right es n forest in
    let m1 : ℕ → ℕ = λ q. count q (numbers number k w) + b.m q in
    let m2 : ℕ → ℕ = λ q. count q (numbers number (k + w) total) + b.m' q in
    record {
      left = b.left;
      rest = b.rest;
      m = m1;
      m' = m2;
      tree = page_over f number kind r d (number k) (k + 1) g.0 g.1.child b.left b.m m1 s.0 (λ other. some.each.0) b.tree (λ q. refl);
      forest = level_over f number kind r d (k + w) gs last right b.rest b.m' m2 s.1 (record { each = some.each.1; last_some = some.last_some }) b.forest (λ q. refl);
      es_is = b.es_is;
      n_is = λ q. omega (arith, uses q, ap (λ m. count q (numbers number k m)) sums, count-numbers number q k w total, b.n_is q);
    }

pub leaves_over : (f : File) (number : ℕ → ℕ) (kind : Kind) (r k : ℕ) (firsts : List (List Item × Item)) (last : List Item) (right : ℕ) (n : ℕ → ℕ)
    → LevelSays f number kind k (sheets_from true firsts last right) → AllByRecursion (λ (g : List Item × Item). g.0 ≢ []) firsts
    → (number (line_from (width_of f.usable kind) k firsts last).right ≢ r → last ≢ [])
    → ((q : ℕ) → n q ≡ count q (numbers number k (pages_in f.usable kind (sheets_from true firsts last right))))
    → Forest f number kind r 0 (line_from (width_of f.usable kind) k firsts last).cells (line_from (width_of f.usable kind) k firsts last).right
    (map entry_of (flat_from firsts last)) n
leaves_over f number kind r k [] last right n s each some uses =
    let one : pages_in f.usable kind (record { leaf = true; items = last; right = right } ∷ []) ≡ width_of f.usable kind last
    = sum_by-cons (λ (t : Sheet). width_of f.usable kind t.items) (record { leaf = true; items = last; right = right }) [] ∙ omega arith in
    leaf_tree f number kind r (number k) (k + 1) last right n s.0 some (λ q. uses q ∙ ap (λ m. count q (numbers number k m)) one)
leaves_over f number kind r k (g ∷ gs) last right n s each some uses =
    let w = width_of f.usable kind g.0 in
    let total = pages_in f.usable kind (sheets_from true gs last right) in
    let sums = sum_by-cons (λ (t : Sheet). width_of f.usable kind t.items) (record { leaf = true; items = g.0; right = g.1.child }) (sheets_from true gs last right) in
    let m1 : ℕ → ℕ = λ q. count q (numbers number k w) in
    let m2 : ℕ → ℕ = λ q. count q (numbers number (k + w) total) in
    record {
      left = map entry_of g.0;
      rest = map entry_of (flat_from gs last);
      m = m1;
      m' = m2;
      tree = leaf_tree f number kind r (number k) (k + 1) g.0 g.1.child m1 s.0 (λ other. each.0) (λ q. refl);
      forest = leaves_over f number kind r (k + w) gs last right m2 s.1 each.1 some (λ q. refl);
      es_is = map-append entry_of g.0 (g.1 ∷ flat_from gs last);
      n_is = λ q. omega (arith, uses q, ap (λ m. count q (numbers number k m)) sums, count-numbers number q k w total);
    }
