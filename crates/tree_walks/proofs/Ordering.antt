-- Row by row a tree has the entries that it has by its children, and in a table tree in the same order.
use Rattle.std.proofs.Common.{◌≡◌, ℕ, zero, suc, false, Option, Some, List, [], ◌∷◌, ◌++◌, map, refl, sym, ap, ◌∙◌, subst, append-nil, append_assoc}
use Rattle.std.specs.List.{AllByRecursion, flat_map}
use Rattle.std.specs.List.Sorted.{IsPermutation}
use Rattle.std.proofs.lemmas.Grind.{flat_map-append}
use Rattle.std.proofs.lemmas.List.Sorted.{IsPermutation-append, IsPermutation-append_comm, IsPermutation-append_left, IsPermutation-append_right, IsPermutation-refl, IsPermutation-trans}
use Rattle.page_access.specs.Pages.{File, page_at}
use Rattle.page_lists.specs.Lists.{count}
use Rattle.cell_reader.specs.declared.cells.CellView.{CellView}
use Rattle.cell_reader.specs.declared.shapes.Kind.{Kind}
use Rattle.cell_reader.specs.declared.shapes.Kind.TheVariants.{Table}
use Rattle.cell_reader.specs.Inside.{has_payload}
use Rattle.page_walk.specs.Walk.{children}
use Rattle.tree_forms.specs.Node.{Held, Node, cells_in, child_of, held_of, node_of, right_in}
use Rattle.tree_forms.specs.Payload.{own_of}
use Rattle.tree_forms.specs.Tree.{IsTree, bare, items_of, row_items}
use Rattle.tree_forms.proofs.Saying.{page_read}
use Rattle.tree_walks.specs.Laws.{TreesAreRows}
use Rattle.tree_walks.specs.Rows.{all_entries, alone, entries_in, entries_on, entry_in, rows, tree_pages}
use Rattle.tree_walks.proofs.Accepted.{Sits, all_sit}
use Rattle.tree_walks.proofs.Children.{children_are}
use Rattle.tree_walks.proofs.Counting.{all_alone, all_own, tree_count}
use Rattle.tree_walks.proofs.Levels.{generation}

-- lists that are joined in another order
moved : {X : Type 0} (a b c d : List X) → IsPermutation (a ++ (b ++ (c ++ d))) ((b ++ c) ++ (a ++ d))
moved {X} a b c d =
    let front : (a ++ (b ++ c)) ++ d ≡ a ++ (b ++ (c ++ d)) = append_assoc a (b ++ c) d ∙ ap (λ (xs : List X). a ++ xs) (append_assoc b c d) in
    subst (λ (xs : List X). IsPermutation xs ((b ++ c) ++ (a ++ d))) front
    (subst (λ (xs : List X). IsPermutation ((a ++ (b ++ c)) ++ d) xs) (append_assoc (b ++ c) a d)
    (IsPermutation-append_left d (a ++ (b ++ c)) ((b ++ c) ++ a) (IsPermutation-append_comm a (b ++ c))))

crossed : {X : Type 0} (a b c d : List X) → IsPermutation ((a ++ b) ++ (c ++ d)) ((a ++ c) ++ (b ++ d))
crossed {X} a b c d =
    let inner : IsPermutation ((b ++ c) ++ d) ((c ++ b) ++ d) = IsPermutation-append_left d (b ++ c) (c ++ b) (IsPermutation-append_comm b c) in
    let outer : IsPermutation (a ++ ((b ++ c) ++ d)) (a ++ ((c ++ b) ++ d)) = IsPermutation-append_right a ((b ++ c) ++ d) ((c ++ b) ++ d) inner in
    let front : a ++ ((b ++ c) ++ d) ≡ (a ++ b) ++ (c ++ d) = ap (λ (xs : List X). a ++ xs) (append_assoc b c d) ∙ sym (append_assoc a b (c ++ d)) in
    let back : a ++ ((c ++ b) ++ d) ≡ (a ++ c) ++ (b ++ d) = ap (λ (xs : List X). a ++ xs) (append_assoc c b d) ∙ sym (append_assoc a c (b ++ d)) in
    subst (λ (xs : List X). IsPermutation xs ((a ++ c) ++ (b ++ d))) front
    (subst (λ (xs : List X). IsPermutation (a ++ ((b ++ c) ++ d)) xs) back outer)

pub same_lists : {X : Type 0} (xs ys : List X) → xs ≡ ys → IsPermutation xs ys
same_lists {X} xs ys e = subst (λ (zs : List X). IsPermutation xs zs) e (IsPermutation-refl xs)

-- the entries of a row of children
row_moved : (I : ℕ → List Held) (hs : List Held) (right : ℕ)
    → IsPermutation (entries_in (row_items I hs right)) (entries_in hs ++ flat_map (λ q. entries_in (I q)) (map child_of hs ++ right ∷ []))
row_moved I [] right = same_lists (entries_in (I right)) (entries_in (I right) ++ []) (sym (append-nil (entries_in (I right))))
row_moved I (h ∷ hs) right =
    let rest : List Held = entries_in (row_items I hs right) in
    let child : List Held = entries_in (I (child_of h)) in
    let later : List Held = flat_map (λ q. entries_in (I q)) (map child_of hs ++ right ∷ []) in
    let cut : entries_in (I (child_of h) ++ (bare h ∷ row_items I hs right)) ≡ child ++ (entry_in h ++ rest) =
    flat_map-append entry_in (I (child_of h)) (bare h ∷ row_items I hs right) in
    subst (λ (xs : List Held). IsPermutation xs ((entry_in h ++ entries_in hs) ++ (child ++ later))) (sym cut)
    (IsPermutation-trans (child ++ (entry_in h ++ rest)) (child ++ (entry_in h ++ (entries_in hs ++ later))) ((entry_in h ++ entries_in hs) ++ (child ++ later))
    (IsPermutation-append_right child (entry_in h ++ rest) (entry_in h ++ (entries_in hs ++ later))
    (IsPermutation-append_right (entry_in h) rest (entries_in hs ++ later) (row_moved I hs right)))
    (moved child (entry_in h) (entries_in hs) later))

-- the same where the cells of the row are no entries
row_same : (I : ℕ → List Held) (hs : List Held) (right : ℕ) → AllByRecursion (λ (h : Held). h.total ≡ 0) hs
    → entries_in (row_items I hs right) ≡ flat_map (λ q. entries_in (I q)) (map child_of hs ++ right ∷ [])
row_same I [] right none = sym (append-nil (entries_in (I right)))
row_same I (h ∷ hs) right none =
    let gone : entry_in h ≡ [] = rw none.0 refl in
    flat_map-append entry_in (I (child_of h)) (bare h ∷ row_items I hs right)
    ∙ ap (λ (xs : List Held). entries_in (I (child_of h)) ++ (xs ++ entries_in (row_items I hs right))) gone
    ∙ ap (λ (xs : List Held). entries_in (I (child_of h)) ++ xs) (row_same I hs right none.1)

no_entries : (hs : List Held) → AllByRecursion (λ (h : Held). h.total ≡ 0) hs → entries_in hs ≡ []
no_entries [] none = refl
no_entries (h ∷ hs) none =
    let gone : entry_in h ≡ [] = rw none.0 refl in
    ap (λ (xs : List Held). xs ++ entries_in hs) gone ∙ no_entries hs none.1

-- what f gives of the cells and the children of an interior page
abbrev Kids : File → ℕ → ℕ → List Held
Kids f d p = flat_map (λ q. entries_in (items_of (node_of f) d q)) (children f p)

page_kids : (f : File) (kind : Kind) (r d p : ℕ) (t : IsTree (node_of f) kind r (suc d) p)
    → flat_map (λ q. entries_in (items_of (node_of f) d q)) (map child_of (cells_in (node_of f p)) ++ right_in (node_of f p) ∷ []) ≡ Kids f d p
page_kids f kind r d p t =
    ap (λ o. flat_map (λ q. entries_in (items_of (node_of f) d q)) (map child_of (cells_in o) ++ right_in o ∷ [])) t.1.is
    ∙ ap (flat_map (λ q. entries_in (items_of (node_of f) d q))) (sym (children_are f kind r d p t))

page_moved : (f : File) (kind : Kind) (r d p : ℕ) → IsTree (node_of f) kind r (suc d) p
    → IsPermutation (entries_in (items_of (node_of f) (suc d) p)) (entries_on f p ++ Kids f d p)
page_moved f kind r d p t =
    subst (λ (xs : List Held). IsPermutation (entries_in (items_of (node_of f) (suc d) p)) (entries_on f p ++ xs)) (page_kids f kind r d p t)
    (row_moved (items_of (node_of f) d) (cells_in (node_of f p)) (right_in (node_of f p)))

-- the cells of an interior page of a table tree are no entries
bare_views : (page : List ℕ) (views : List CellView) → AllByRecursion (Sits false page) views → AllByRecursion (λ (h : Held). h.total ≡ 0) (map (held_of page) views)
bare_views page [] all = tt
bare_views page (v ∷ views) all = (all.0.total, bare_views page views all.1)

bare_cells : (f : File) (p : ℕ) (n : Node) → node_of f p ≡ Some n → has_payload n.kind n.leaf ≡ false → AllByRecursion (λ (h : Held). h.total ≡ 0) n.cells
bare_cells f p n is none =
    let r = page_read f p n is in
    let same : has_payload r.shape.kind r.shape.leaf ≡ false =
    ap (λ (k : Kind). has_payload k r.shape.leaf) r.kind_is ∙ ap (has_payload n.kind) r.leaf_is ∙ none in
    subst (AllByRecursion (λ (h : Held). h.total ≡ 0)) (sym r.cells_are)
    (bare_views (page_at f p) r.views
    (subst (λ b. AllByRecursion (Sits b (page_at f p)) r.views) same (all_sit (page_at f p) f.usable f.pages r.shape r.views r.kept)))

inner_cells : (f : File) (r d p : ℕ) → IsTree (node_of f) Table r (suc d) p → AllByRecursion (λ (h : Held). h.total ≡ 0) (cells_in (node_of f p))
inner_cells f r d p t =
    let none : has_payload t.0.kind t.0.leaf ≡ false = ap (λ (k : Kind). has_payload k t.0.leaf) t.1.kind_is ∙ t.1.leaf_is in
    subst (λ (o : Option Node). AllByRecursion (λ (h : Held). h.total ≡ 0) (cells_in o)) (sym t.1.is) (bare_cells f p t.0 t.1.is none)

page_same : (f : File) (r d p : ℕ) → IsTree (node_of f) Table r (suc d) p → entries_in (items_of (node_of f) (suc d) p) ≡ Kids f d p
page_same f r d p t =
    row_same (items_of (node_of f) d) (cells_in (node_of f p)) (right_in (node_of f p)) (inner_cells f r d p t) ∙ page_kids f Table r d p t

-- the same of a row of pages
row_of_pages : (f : File) (kind : Kind) (r d : ℕ) (ps : List ℕ) → AllByRecursion (IsTree (node_of f) kind r (suc d)) ps
    → IsPermutation (flat_map (λ p. entries_in (items_of (node_of f) (suc d) p)) ps)
    (all_entries f ps ++ flat_map (λ q. entries_in (items_of (node_of f) d q)) (flat_map (children f) ps))
row_of_pages f kind r d [] trees = IsPermutation-refl []
row_of_pages f kind r d (p ∷ ps) trees =
    let F : ℕ → List Held = λ q. entries_in (items_of (node_of f) d q) in
    let here : List Held = entries_in (items_of (node_of f) (suc d) p) in
    let later : List Held = flat_map (λ q. entries_in (items_of (node_of f) (suc d) q)) ps in
    let below : List Held = flat_map F (flat_map (children f) ps) in
    subst (λ (xs : List Held). IsPermutation (here ++ later) ((entries_on f p ++ all_entries f ps) ++ xs)) (sym (flat_map-append F (children f p) (flat_map (children f) ps)))
    (IsPermutation-trans (here ++ later) ((entries_on f p ++ Kids f d p) ++ (all_entries f ps ++ below)) ((entries_on f p ++ all_entries f ps) ++ (Kids f d p ++ below))
    (IsPermutation-append here (entries_on f p ++ Kids f d p) later (all_entries f ps ++ below) (page_moved f kind r d p trees.0) (row_of_pages f kind r d ps trees.1))
    (crossed (entries_on f p) (Kids f d p) (all_entries f ps) below))

same_row : (f : File) (r d : ℕ) (ps : List ℕ) → AllByRecursion (IsTree (node_of f) Table r (suc d)) ps
    → flat_map (λ p. entries_in (items_of (node_of f) (suc d) p)) ps
    ≡ flat_map (λ q. entries_in (items_of (node_of f) d q)) (flat_map (children f) ps)
same_row f r d [] trees = refl
same_row f r d (p ∷ ps) trees =
    let F : ℕ → List Held = λ q. entries_in (items_of (node_of f) d q) in
    ap (λ (xs : List Held). xs ++ flat_map (λ q. entries_in (items_of (node_of f) (suc d) q)) ps) (page_same f r d p trees.0)
    ∙ ap (λ (xs : List Held). Kids f d p ++ xs) (same_row f r d ps trees.1)
    ∙ sym (flat_map-append F (children f p) (flat_map (children f) ps))

none_on : (f : File) (r d : ℕ) (ps : List ℕ) → AllByRecursion (IsTree (node_of f) Table r (suc d)) ps → all_entries f ps ≡ []
none_on f r d [] trees = refl
none_on f r d (p ∷ ps) trees =
    ap (λ (xs : List Held). xs ++ all_entries f ps) (no_entries (cells_in (node_of f p)) (inner_cells f r d p trees.0)) ∙ none_on f r d ps trees.1

all_rows : (f : File) (kind : Kind) (r d : ℕ) (ps : List ℕ) → AllByRecursion (IsTree (node_of f) kind r d) ps
    → IsPermutation (flat_map (λ p. entries_in (items_of (node_of f) d p)) ps) (all_entries f (rows (children f) d ps))
all_rows f kind r zero ps trees = IsPermutation-refl (all_entries f ps)
all_rows f kind r (suc d) ps trees =
    let F : ℕ → List Held = λ q. entries_in (items_of (node_of f) d q) in
    let gen : List ℕ = flat_map (children f) ps in
    subst (λ (xs : List Held). IsPermutation (flat_map (λ p. entries_in (items_of (node_of f) (suc d) p)) ps) xs)
    (sym (flat_map-append (entries_on f) ps (rows (children f) d gen)))
    (IsPermutation-trans (flat_map (λ p. entries_in (items_of (node_of f) (suc d) p)) ps) (all_entries f ps ++ flat_map F gen)
    (all_entries f ps ++ all_entries f (rows (children f) d gen))
    (row_of_pages f kind r d ps trees)
    (IsPermutation-append_right (all_entries f ps) (flat_map F gen) (all_entries f (rows (children f) d gen)) (all_rows f kind r d gen (generation f kind r d ps trees))))

same_rows : (f : File) (r d : ℕ) (ps : List ℕ) → AllByRecursion (IsTree (node_of f) Table r d) ps
    → flat_map (λ p. entries_in (items_of (node_of f) d p)) ps ≡ all_entries f (rows (children f) d ps)
same_rows f r zero ps trees = refl
same_rows f r (suc d) ps trees =
    let gen : List ℕ = flat_map (children f) ps in
    same_row f r d ps trees
    ∙ same_rows f r d gen (generation f Table r d ps trees)
    ∙ ap (λ (xs : List Held). xs ++ all_entries f (rows (children f) d gen)) (sym (none_on f r d ps trees))
    ∙ sym (flat_map-append (entries_on f) ps (rows (children f) d gen))

pub trees_are_rows : TreesAreRows
unfolding tree_pages
trees_are_rows f kind p depth tree =
    let one : flat_map (λ q. entries_in (items_of (node_of f) depth q)) (p ∷ []) ≡ entries_in (items_of (node_of f) depth p) =
    append-nil (entries_in (items_of (node_of f) depth p)) in
    record {
      pages = λ q. tree_count f alone kind p depth p q tree ∙ ap (count q) (all_alone (rows (children f) depth (p ∷ [])));
      used = λ q. tree_count f (own_of f) kind p depth p q tree ∙ all_own f q (rows (children f) depth (p ∷ []));
      entries = subst (λ (xs : List Held). IsPermutation xs (all_entries f (rows (children f) depth (p ∷ [])))) one
          (all_rows f kind p depth (p ∷ []) (tree, tt));
      in_order = λ table. sym one
          ∙ same_rows f p depth (p ∷ []) (subst (λ (k : Kind). IsTree (node_of f) k p depth p) table tree, tt);
    }
