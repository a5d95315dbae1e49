-- The entries of a tree take as many bytes of its pages at least: their payloads, and their numbers and pointers.
use Rattle.std.proofs.Common.{◌≡◌, ◌≤◌, ℕ, zero, suc, ◌+◌, ◌-◌, ◌*◌, ◌==◌, Bool, true, false, Option, List, [], ◌∷◌, ◌++◌, length, map, take, drop, sum_by, refl, sym, ap, subst, ◌∙◌, arith, length-append, length-take}
use Rattle.std.specs.Prelude.{if◌then◌else◌}
use Rattle.std.specs.List.{flat_map}
use Rattle.std.proofs.lemmas.List.Sums.{sum_by-cons}
use Rattle.page_access.specs.Pages.{File, page_at}
use Rattle.cell_reader.specs.declared.shapes.Kind.{Kind}
use Rattle.cell_reader.specs.declared.cells.CellView.{CellView}
use Rattle.cell_reader.specs.Screen.{Accepts}
use Rattle.overflow_chain.specs.Chain.{contents}
use Rattle.tree_forms.specs.Laws.{IsRead}
use Rattle.tree_forms.specs.Node.{Held, Node, cells_in, child_of, held_of, node_of, number_in, right_in}
use Rattle.tree_forms.specs.Payload.{chain_of, missing_of, own_of, payload_of}
use Rattle.tree_forms.specs.Tree.{Holds, IsTree, Row, bare, entries, items_of, pages_of, row_items, row_pages}
use Rattle.tree_forms.proofs.Saying.{page_read}
use Rattle.well_formed.specs.Stored.{IsStored}
use Rattle.page_room.proofs.Pages.{contents_len, pages_more}
use Rattle.page_room.specs.Room.{HasRoom, accepted, locals, number_bytes}
use Rattle.page_room.proofs.Sizes.{more_bytes, page_room}

-- the bytes of a file that an entry of a tree of this kind takes at least: its payload, its numbers and its pointer
abbrev pub cost : File → Kind → Held → ℕ
cost f kind h = length (payload_of f h) + (number_bytes kind + 2)

-- those on its page
abbrev local_cost : Kind → Held → ℕ
local_cost kind h = length h.local + (number_bytes kind + 2)

-- ---- a page

views_cost : (kind : Kind) (page : List ℕ) (views : List CellView)
    → sum_by (local_cost kind) (map (held_of page) views)
    ≤ locals (map Accepts views) + accepted (map Accepts views) * number_bytes kind + 2 * accepted (map Accepts views)
views_cost kind page [] = omega arith
views_cost kind page (v ∷ views) =
    omega (
      arith,
      views_cost kind page views,
      sum_by-cons (local_cost kind) (held_of page v) (map (held_of page) views),
      length-take (v.local_end - v.local_start) (drop v.local_start page),
      more_bytes (accepted (map Accepts views)) (number_bytes kind),
    )

page_cost : (f : File) (p : ℕ) (n : Node) → IsRead f p n → sum_by (local_cost n.kind) n.cells + 8 ≤ f.usable
page_cost f p n r =
    let room : HasRoom r.shape.kind f.usable (map Accepts r.views) =
    subst (HasRoom r.shape.kind f.usable) r.kept (page_room (page_at f p) p f.usable f.pages r.shape r.has_shape) in
    let whole : sum_by (local_cost r.shape.kind) (map (held_of (page_at f p)) r.views) + 8 ≤ f.usable =
    omega (arith, room.whole, views_cost r.shape.kind (page_at f p) r.views) in
    subst (λ (k : Kind). sum_by (local_cost k) n.cells + 8 ≤ f.usable) r.kind_is
    (subst (λ (hs : List Held). sum_by (local_cost r.shape.kind) hs + 8 ≤ f.usable) (sym r.cells_are) whole)

-- a payload has its local bytes and those of its overflow pages
entry_cost : (f : File) (kind : Kind) (h : Held) → cost f kind h ≤ local_cost kind h + length (chain_of f h) * f.usable
unfolding payload_of
entry_cost f kind h =
    omega (
      arith,
      length-append h.local (take (missing_of h) (contents f (chain_of f h))),
      length-take (missing_of h) (contents f (chain_of f h)),
      contents_len f (chain_of f h),
    )

cells_cost : (f : File) (kind : Kind) (hs : List Held)
    → sum_by (cost f kind) hs ≤ sum_by (local_cost kind) hs + length (flat_map (chain_of f) hs) * f.usable
cells_cost f kind [] = omega arith
cells_cost f kind (h ∷ hs) =
    let pages : length (chain_of f h ++ flat_map (chain_of f) hs) * f.usable ≡ length (chain_of f h) * f.usable + length (flat_map (chain_of f) hs) * f.usable =
    ap (λ n. n * f.usable) (length-append (chain_of f h) (flat_map (chain_of f) hs)) ∙ pages_more (length (chain_of f h)) (length (flat_map (chain_of f) hs)) f.usable in
    omega (
      arith,
      entry_cost f kind h,
      cells_cost f kind hs,
      pages,
      sum_by-cons (cost f kind) h hs,
      sum_by-cons (local_cost kind) h hs,
    )

-- ---- entries

entries_least : (g : Held → ℕ) (hs : List Held) → sum_by g (entries hs) ≤ sum_by g hs
entries_least g [] = omega arith
entries_least g (h ∷ hs) = by (h.total == 0) (entries_least g hs)
  where
    by : (b : Bool) → sum_by g (entries hs) ≤ sum_by g hs → sum_by g (if b then entries hs else h ∷ entries hs) ≤ sum_by g (h ∷ hs)
    by true more = omega (arith, more, sum_by-cons g h hs)
    by false more = omega (arith, more, sum_by-cons g h hs, sum_by-cons g h (entries hs))

entries_join : (g : Held → ℕ) (xs ys : List Held) → sum_by g (entries (xs ++ ys)) ≡ sum_by g (entries xs) + sum_by g (entries ys)
entries_join g [] ys = omega arith
entries_join g (h ∷ hs) ys = by (h.total == 0) (entries_join g hs ys)
  where
    by : (b : Bool) → sum_by g (entries (hs ++ ys)) ≡ sum_by g (entries hs) + sum_by g (entries ys)
        → sum_by g (if b then entries (hs ++ ys) else h ∷ entries (hs ++ ys)) ≡ sum_by g (if b then entries hs else h ∷ entries hs) + sum_by g (entries ys)
    by true more = more
    by false more = omega (arith, more, sum_by-cons g h (entries (hs ++ ys)), sum_by-cons g h (entries hs))

bare_cost : (f : File) (kind : Kind) (h : Held) → cost f kind (bare h) ≡ cost f kind h
unfolding payload_of
bare_cost f kind h = refl

-- a cell more, with its child or without
entries_bare : (f : File) (kind : Kind) (h : Held) (xs ys : List Held)
    → sum_by (cost f kind) (entries (bare h ∷ xs)) + sum_by (cost f kind) (entries ys) ≡ sum_by (cost f kind) (entries (h ∷ ys)) + sum_by (cost f kind) (entries xs)
entries_bare f kind h xs ys = by (h.total == 0)
  where
    by : (b : Bool) → sum_by (cost f kind) (if b then entries xs else bare h ∷ entries xs) + sum_by (cost f kind) (entries ys)
        ≡ sum_by (cost f kind) (if b then entries ys else h ∷ entries ys) + sum_by (cost f kind) (entries xs)
    by true = omega arith
    by false = omega (arith, bare_cost f kind h, sum_by-cons (cost f kind) (bare h) (entries xs), sum_by-cons (cost f kind) h (entries ys))

-- ---- trees

-- these entries have room on so many pages, and are no more than eight bytes short of them
abbrev FitPages : File → Kind → List Held → List ℕ → Type 0
FitPages f kind items pages = sum_by (cost f kind) (entries items) + 8 ≤ length pages * f.usable

own_fits : (f : File) (kind : Kind) (leaf : Bool) (p : ℕ) (n : Node) → Holds (node_of f) kind leaf p n → FitPages f kind (cells_in (node_of f p)) (own_of f p)
unfolding own_of
own_fits f kind leaf p n h =
    let read = page_cost f p n (page_read f p n h.is) in
    let here : sum_by (local_cost kind) n.cells + 8 ≤ f.usable = subst (λ (k : Kind). sum_by (local_cost k) n.cells + 8 ≤ f.usable) h.kind_is read in
    let fits : sum_by (cost f kind) (entries n.cells) + 8 ≤ length (p ∷ flat_map (chain_of f) n.cells) * f.usable =
    omega (
      arith,
      here,
      entries_least (cost f kind) n.cells,
      cells_cost f kind n.cells,
      pages_more 1 (length (flat_map (chain_of f) n.cells)) f.usable,
    ) in
    subst (λ (o : Option Node). sum_by (cost f kind) (entries (cells_in o)) + 8 ≤ length (p ∷ flat_map (chain_of f) (cells_in o)) * f.usable) (sym h.is) fits

row_fits : (f : File) (kind : Kind) (T : ℕ → Type 0) (items : ℕ → List Held) (pages : ℕ → List ℕ)
    → ((q : ℕ) → T q → FitPages f kind (items q) (pages q)) → (hs : List Held) (right : ℕ) → Row T hs right
    → sum_by (cost f kind) (entries (row_items items hs right)) ≤ sum_by (cost f kind) (entries hs) + length (row_pages pages hs right) * f.usable
row_fits f kind T items pages each [] right row = omega (arith, each right row)
row_fits f kind T items pages each (h ∷ hs) right row =
    let c = child_of h in
    let rest = row_items items hs right in
    let more = row_pages pages hs right in
    let both : length (pages c ++ more) * f.usable ≡ length (pages c) * f.usable + length more * f.usable =
    ap (λ n. n * f.usable) (length-append (pages c) more) ∙ pages_more (length (pages c)) (length more) f.usable in
    omega (
      arith,
      each c row.0,
      row_fits f kind T items pages each hs right row.1,
      entries_join (cost f kind) (items c) (bare h ∷ rest),
      entries_bare f kind h rest hs,
      both,
    )

pub tree_fits : (f : File) (kind : Kind) (root d p : ℕ) → IsTree (node_of f) kind root d p
    → FitPages f kind (items_of (node_of f) d p) (pages_of (node_of f) (own_of f) d p)
tree_fits f kind root zero p t = own_fits f kind true p t.0 t.1
tree_fits f kind root (suc d) p t =
    let node = node_of f in
    let n = t.0 in
    let own = own_fits f kind false p n t.1 in
    let rows = row_fits f kind (IsTree node kind root d) (items_of node d) (pages_of node (own_of f) d) (λ q is. tree_fits f kind root d q is) n.cells (number_in n.right) t.3 in
    let at : sum_by (cost f kind) (entries (row_items (items_of node d) (cells_in (node p)) (right_in (node p))))
    ≤ sum_by (cost f kind) (entries (cells_in (node p))) + length (row_pages (pages_of node (own_of f) d) (cells_in (node p)) (right_in (node p))) * f.usable =
    subst (λ (o : Option Node). sum_by (cost f kind) (entries (row_items (items_of node d) (cells_in o) (right_in o)))
    ≤ sum_by (cost f kind) (entries (cells_in o)) + length (row_pages (pages_of node (own_of f) d) (cells_in o) (right_in o)) * f.usable) (sym t.1.is) rows in
    let others = row_pages (pages_of node (own_of f) d) (cells_in (node p)) (right_in (node p)) in
    let both : length (own_of f p ++ others) * f.usable ≡ length (own_of f p) * f.usable + length others * f.usable =
    ap (λ m. m * f.usable) (length-append (own_of f p) others) ∙ pages_more (length (own_of f p)) (length others) f.usable in
    omega (arith, own, at, both)

-- the entries of a stored tree have room on its pages
pub stored_fits : (f : File) (kind : Kind) (p : ℕ) (cells : List Held) (used : List ℕ) → IsStored f kind p cells used
    → sum_by (cost f kind) cells + 8 ≤ length used * f.usable
stored_fits f kind p cells used s =
    let fits = tree_fits f kind p s.tree.depth p s.tree.is_tree in
    let items : sum_by (cost f kind) (entries s.items) + 8 ≤ length used * f.usable =
    subst (λ (hs : List Held). sum_by (cost f kind) (entries hs) + 8 ≤ length used * f.usable) (sym s.tree.items_are)
    (subst (λ (ps : List ℕ). sum_by (cost f kind) (entries (items_of (node_of f) s.tree.depth p)) + 8 ≤ length ps * f.usable) (sym s.tree.pages_are) fits) in
    subst (λ (hs : List Held). sum_by (cost f kind) hs + 8 ≤ length used * f.usable) (sym s.cells_are) items
