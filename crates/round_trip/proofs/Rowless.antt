-- The cells of an index tree have no rowid.
use Rattle.std.proofs.Common.{◌≡◌, ℕ, zero, suc, ◌*◌, ◌==◌, Bool, true, false, ◌||◌, Option, Some, None, Result, Ok, Err, List, [], ◌∷◌, map, take, refl, sym, ap, ◌∙◌, subst, inl, inr}
use Rattle.std.specs.Prelude.{if◌then◌else◌, nat_le, nat_lt}
use Rattle.std.specs.List.{AllByRecursion, flat_map, slice_range}
use Rattle.std.specs.Option.{option_map}
use Rattle.std.proofs.lemmas.Bool.{cases_Bool}
use Rattle.std.proofs.lemmas.Grind.{flat_map-append}
use Rattle.byteorder.specs.Endian.{twos_complement}
use Rattle.page_access.specs.Pages.{File, page_at}
use Rattle.cell_reader.specs.declared.cells.CellFault.{CellFault}
use Rattle.cell_reader.specs.declared.cells.CellView.{CellView}
use Rattle.cell_reader.specs.declared.parts.Parts.{Parts}
use Rattle.cell_reader.specs.declared.shapes.Kind.{Kind}
use Rattle.cell_reader.specs.declared.shapes.Kind.TheVariants.{Index}
use Rattle.cell_reader.specs.declared.shapes.PageShape.{PageShape}
use Rattle.cell_reader.specs.Cell.{cell_of, cell_parts, pointer_of, view_at, view_of}
use Rattle.cell_reader.specs.Screen.{Accepts, verdicts}
use Rattle.cell_reader.specs.Spelling.{IsCell}
use Rattle.cell_reader.proofs.Read.{read_spelled}
use Rattle.page_walk.specs.Walk.{children}
use Rattle.page_walk.proofs.Going.{all_append}
use Rattle.tree_forms.specs.Node.{Held, Node, cells_in, held_of, node_of}
use Rattle.tree_forms.specs.Tree.{IsTree, bare}
use Rattle.tree_forms.proofs.Saying.{page_read}
use Rattle.tree_walks.specs.Rows.{all_entries, entries_in, entries_on, entry_in, rows, tree_pages}
use Rattle.tree_walks.proofs.Accepted.{all_screened}
use Rattle.tree_walks.proofs.Levels.{generation}

no_number : (usable : ℕ) (leaf : Bool) (bytes : List ℕ) (p : Parts) → IsCell usable Index leaf bytes p → p.rowid ≡ None
no_number usable leaf bytes p is = is.numbers.1.number

from_view : (page : List ℕ) (usable limit start : ℕ) (leaf : Bool) (v : CellView) (r : Result Parts CellFault)
    → cell_parts usable limit Index leaf (slice_range page start usable) ≡ r → view_of start r ≡ Ok v → v.rowid ≡ None
unfolding view_at
from_view page usable limit start leaf v (Err fault) read is = absurd (cc)
from_view page usable limit start leaf v (Ok p) read is =
    let same : view_at start p ≡ v = cc in
    let none : p.rowid ≡ None =
    no_number usable leaf (take p.size (slice_range page start usable)) p (read_spelled usable limit Index leaf (slice_range page start usable) p read).0 in
    sym (ap (λ (w : CellView). w.rowid) same) ∙ ap (option_map (twos_complement 8)) none

cell_rowless : (page : List ℕ) (usable pages : ℕ) (shape : PageShape) (i : ℕ) (v : CellView) → shape.kind ≡ Index → cell_of page usable pages shape i ≡ Ok v → v.rowid ≡ None
unfolding cell_of
cell_rowless page usable pages shape i v kind is =
    let start : ℕ = pointer_of page shape i in
    elim (cases_Bool (nat_lt start shape.array_end || nat_le usable start)) [
      | inl out ↦ absurd (outside (rw out at is))
      | inr here ↦
          let read : view_of start (cell_parts usable (pages * usable) shape.kind shape.leaf (slice_range page start usable)) ≡ Ok v = rw here at is in
          from_view page usable (pages * usable) start shape.leaf v (cell_parts usable (pages * usable) Index shape.leaf (slice_range page start usable)) refl
          (ap (λ (k : Kind). view_of start (cell_parts usable (pages * usable) k shape.leaf (slice_range page start usable))) (sym kind) ∙ read)
    ]
  where
    outside : {fault : CellFault} → Err fault ≡ Ok v → ⊥
    outside e = cc

views_rowless : (page : List ℕ) (usable pages : ℕ) (shape : PageShape) (views : List CellView) → shape.kind ≡ Index → verdicts page usable pages shape ≡ map Accepts views
    → AllByRecursion (λ (v : CellView). v.rowid ≡ None) views
unfolding verdicts
views_rowless page usable pages shape views kind is =
    all_screened (λ (v : CellView). v.rowid ≡ None) (cell_of page usable pages shape)
    (λ i v read. cell_rowless page usable pages shape i v kind read) shape.cells 0 [] views is

abbrev pub IsRowless : Held → Type 0
IsRowless h = h.rowid ≡ None

held_rowless : (page : List ℕ) (views : List CellView) → AllByRecursion (λ (v : CellView). v.rowid ≡ None) views → AllByRecursion IsRowless (map (held_of page) views)
held_rowless page [] all = tt
held_rowless page (v ∷ views) all = (all.0, held_rowless page views all.1)

entries_rowless : (hs : List Held) → AllByRecursion IsRowless hs → AllByRecursion IsRowless (entries_in hs)
entries_rowless [] all = tt
entries_rowless (h ∷ hs) all = all_append IsRowless (entry_in h) (entries_in hs) one (entries_rowless hs all.1)
  where
    one : AllByRecursion IsRowless (entry_in h)
    one = elim (h.total == 0) as (λ b. AllByRecursion IsRowless (if b then [] else bare h ∷ [])) [ true ↦ tt | false ↦ (all.0, tt) ]

page_rowless : (f : File) (p : ℕ) (n : Node) → node_of f p ≡ Some n → n.kind ≡ Index → AllByRecursion IsRowless (entries_on f p)
page_rowless f p n is kind =
    let r = page_read f p n is in
    let cells : AllByRecursion IsRowless n.cells =
    subst (AllByRecursion IsRowless) (sym r.cells_are)
    (held_rowless (page_at f p) r.views (views_rowless (page_at f p) f.usable f.pages r.shape r.views (r.kind_is ∙ kind) r.kept)) in
    subst (λ (o : Option Node). AllByRecursion IsRowless (entries_in (cells_in o))) (sym is) (entries_rowless n.cells cells)

root_rowless : (f : File) (r d p : ℕ) → IsTree (node_of f) Index r d p → AllByRecursion IsRowless (entries_on f p)
root_rowless f r zero p t = page_rowless f p t.0 t.1.is t.1.kind_is
root_rowless f r (suc d) p t = page_rowless f p t.0 t.1.is t.1.kind_is

pages_rowless : (f : File) (r d : ℕ) (ps : List ℕ) → AllByRecursion (IsTree (node_of f) Index r d) ps → AllByRecursion IsRowless (all_entries f ps)
pages_rowless f r d [] trees = tt
pages_rowless f r d (p ∷ ps) trees = all_append IsRowless (entries_on f p) (all_entries f ps) (root_rowless f r d p trees.0) (pages_rowless f r d ps trees.1)

rows_rowless : (f : File) (r d : ℕ) (ps : List ℕ) → AllByRecursion (IsTree (node_of f) Index r d) ps → AllByRecursion IsRowless (all_entries f (rows (children f) d ps))
rows_rowless f r zero ps trees = pages_rowless f r zero ps trees
rows_rowless f r (suc d) ps trees =
    subst (AllByRecursion IsRowless) (sym (flat_map-append (entries_on f) ps (rows (children f) d (flat_map (children f) ps))))
    (all_append IsRowless (all_entries f ps) (all_entries f (rows (children f) d (flat_map (children f) ps)))
    (pages_rowless f r (suc d) ps trees) (rows_rowless f r d (flat_map (children f) ps) (generation f Index r d ps trees)))

pub tree_rowless : (f : File) (d p : ℕ) → IsTree (node_of f) Index p d p → AllByRecursion IsRowless (all_entries f (tree_pages f d p))
unfolding tree_pages
tree_rowless f d p t = rows_rowless f p d (p ∷ []) (t, tt)
