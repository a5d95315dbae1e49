-- The children of a page of a tree are those that its cells name, and the right-most one.
use Rattle.std.proofs.Common.{◌≡◌, ℕ, zero, suc, ◌+◌, Bool, true, false, ◌&&◌, Option, Some, None, option_map, List, [], ◌∷◌, ◌++◌, map, refl, sym, ap, ◌∙◌, subst}
use Rattle.std.specs.Prelude.{option_to_list, filter, if◌then◌else◌}
use Rattle.std.specs.List.{AllByRecursion, flat_map}
use Rattle.std.proofs.lemmas.Bool.{and_from, false≢true}
use Rattle.page_access.specs.Pages.{File, page_at}
use Rattle.page_lists.specs.Table.{is_page}
use Rattle.cell_reader.specs.declared.cells.CellView.{CellView}
use Rattle.cell_reader.specs.declared.shapes.Kind.{Kind}
use Rattle.cell_reader.specs.declared.shapes.Kind.TheVariants.{Table, Index}
use Rattle.cell_reader.specs.declared.shapes.PageShape.{PageShape}
use Rattle.cell_reader.specs.Screen.{Verdict, Accepts, accepted_from, pointers_in, verdicts}
use Rattle.cell_reader.specs.Shape.{right_of}
use Rattle.page_walk.specs.Pointers.{pointers_on, pointers_with}
use Rattle.page_walk.specs.Walk.{children, kind_on, same_kind}
use Rattle.page_walk.proofs.Trees.{same_kind_self}
use Rattle.tree_forms.specs.Laws.{IsRead}
use Rattle.tree_forms.specs.Node.{Held, Node, child_of, held_of, node_of, number_in}
use Rattle.tree_forms.specs.Tree.{IsTree, Row}
use Rattle.tree_forms.proofs.Saying.{page_read}

-- the children that a page says
abbrev pub kids : Node → List ℕ
kids n = map child_of n.cells ++ number_in n.right ∷ []

-- a page of the file that has this kind
abbrev pub IsOf : File → Kind → ℕ → Type 0
IsOf f kind p = (is_page f.pages p ≡ true) × (kind_on f p ≡ Some kind)

pub said_of : (f : File) (kind : Kind) (p : ℕ) (n : Node) → node_of f p ≡ Some n → n.kind ≡ kind → IsOf f kind p
said_of f kind p n is kind_is =
    let r = page_read f p n is in
    (r.there, ap (option_map (λ (s : PageShape). s.kind)) r.has_shape ∙ ap (λ (k : Kind). Some k) (r.kind_is ∙ kind_is))

-- the root of a tree is such a page
pub root_of : (f : File) (kind : Kind) (r d p : ℕ) → IsTree (node_of f) kind r d p → IsOf f kind p
root_of f kind r zero p t = said_of f kind p t.0 t.1.is t.1.kind_is
root_of f kind r (suc d) p t = said_of f kind p t.0 t.1.is t.1.kind_is

-- what holds of each child of a row
pub row_all : (T : ℕ → Type 0) (hs : List Held) (right : ℕ) → Row T hs right → AllByRecursion T (map child_of hs ++ right ∷ [])
row_all T [] right row = (row, tt)
row_all T (h ∷ hs) right row = (row.0, row_all T hs right row.1)

pub all_of : {X : Type 0} (P Q : X → Type 0) (xs : List X) → ((x : X) → P x → Q x) → AllByRecursion P xs → AllByRecursion Q xs
all_of P Q [] step all = tt
all_of P Q (x ∷ xs) step all = (step x all.0, all_of P Q xs step all.1)

-- the children of a row are trees one row lower
pub below_are : (f : File) (kind : Kind) (r d p : ℕ) (t : IsTree (node_of f) kind r (suc d) p)
    → AllByRecursion (IsTree (node_of f) kind r d) (kids t.0)
below_are f kind r d p t = row_all (IsTree (node_of f) kind r d) t.0.cells (number_in t.0.right) t.3

-- a number of a page of the file is there
one_named : (f : File) (kind : Kind) (o : Option ℕ) → IsOf f kind (number_in o) → option_to_list o ≡ number_in o ∷ []
one_named f kind None is = absurd (false≢true is.0)
one_named f kind (Some q) is = refl

-- the numbers that accepted cells name
named : (f : File) (kind : Kind) (page : List ℕ) (views : List CellView) (right : Option ℕ)
    → AllByRecursion (IsOf f kind) (map child_of (map (held_of page) views) ++ number_in right ∷ [])
    → flat_map (λ (v : CellView). option_to_list v.child) views ++ option_to_list right
    ≡ map child_of (map (held_of page) views) ++ number_in right ∷ []
named f kind page [] right all = one_named f kind right all.0
named f kind page (v ∷ views) right all =
    ap (λ (xs : List ℕ). (xs ++ flat_map (λ (w : CellView). option_to_list w.child) views) ++ option_to_list right) (one_named f kind v.child all.0)
    ∙ ap (λ (xs : List ℕ). number_in v.child ∷ xs) (named f kind page views right all.1)

accepted_named : (i : ℕ) (views : List CellView)
    → flat_map (λ (c : ℕ × CellView). option_to_list c.1.child) (accepted_from i (map Accepts views)) ≡ flat_map (λ (v : CellView). option_to_list v.child) views
accepted_named i [] = refl
accepted_named i (v ∷ views) = ap (λ (xs : List ℕ). option_to_list v.child ++ xs) (accepted_named (i + 1) views)

-- a page names the children that it says, where it is an interior page and each is a page of the file
pointers_are : (f : File) (kind : Kind) (p : ℕ) (n : Node) → IsRead f p n → n.leaf ≡ false → AllByRecursion (IsOf f kind) (kids n)
    → pointers_on f p ≡ kids n
unfolding pointers_in
pointers_are f kind p n r inner all =
    let page : List ℕ = page_at f p in
    let cells : map child_of n.cells ++ number_in n.right ∷ [] ≡ map child_of (map (held_of page) r.views) ++ number_in (right_of page r.shape) ∷ [] =
    ap (λ (hs : List Held). map child_of hs ++ number_in n.right ∷ []) r.cells_are
    ∙ ap (λ (o : Option ℕ). map child_of (map (held_of page) r.views) ++ number_in o ∷ []) r.right_is in
    let all' : AllByRecursion (IsOf f kind) (map child_of (map (held_of page) r.views) ++ number_in (right_of page r.shape) ∷ []) =
    subst (AllByRecursion (IsOf f kind)) cells all in
    let leaf : r.shape.leaf ≡ false = r.leaf_is ∙ inner in
    let numbers : List Verdict → List ℕ = λ vs. flat_map (λ (c : ℕ × CellView). option_to_list c.1.child) (accepted_from 0 vs) in
    ap (pointers_with f p) r.has_shape
    ∙ ap (λ (b : Bool). if b then [] else numbers (verdicts page f.usable f.pages r.shape) ++ option_to_list (right_of page r.shape)) leaf
    ∙ ap (λ (vs : List Verdict). numbers vs ++ option_to_list (right_of page r.shape)) r.kept
    ∙ ap (λ (xs : List ℕ). xs ++ option_to_list (right_of page r.shape)) (accepted_named 0 r.views)
    ∙ named f kind page r.views (right_of page r.shape) all'
    ∙ sym cells

no_pointers : (f : File) (p : ℕ) (n : Node) → IsRead f p n → n.leaf ≡ true → pointers_on f p ≡ []
unfolding pointers_in
no_pointers f p n r leaf =
    let page : List ℕ = page_at f p in
    let rest : List ℕ = flat_map (λ (c : ℕ × CellView). option_to_list c.1.child) (accepted_from 0 (verdicts page f.usable f.pages r.shape))
    ++ option_to_list (right_of page r.shape) in
    ap (pointers_with f p) r.has_shape ∙ ap (λ (b : Bool). if b then [] else rest) (r.leaf_is ∙ leaf)

-- a list of which each element passes a test
pub filter_same : {X : Type 0} (t : X → Bool) (xs : List X) → AllByRecursion (λ x. t x ≡ true) xs → filter t xs ≡ xs
filter_same t [] all = refl
filter_same {X} t (x ∷ xs) all = rw all.0 (ap (λ (ys : List X). x ∷ ys) (filter_same t xs all.1))

-- the children of a page of a tree are those that it says
pub children_are : (f : File) (kind : Kind) (r d p : ℕ) (t : IsTree (node_of f) kind r (suc d) p) → children f p ≡ kids t.0
unfolding children
children_are f kind r d p t =
    let read = page_read f p t.0 t.1.is in
    let all : AllByRecursion (IsOf f kind) (kids t.0) =
    all_of (IsTree (node_of f) kind r d) (IsOf f kind) (kids t.0) (λ q tree. root_of f kind r d q tree) (below_are f kind r d p t) in
    let here : kind_on f p ≡ Some kind = (root_of f kind r (suc d) p t).1 in
    let passes : AllByRecursion (λ q. (is_page f.pages q && same_kind (kind_on f q) (kind_on f p)) ≡ true) (kids t.0) =
    all_of (IsOf f kind) (λ q. (is_page f.pages q && same_kind (kind_on f q) (kind_on f p)) ≡ true) (kids t.0)
    (λ q is. and_from (is_page f.pages q) (same_kind (kind_on f q) (kind_on f p)) is.0
    (ap (λ (k : Option Kind). same_kind k (kind_on f p)) is.1 ∙ ap (same_kind (Some kind)) here ∙ same_kind_self kind)) all in
    ap (filter (λ q. is_page f.pages q && same_kind (kind_on f q) (kind_on f p))) (pointers_are f kind p t.0 read t.1.leaf_is all)
    ∙ filter_same (λ q. is_page f.pages q && same_kind (kind_on f q) (kind_on f p)) (kids t.0) passes

pub no_children : (f : File) (kind : Kind) (r p : ℕ) (t : IsTree (node_of f) kind r zero p) → children f p ≡ []
unfolding children
no_children f kind r p t =
    ap (filter (λ q. is_page f.pages q && same_kind (kind_on f q) (kind_on f p))) (no_pointers f p t.0 (page_read f p t.0 t.1.is) t.1.leaf_is)
