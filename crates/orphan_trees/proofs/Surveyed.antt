-- The kinds of a survey are those of the pages.
use Rattle.std.proofs.Common.{◌≡◌, ◌≤◌, ℕ, ◌+◌, Bool, true, false, ◌&&◌, Option, Some, None, List, [], ◌++◌, refl, sym, ◌∙◌, ap, subst, arith}
use Rattle.std.specs.Prelude.{IfSome, ℤ, if◌then◌else◌, is_some, nat_le, pos, filter}
use Rattle.std.proofs.lemmas.Bool.{and_from, le-leb}
use Rattle.std.proofs.lemmas.List.Elements.{filter_agree}
use Rattle.std.proofs.lemmas.Option.{IfSome_then}
use Rattle.page_access.specs.Files.{IsWhole, file_of}
use Rattle.page_access.specs.Pages.{File}
use Rattle.page_access.specs.declared.geometry.Geometry.{Geometry}
use Rattle.page_access.proofs.Told.{both_told}
use Rattle.page_lists.specs.Lists.{is_in}
use Rattle.page_lists.specs.Table.{MovesFront, Table, is_page}
use Rattle.cell_reader.specs.declared.shapes.Kind.{Kind}
use Rattle.page_walk.specs.Kinds.{kind_at}
use Rattle.page_walk.specs.Pointers.{pointers_on}
use Rattle.page_walk.specs.Taking.{is_of_kind}
use Rattle.page_walk.specs.Walk.{children, kind_on, kinds_of, same_kind, walk}
use Rattle.page_walk.proofs.Found.{kind_of_page, wanted_is}
use Rattle.tree_uses.specs.Trees.{walk_for}
use Rattle.orphan_trees.specs.Orphans.{Orphan, is_orphan, tree_at}
use Rattle.orphan_trees.specs.Passes.{children_at, kind_unused, with_marks}

pub page_is : (n p : ℕ) → 1 ≤ p → p ≤ n → is_page n p ≡ true
page_is n p low high = and_from (nat_le 1 p) (nat_le p n) (le-leb 1 p low) (le-leb p n high)

-- the kind that a survey gives is the page's
pub kind_told : (o : Option (List ℕ)) (geo : Geometry) (ks : List (Option Kind)) (p : ℕ) (k : Option Kind) → 1 ≤ p → p ≤ geo.pages
    → IfSome o (λ all. ks ≡ kinds_of (file_of all geo)) → kind_at ks p ≡ k → IfSome o (λ all. kind_on (file_of all geo) p ≡ k)
kind_told o geo ks p k low high surveyed is =
    IfSome_then o {P = λ all. ks ≡ kinds_of (file_of all geo)} {Q = λ all. kind_on (file_of all geo) p ≡ k}
    surveyed
    (λ all same. sym (kind_of_page (file_of all geo) p (page_is geo.pages p low high)) ∙ sym (ap (λ (xs : List (Option Kind)). kind_at xs p) same) ∙ is)

-- a walk of the kind that the survey gives is the tree of the page
pub tree_told : (o : Option (List ℕ)) (geo : Geometry) (ks : List (Option Kind)) (p : ℕ) (k : Option Kind) (u pages : List ℕ) → 1 ≤ p → p ≤ geo.pages
    → IfSome o (λ all. ks ≡ kinds_of (file_of all geo)) → kind_at ks p ≡ k → IfSome o (λ all. pages ≡ walk_for (file_of all geo) u (pos p) k)
    → IfSome o (λ all. ◌≡◌ {A = Orphan} (record { root = p; pages = pages }) (tree_at (file_of all geo) p u))
tree_told o geo ks p k u pages low high surveyed is walked =
    both_told (λ all. kind_on (file_of all geo) p ≡ k) (λ all. pages ≡ walk_for (file_of all geo) u (pos p) k)
    (λ all. ◌≡◌ {A = Orphan} (record { root = p; pages = pages }) (tree_at (file_of all geo) p u)) o o refl
    (λ all kind w. ap {B = Orphan} (λ (ps : List ℕ). record { root = p; pages = ps })
    (w ∙ ap (walk_for (file_of all geo) u (pos p)) (sym kind)))
    (kind_told o geo ks p k low high surveyed is) walked

-- pages that moved are a front of those of the tree
pub front_told : (o : Option (List ℕ)) (geo : Geometry) (ks : List (Option Kind)) (p : ℕ) (k : Option Kind) (u : List ℕ) (l : ℕ) (old new : Table) → 1 ≤ p → p ≤ geo.pages
    → IfSome o (λ all. ks ≡ kinds_of (file_of all geo)) → kind_at ks p ≡ k
    → IfSome o (λ all. MovesFront (walk_for (file_of all geo) u (pos p) k) l old new)
    → IfSome o (λ all. MovesFront (tree_at (file_of all geo) p u).pages l old new)
front_told o geo ks p k u l old new low high surveyed is moves =
    both_told (λ all. kind_on (file_of all geo) p ≡ k) (λ all. MovesFront (walk_for (file_of all geo) u (pos p) k) l old new)
    (λ all. MovesFront (tree_at (file_of all geo) p u).pages l old new) o o refl
    (λ all kind m. subst (λ (ps : List ℕ). MovesFront ps l old new) (ap (walk_for (file_of all geo) u (pos p)) (sym kind)) m)
    (kind_told o geo ks p k low high surveyed is) moves

-- the same of a walk from the number of the page
pub walk_told : (o : Option (List ℕ)) (geo : Geometry) (ks : List (Option Kind)) (p : ℕ) (z : ℤ) (k : Kind) (u pages : List ℕ) → 1 ≤ p → p ≤ geo.pages
    → IfSome o (λ all. ks ≡ kinds_of (file_of all geo)) → kind_at ks p ≡ Some k → z ≡ pos p → IfSome o (λ all. pages ≡ walk (file_of all geo) u z k)
    → IfSome o (λ all. ◌≡◌ {A = Orphan} (record { root = p; pages = pages }) (tree_at (file_of all geo) p u))
walk_told o geo ks p z k u pages low high surveyed is number walked =
    tree_told o geo ks p (Some k) u pages low high surveyed is
    (subst (λ (x : ℤ). IfSome o (λ all. pages ≡ walk (file_of all geo) u x k)) number walked)

pub walk_front : (o : Option (List ℕ)) (geo : Geometry) (ks : List (Option Kind)) (p : ℕ) (z : ℤ) (k : Kind) (u : List ℕ) (l : ℕ) (old new : Table) → 1 ≤ p → p ≤ geo.pages
    → IfSome o (λ all. ks ≡ kinds_of (file_of all geo)) → kind_at ks p ≡ Some k → z ≡ pos p
    → IfSome o (λ all. MovesFront (walk (file_of all geo) u z k) l old new)
    → IfSome o (λ all. MovesFront (tree_at (file_of all geo) p u).pages l old new)
walk_front o geo ks p z k u l old new low high surveyed is number moves =
    front_told o geo ks p (Some k) u l old new low high surveyed is
    (subst (λ (x : ℤ). IfSome o (λ all. MovesFront (walk (file_of all geo) u x k) l old new)) number moves)

-- ---- children of orphan pages

-- the children of a page of the kind are the pages of the kind that it names
children_are : (f : File) (kind : Kind) (p : ℕ) → kind_on f p ≡ Some kind
    → filter (is_of_kind (kinds_of f) f.pages kind) (pointers_on f p) ≡ children f p
unfolding children
children_are f kind p is =
    filter_agree (is_of_kind (kinds_of f) f.pages kind) (λ q. is_page f.pages q && same_kind (kind_on f q) (Some kind))
    (wanted_is f kind) (pointers_on f p)
    ∙ ap (λ (k : Option Kind). filter (λ q. is_page f.pages q && same_kind (kind_on f q) k) (pointers_on f p)) (sym is)

-- an unused page with a kind is an orphan page
unused_some : (b : Bool) (o : Option Kind) (k : Kind) → (if b then o else None) ≡ Some k → (b ≡ true) × (o ≡ Some k)
unused_some true o k e = (refl, e)
unused_some false o k e = absurd (cc)

unused_none : (b : Bool) (o : Option Kind) → (if b then o else None) ≡ None → (b && is_some o) ≡ false
unused_none true o e = ap is_some e
unused_none false o e = refl

pub orphan_some : (f : File) (u : List ℕ) (p : ℕ) (k : Kind) → is_page f.pages p ≡ true → kind_unused (kinds_of f) u p ≡ Some k
    → (is_orphan f u p ≡ true) × (kind_on f p ≡ Some k)
orphan_some f u p k page is =
    let both : (is_in p u ≡ true) × (kind_at (kinds_of f) p ≡ Some k) = unused_some (is_in p u) (kind_at (kinds_of f) p) k is in
    let kind : kind_on f p ≡ Some k = sym (kind_of_page f p page) ∙ both.1 in
    (and_from (is_in p u) (is_some (kind_on f p)) both.0 (ap is_some kind), kind)

pub orphan_none : (f : File) (u : List ℕ) (p : ℕ) → is_page f.pages p ≡ true → kind_unused (kinds_of f) u p ≡ None → is_orphan f u p ≡ false
orphan_none f u p page is =
    ap (λ (k : Option Kind). is_in p u && is_some k) (sym (kind_of_page f p page)) ∙ unused_none (is_in p u) (kind_at (kinds_of f) p) is

-- the children of an orphan page were marked
pub marked_told : (o : Option (List ℕ)) (geo : Geometry) (ks : List (Option Kind)) (u : List ℕ) (p : ℕ) (k : Kind) (none named : List ℕ) (old new : List Bool)
    → 1 ≤ p → p ≤ geo.pages → IfSome o (λ all. ks ≡ kinds_of (file_of all geo)) → kind_unused ks u p ≡ Some k → none ≡ []
    → IfSome o (λ all. named ≡ none ++ pointers_on (file_of all geo) p) → new ≡ with_marks (filter (is_of_kind ks geo.pages k) named) old
    → IfSome o (λ all. new ≡ with_marks (children_at (file_of all geo) u p) old)
marked_told o geo ks u p k none named old new low high surveyed is empty points marks =
    both_told (λ all. ks ≡ kinds_of (file_of all geo)) (λ all. named ≡ none ++ pointers_on (file_of all geo) p)
    (λ all. new ≡ with_marks (children_at (file_of all geo) u p) old) o o refl
    (λ all same points.
    let f : File = file_of all geo in
    let orphan : (is_orphan f u p ≡ true) × (kind_on f p ≡ Some k) =
    orphan_some f u p k (page_is geo.pages p low high) (ap (λ (xs : List (Option Kind)). kind_unused xs u p) (sym same) ∙ is) in
    let here : children_at f u p ≡ children f p = ap (λ (b : Bool). if b then children f p else []) orphan.0 in
    marks
    ∙ ap (λ (xs : List (Option Kind)). with_marks (filter (is_of_kind xs geo.pages k) named) old) same
    ∙ ap (λ (qs : List ℕ). with_marks (filter (is_of_kind (kinds_of f) geo.pages k) qs) old) (points ∙ ap (λ (qs : List ℕ). qs ++ pointers_on f p) empty)
    ∙ ap (λ (qs : List ℕ). with_marks qs old) (children_are f k p orphan.1 ∙ sym here))
    surveyed points

-- a page that is no orphan page marks none
pub unmarked_told : (o : Option (List ℕ)) (geo : Geometry) (ks : List (Option Kind)) (u : List ℕ) (p : ℕ) (marks : List Bool) → 1 ≤ p → p ≤ geo.pages
    → IfSome o (λ all. ks ≡ kinds_of (file_of all geo)) → kind_unused ks u p ≡ None
    → IfSome o (λ all. marks ≡ with_marks (children_at (file_of all geo) u p) marks)
unmarked_told o geo ks u p marks low high surveyed is =
    IfSome_then o {P = λ all. ks ≡ kinds_of (file_of all geo)} {Q = λ all. marks ≡ with_marks (children_at (file_of all geo) u p) marks}
    surveyed
    (λ all same.
    let f : File = file_of all geo in
    let other : is_orphan f u p ≡ false = orphan_none f u p (page_is geo.pages p low high) (ap (λ (xs : List (Option Kind)). kind_unused xs u p) (sym same) ∙ is) in
    sym (ap (λ (b : Bool). with_marks (if b then children f p else []) marks) other))

-- one read of an orphan page
pub read_told : (o : Option (List ℕ)) (geo : Geometry) (ks : List (Option Kind)) (u : List ℕ) (p : ℕ) (k : Kind) (before now : ℕ) → 1 ≤ p → p ≤ geo.pages
    → IfSome o (λ all. ks ≡ kinds_of (file_of all geo)) → kind_unused ks u p ≡ Some k → IfSome o (λ all. IsWhole all geo → now ≤ before + 1)
    → IfSome o (λ all. IsWhole all geo → now ≤ before + (if is_orphan (file_of all geo) u p then 1 else 0))
read_told o geo ks u p k before now low high surveyed is read =
    both_told (λ all. ks ≡ kinds_of (file_of all geo)) (λ all. IsWhole all geo → now ≤ before + 1)
    (λ all. IsWhole all geo → now ≤ before + (if is_orphan (file_of all geo) u p then 1 else 0)) o o refl
    (λ all same r whole.
    let f : File = file_of all geo in
    let orphan : (is_orphan f u p ≡ true) × (kind_on f p ≡ Some k) =
    orphan_some f u p k (page_is geo.pages p low high) (ap (λ (xs : List (Option Kind)). kind_unused xs u p) (sym same) ∙ is) in
    omega (arith, r whole, ap {B = ℕ} (λ (b : Bool). if b then 1 else 0) orphan.0)) surveyed read
