-- What a page says is read off its accepted cells.
use Rattle.std.proofs.Common.{◌≡◌, ℕ, Bool, true, false, Option, Some, None, List, [], ◌∷◌, map, refl, sym, ap, ◌∙◌, arith}
use Rattle.std.specs.Prelude.{if◌then◌else◌}
use Rattle.page_access.specs.Pages.{File, page_at}
use Rattle.page_lists.specs.Table.{is_page}
use Rattle.cell_reader.specs.declared.shapes.PageShape.{PageShape}
use Rattle.cell_reader.specs.declared.cells.CellView.{CellView}
use Rattle.cell_reader.specs.Screen.{Verdict, Accepts, Faulty, Overlaps, verdicts}
use Rattle.cell_reader.specs.Shape.{right_of, shape_of}
use Rattle.tree_forms.specs.Node.{Held, Node, cons_of, held_of, node_of, node_on, node_with, said_by}
use Rattle.tree_forms.specs.Laws.{IsRead, SaysAccepted}

-- cells that all say something are accepted
record Said (page : List ℕ) (vs : List Verdict) (cells : List Held) : Type 0 where
  views : List CellView
  kept : vs ≡ map Accepts views
  cells_are : cells ≡ map (held_of page) views

said_more : (page : List ℕ) (v : CellView) (vs : List Verdict) (rest : Option (List Held)) (cells : List Held)
    → ((more : List Held) → rest ≡ Some more → Said page vs more) → cons_of page v rest ≡ Some cells → Said page (Accepts v ∷ vs) cells
said_more page v vs None cells below is = cc
said_more page v vs (Some more) cells below is =
    let s = below more refl in
    let head : held_of page v ∷ more ≡ cells = cc in
    record {
      views = v ∷ s.views;
      kept = ap (λ (ws : List Verdict). Accepts v ∷ ws) s.kept;
      cells_are = sym head ∙ ap (λ (hs : List Held). held_of page v ∷ hs) s.cells_are;
    }

said : (page : List ℕ) (vs : List Verdict) (cells : List Held) → said_by page vs ≡ Some cells → Said page vs cells
said page [] cells is =
    let none : [] ≡ cells = cc in record { views = []; kept = refl; cells_are = sym none }
said page (Accepts v ∷ vs) cells is = said_more page v vs (said_by page vs) cells (said page vs) is
said page (Faulty fault ∷ vs) cells is = cc
said page (Overlaps ∷ vs) cells is = cc

read_with : (f : File) (p : ℕ) (n : Node) (s : PageShape) (cells : Option (List Held)) → is_page f.pages p ≡ true
    → shape_of (page_at f p) p f.usable ≡ Some s
    → ((more : List Held) → cells ≡ Some more → Said (page_at f p) (verdicts (page_at f p) f.usable f.pages s) more)
    → node_with (page_at f p) s cells ≡ Some n → IsRead f p n
read_with f p n s None there has below is = cc
read_with f p n s (Some cells) there has below is =
    let made : Node = record { kind = s.kind; leaf = s.leaf; cells = cells; right = right_of (page_at f p) s } in
    let same : made ≡ n = cc in
    let w = below cells refl in
    record {
      there = there;
      shape = s;
      has_shape = has;
      kind_is = ap (λ (m : Node). m.kind) same;
      leaf_is = ap (λ (m : Node). m.leaf) same;
      views = w.views;
      kept = w.kept;
      cells_are = sym (ap (λ (m : Node). m.cells) same) ∙ w.cells_are;
      right_is = sym (ap (λ (m : Node). m.right) same);
    }

read_on : (f : File) (p : ℕ) (n : Node) (s : Option PageShape) → is_page f.pages p ≡ true
    → shape_of (page_at f p) p f.usable ≡ s → node_on (page_at f p) f.usable f.pages s ≡ Some n → IsRead f p n
read_on f p n None there has is = cc
read_on f p n (Some s) there has is =
    read_with f p n s (said_by (page_at f p) (verdicts (page_at f p) f.usable f.pages s)) there has
    (said (page_at f p) (verdicts (page_at f p) f.usable f.pages s)) is

read_if : (f : File) (p : ℕ) (n : Node) (b : Bool) → is_page f.pages p ≡ b
    → (if b then node_on (page_at f p) f.usable f.pages (shape_of (page_at f p) p f.usable) else None) ≡ Some n → IsRead f p n
read_if f p n true there is = read_on f p n (shape_of (page_at f p) p f.usable) there refl is
read_if f p n false there is = cc

pub page_read : SaysAccepted
unfolding node_of
page_read f p n is = read_if f p n (is_page f.pages p) refl is
