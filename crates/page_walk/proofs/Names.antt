-- The children of the cells that a loop has passed, and of those to come.
use Rattle.std.proofs.Common.{append-nil, length-append, Some, None, true, ◌≡◌, ◌<◌, ◌≤◌, ℕ, suc, ◌+◌, ◌-◌, Bool, false, List, [], ◌∷◌, ◌++◌, length, Option, refl, sym, ◌∙◌, ap, arith, append_assoc, replicate}
use Rattle.std.proofs.lemmas.List.{length-replicate}
use Rattle.std.specs.Prelude.{option_to_list, if◌then◌else◌, IfSome, Result}
use Rattle.std.specs.List.{flat_map}
use Rattle.page_access.specs.declared.geometry.Geometry.{Geometry}
use Rattle.page_access.specs.Files.{file_of}
use Rattle.page_access.specs.Pages.{File, page_at}
use Rattle.cell_reader.specs.declared.shapes.PageShape.{PageShape}
use Rattle.cell_reader.specs.declared.cells.CellView.{CellView}
use Rattle.cell_reader.specs.declared.cells.CellFault.{CellFault}
use Rattle.cell_reader.specs.Cell.{cell_of}
use Rattle.cell_reader.specs.Cover.{marked_from, marked_on, marks_with}
use Rattle.cell_reader.specs.Screen.{Verdict, Accepts, Faulty, Overlaps, accepted_from, verdicts, pointers_in}
use Rattle.cell_reader.specs.Shape.{right_of, shape_of, u32_at}
use Rattle.cell_reader.proofs.Ranges.{page_marked}
use Rattle.page_walk.specs.Page.{screened_as, shape_on}
use Rattle.page_walk.specs.Pointers.{child_by, children_by, children_in, pointers_on, pointers_with}

-- what a loop over the cells of a page keeps
pub record Naming (page : List ℕ) (usable pages : ℕ) (shape : PageShape) (before now : List ℕ) (i : ℕ) (marks : List Bool) : Type 0 where
  pub rest : now ++ children_by (marked_from (cell_of page usable pages shape) (shape.cells - i) i marks)
      ≡ before ++ children_in page usable pages shape
  pub few : length now ≤ length before + i
  pub len : length marks ≡ usable

accepted_children : (i : ℕ) (vs : List Verdict) → flat_map (λ c. option_to_list c.1.child) (accepted_from i vs) ≡ children_by vs
accepted_children i [] = refl
accepted_children i (Accepts v ∷ vs) = ap (λ rest. option_to_list v.child ++ rest) (accepted_children (i + 1) vs)
accepted_children i (Faulty fault ∷ vs) = accepted_children (i + 1) vs
accepted_children i (Overlaps ∷ vs) = accepted_children (i + 1) vs

children_step : (v : Verdict) (vs : List Verdict) → children_by (v ∷ vs) ≡ option_to_list (child_by (screened_as v)) ++ children_by vs
children_step (Accepts v) vs = refl
children_step (Faulty fault) vs = refl
children_step Overlaps vs = refl

-- the first cell to come, and the others
pub marked_step : (cell : ℕ → Result CellView CellFault) (n i : ℕ) (marks : List Bool) → i < n
    → marked_from cell (n - i) i marks
    ≡ marked_on (cell i) marks ∷ marked_from cell (n - (i + 1)) (i + 1) (marks_with (marked_on (cell i) marks) marks)
marked_step cell n i marks lt =
    let e : n - i ≡ suc (n - (i + 1)) = omega arith in rw e refl

pub marked_end : (cell : ℕ → Result CellView CellFault) (n i : ℕ) (marks : List Bool) → n ≤ i → marked_from cell (n - i) i marks ≡ []
marked_end cell n i marks le = let e : n - i ≡ 0 = omega arith in rw e refl

-- an option gives one at most
pub few_option : {X : Type 0} (o : Option X) → length (option_to_list o) ≤ 1
few_option None = omega arith
few_option (Some x) = omega arith

pub naming_start : (page : List ℕ) (usable pages : ℕ) (shape : PageShape) (before : List ℕ) (marks : List Bool)
    → marks ≡ replicate usable false → Naming page usable pages shape before before 0 marks
naming_start page usable pages shape before marks fresh = let all : shape.cells - 0 ≡ shape.cells = omega arith in record {
  rest = ap (λ n. before ++ children_by (marked_from (cell_of page usable pages shape) n 0 marks)) all
      ∙ ap (λ ms. before ++ children_by (marked_from (cell_of page usable pages shape) shape.cells 0 ms)) fresh
      ∙ ap (λ vs. before ++ children_by vs) (page_marked page usable pages shape)
      ∙ ap (λ xs. before ++ xs) (sym (accepted_children 0 (verdicts page usable pages shape)));
  few = omega arith;
  len = ap length fresh ∙ length-replicate usable false;
}

pub naming_more : (page : List ℕ) (usable pages : ℕ) (shape : PageShape) (before now next : List ℕ) (i : ℕ) (marks after : List Bool)
    (child : Option ℕ) → Naming page usable pages shape before now i marks → i < shape.cells
    → after ≡ marks_with (marked_on (cell_of page usable pages shape i) marks) marks → length after ≡ usable
    → child ≡ child_by (screened_as (marked_on (cell_of page usable pages shape i) marks))
    → next ≡ now ++ option_to_list child
    → Naming page usable pages shape before next (i + 1) after
naming_more page usable pages shape before now next i marks after child was lt marked len named pushed =
    let cell : ℕ → Result CellView CellFault = cell_of page usable pages shape in
    let v : Verdict = marked_on (cell_of page usable pages shape i) marks in
    let later : List Verdict = marked_from cell (shape.cells - (i + 1)) (i + 1) (marks_with v marks) in
    let passed : option_to_list (child_by (screened_as v)) ++ children_by later
    ≡ children_by (marked_from cell (shape.cells - i) i marks) =
    sym (children_step v later) ∙ ap children_by (sym (marked_step cell shape.cells i marks lt)) in
    record {
      rest = rw (pushed, named, marked) (append_assoc now (option_to_list (child_by (screened_as v))) (children_by later)
          ∙ ap (λ xs. now ++ xs) passed ∙ was.rest);
      few = omega (arith, was.few, ap length pushed, length-append now (option_to_list child), few_option child);
      len = len;
    }

pub naming_end : (page : List ℕ) (usable pages : ℕ) (shape : PageShape) (before now : List ℕ) (i : ℕ) (marks : List Bool)
    → Naming page usable pages shape before now i marks → shape.cells ≤ i → now ≡ before ++ children_in page usable pages shape
naming_end page usable pages shape before now i marks was le =
    let none : children_by (marked_from (cell_of page usable pages shape) (shape.cells - i) i marks) ≡ [] =
    ap children_by (marked_end (cell_of page usable pages shape) shape.cells i marks le) in
    sym (append-nil now) ∙ ap (λ xs. now ++ xs) (sym none) ∙ was.rest

-- a page that names no right-most page names none
pointers_leaf : (f : File) (p : ℕ) (shape : PageShape) → shape_on f p ≡ Some shape → right_of (page_at f p) shape ≡ None
    → pointers_on f p ≡ []
unfolding pointers_in
pointers_leaf f p shape has none = ap (pointers_with f p) has ∙ by_leaf shape.leaf refl
  where
    by_leaf : (leaf : Bool) → shape.leaf ≡ leaf → pointers_in (page_at f p) f.usable f.pages shape ≡ []
    by_leaf true e = rw e refl
    by_leaf false e = let some : right_of (page_at f p) shape ≡ Some (u32_at (page_at f p) (shape.head + 8)) = rw e refl in cc

pointers_interior : (f : File) (p : ℕ) (shape : PageShape) (right : ℕ) → shape_on f p ≡ Some shape
    → right_of (page_at f p) shape ≡ Some right
    → pointers_on f p ≡ children_in (page_at f p) f.usable f.pages shape ++ right ∷ []
unfolding pointers_in
pointers_interior f p shape right has some = ap (pointers_with f p) has ∙ by_leaf shape.leaf refl
  where
    by_leaf : (leaf : Bool) → shape.leaf ≡ leaf
        → pointers_in (page_at f p) f.usable f.pages shape ≡ children_in (page_at f p) f.usable f.pages shape ++ right ∷ []
    by_leaf true e = let none : right_of (page_at f p) shape ≡ None = rw e refl in cc
    by_leaf false e =
        let there : (if shape.leaf then [] else children_in (page_at f p) f.usable f.pages shape
        ++ option_to_list (right_of (page_at f p) shape)) ≡ children_in (page_at f p) f.usable f.pages shape
        ++ option_to_list (right_of (page_at f p) shape) = rw e refl in
        there ∙ ap (λ o. children_in (page_at f p) f.usable f.pages shape ++ option_to_list o) some

-- the same over the bytes that a source tells, where it does
pub told_leaf : (o : Option (List ℕ)) (geo : Geometry) (p : ℕ) (shape : PageShape) (bytes old : List ℕ)
    → IfSome o (λ all. bytes ≡ page_at (file_of all geo) p)
    → shape_of bytes p geo.usable ≡ Some shape → right_of bytes shape ≡ None
    → IfSome o (λ all. old ≡ old ++ pointers_on (file_of all geo) p)
told_leaf None geo p shape bytes old page has none = tt
told_leaf (Some all) geo p shape bytes old page has none =
    let f : File = file_of all geo in
    let there : shape_on f p ≡ Some shape = ap (λ b. shape_of b p geo.usable) (sym page) ∙ has in
    let leaf : right_of (page_at f p) shape ≡ None = ap (λ b. right_of b shape) (sym page) ∙ none in
    sym (append-nil old) ∙ ap (λ xs. old ++ xs) (sym (pointers_leaf f p shape there leaf))

pub told_interior : (o : Option (List ℕ)) (geo : Geometry) (p : ℕ) (shape : PageShape) (bytes old now : List ℕ) (right : ℕ)
    → IfSome o (λ all. bytes ≡ page_at (file_of all geo) p)
    → shape_of bytes p geo.usable ≡ Some shape → right_of bytes shape ≡ Some right
    → now ≡ old ++ children_in bytes geo.usable geo.pages shape
    → IfSome o (λ all. now ++ right ∷ [] ≡ old ++ pointers_on (file_of all geo) p)
told_interior None geo p shape bytes old now right page has some pushed = tt
told_interior (Some all) geo p shape bytes old now right page has some pushed =
    let f : File = file_of all geo in
    let there : shape_on f p ≡ Some shape = ap (λ b. shape_of b p geo.usable) (sym page) ∙ has in
    let last : right_of (page_at f p) shape ≡ Some right = ap (λ b. right_of b shape) (sym page) ∙ some in
    let same : children_in bytes geo.usable geo.pages shape ≡ children_in (page_at f p) geo.usable geo.pages shape =
    ap (λ b. children_in b geo.usable geo.pages shape) page in
    ap (λ xs. xs ++ right ∷ []) (pushed ∙ ap (λ xs. old ++ xs) same)
    ∙ append_assoc old (children_in (page_at f p) geo.usable geo.pages shape) (right ∷ [])
    ∙ ap (λ xs. old ++ xs) (sym (pointers_interior f p shape right there last))
