-- The pages of a plan, one after another.
use Rattle.std.proofs.Common.{◌≡◌, ℕ, zero, suc, ◌+◌, ◌<◌, ◌≤◌, List, [], ◌∷◌, ◌++◌, length, get_or, drop, sym, ap, ◌∙◌, refl, arith, length-append, length-drop, append_assoc, add-one, drop-cons}
use Rattle.std.proofs.lemmas.List.Sums.{sum_by-cons}
use Rattle.cell_reader.specs.declared.shapes.Kind.{Kind}
use Rattle.cell_reader.specs.declared.shapes.Kind.TheVariants.{Table}
use Rattle.tree_writer.specs.declared.plans.TreePlan.{TreePlan}
use Rattle.tree_writer.specs.Cells.{chains_from, width_of}
use Rattle.tree_writer.specs.Entry.{Entry}
use Rattle.tree_writer.specs.Layout.{pages_from, schema_pages, sheet_pages, tree_pages}
use Rattle.tree_writer.specs.Levels.{Sheet, pages_in, schema_sheets, schema_top, tree_sheets}
use Rattle.tree_writer.specs.Trees.{IsSchemaPlan, IsTreePlan}
use Rattle.tree_writer.proofs.Writing.{length-chains, length-sheet}
use Rattle.db_builder.specs.Layout.{gap, paged}
use Rattle.db_builder.specs.Written.{ArePages, OfSchema, OfTree}

length-pages : (usable : ℕ) (kind : Kind) (number : ℕ → ℕ) (k : ℕ) (ss : List Sheet) → length (pages_from usable kind number k ss) ≡ pages_in usable kind ss
length-pages usable kind number k [] = refl
length-pages usable kind number k (s ∷ ss) =
    omega (
      arith,
      length-append (sheet_pages usable kind number k s) (pages_from usable kind number (k + width_of usable kind s.items) ss),
      length-sheet usable kind number k s,
      length-pages usable kind number (k + width_of usable kind s.items) ss,
      sum_by-cons (λ (s : Sheet). width_of usable kind s.items) s ss,
    )

-- how many pages there are
pub count_is : (es : List Entry) (number : ℕ → ℕ) (p : TreePlan) (first : ℕ) (pages : List (List ℕ)) → ArePages es number p first pages → first + length pages ≡ p.count
count_is es number p first pages (OfTree usable kind plan e same) =
    omega (arith, e, ap length same, length-pages usable kind number 0 (tree_sheets usable kind 0 es), plan.count)
count_is es number p first pages (OfSchema usable plan e same) =
    omega (
      arith,
      e,
      ap length same,
      plan.count,
      length-append (pages_from usable Table number 0 (schema_sheets usable es)) (chains_from usable Table number (pages_in usable Table (schema_sheets usable es)) (schema_top usable es).items),
      length-pages usable Table number 0 (schema_sheets usable es),
      length-chains usable Table number (pages_in usable Table (schema_sheets usable es)) (schema_top usable es).items,
    )

-- what a call gives for a page of the plan is the page
pub page_is : (es : List Entry) (number : ℕ → ℕ) (p : TreePlan) (first j : ℕ) (pages : List (List ℕ)) (front page : List ℕ) → ArePages es number p first pages
    → ((usable : ℕ) (kind : Kind) → IsTreePlan usable kind es p → page ≡ get_or (tree_pages usable kind number es) (first + j) [])
    → ((usable : ℕ) → IsSchemaPlan usable es p → page ≡ get_or (schema_pages front usable number es) (first + j) [])
    → page ≡ get_or pages j []
page_is es number p first j pages front page (OfTree usable kind plan e same) tree schema =
    tree usable kind plan ∙ ap (λ n. get_or (tree_pages usable kind number es) n []) (omega (arith, e)) ∙ sym (ap (λ ps. get_or ps j []) same)
page_is es number p first j pages front page (OfSchema usable plan e same) tree schema =
    let next : first + j ≡ suc j = omega (arith, e) in
    schema usable plan ∙ ap (λ n. get_or (schema_pages front usable number es) n []) next ∙ sym (ap (λ ps. get_or ps j []) same)

-- a page is put, and the others are still to come
pub paged_step : (size : ℕ) (number : ℕ → ℕ) (j : ℕ) (pages : List (List ℕ)) → j < length pages
    → paged size number j (drop j pages) ≡ (gap size (number j) ++ get_or pages j []) ++ paged size number (j + 1) (drop (j + 1) pages)
paged_step size number j pages lt =
    ap (paged size number j) (drop-cons pages j [] lt ∙ ap (λ n. get_or pages j [] ∷ drop n pages) (sym (add-one j)))
    ∙ sym (append_assoc (gap size (number j)) (get_or pages j []) (paged size number (j + 1) (drop (j + 1) pages)))

pub paged_end : (size : ℕ) (number : ℕ → ℕ) (j : ℕ) (pages : List (List ℕ)) → length pages ≤ j → paged size number j (drop j pages) ≡ []
paged_end size number zero [] le = refl
paged_end size number (suc j) [] le = refl
paged_end size number zero (p ∷ ps) le = absurd (omega arith)
paged_end size number (suc j) (p ∷ ps) le = by_end (drop j ps) (omega (arith, length-drop j ps))
  where
    by_end : (xs : List (List ℕ)) → length xs ≤ 0 → paged size number (suc j) xs ≡ []
    by_end [] l = refl
    by_end (x ∷ xs) l = absurd (omega arith)
