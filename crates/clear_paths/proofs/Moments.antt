-- The pages that are used at a moment of the order of use: each is touched, and some number that was looked at names it.
use Rattle.std.proofs.Common.{◌≡◌, ◌≤◌, ◌⊎◌, ℕ, zero, suc, ◌+◌, true, Option, Some, None, List, [], ◌∷◌, ◌++◌, refl, inl, inr, sym, subst, arith}
use Rattle.std.specs.Prelude.{ℤ}
use Rattle.std.specs.List.{flat_map}
use Rattle.page_access.specs.Pages.{File}
use Rattle.page_lists.specs.Lists.{IsPartOf, count, is_in, minus}
use Rattle.page_lists.specs.Table.{is_page}
use Rattle.page_lists.proofs.Counts.{count-append, count-minus, count_in, in_from_count, minus-append}
use Rattle.page_lists.proofs.Moves.{count_pages}
use Rattle.cell_reader.specs.declared.shapes.Kind.{Kind}
use Rattle.page_walk.specs.Evidence.{AreOnce}
use Rattle.page_walk.specs.Pointers.{pointers_on}
use Rattle.page_walk.specs.Turns.{chains_on}
use Rattle.page_walk.specs.Walk.{walk}
use Rattle.page_walk.proofs.Chains.{chains_are_unused, walks_are_unused}
use Rattle.page_walk.proofs.Levels.{in_back, in_front, names_of_level}
use Rattle.tree_uses.specs.Trees.{pages_in, tree_for, walk_for, walks}
use Rattle.tree_uses.specs.declared.walks.WantedTree.{WantedTree}
use Rattle.orphan_trees.proofs.Lists.{once_left}
use Rattle.clear_paths.specs.Clear.{Touched, all_pages, named, next_on, outer_numbers, overflows_on, root_number}
use Rattle.clear_paths.proofs.Measures.{times, times-append}
use Rattle.clear_paths.proofs.Naming.{AreAsked, pages_asked, walk_named, walk_touched}

-- the numbers outside the pages that were looked at, the pages of trees, the overflow numbers that were looked at, and the
-- pages of chains
pub record Used : Type 0 where
  pub seen : List ℕ
  pub trees : List ℕ
  pub asked : List ℕ
  pub chains : List ℕ

abbrev pub no_use : Used
no_use = record { seen = []; trees = []; asked = []; chains = [] }

abbrev pub more_used : Used → Used → Used
more_used d e = record { seen = d.seen ++ e.seen; trees = d.trees ++ e.trees; asked = d.asked ++ e.asked; chains = d.chains ++ e.chains }

-- how often the numbers that were looked at are q: those outside the pages, the pointers of tree pages, the overflow
-- numbers, and the first bytes of chain pages
abbrev pub times_named : File → Used → ℕ → ℕ
times_named f d q = count q d.seen + times (pointers_on f) d.trees q + count q d.asked + times (next_on f) d.chains q

-- these uses take their pages of those that are unused before, and leave those that are unused after
pub record Takes (f : File) (roots : List ℕ) (d : Used) (before after : List ℕ) : Type 0 where
  pub parts : (q : ℕ) → count q d.trees + count q d.chains + count q after ≡ count q before
  pub touched : (q : ℕ) → 1 ≤ count q d.trees + count q d.chains → Touched f roots q
  pub named : (q : ℕ) → 1 ≤ count q d.trees + count q d.chains → 1 ≤ times_named f d q

-- all uses up to a moment
abbrev pub Moment : File → List ℕ → Used → List ℕ → Type 0
Moment f roots d unused = Takes f roots d (all_pages f) unused

one_of : (a b : ℕ) → 1 ≤ a + b → (1 ≤ a) ⊎ (1 ≤ b)
one_of zero b h = inr (omega (arith, h))
one_of (suc a) b h = inl (omega arith)

pub takes_none : (f : File) (roots u : List ℕ) → Takes f roots no_use u u
takes_none f roots u = record {
  parts = λ q. omega arith;
  touched = λ q h. absurd (omega (arith, h));
  named = λ q h. absurd (omega (arith, h));
}

-- some uses and then others
pub takes_more : (f : File) (roots : List ℕ) (d e : Used) (a b c : List ℕ) → Takes f roots d a b → Takes f roots e b c
    → Takes f roots (more_used d e) a c
takes_more f roots d e a b c first next = record {
  parts = λ q. omega (arith, count-append q d.trees e.trees, count-append q d.chains e.chains, first.parts q, next.parts q);
  touched = λ q h. elim (either q h) [ inl x ↦ first.touched q x | inr y ↦ next.touched q y ];
  named = λ q h. elim (either q h) [ inl x ↦ by_first q (first.named q x) | inr y ↦ by_next q (next.named q y) ];
}
  where
    either : (q : ℕ) → 1 ≤ count q (d.trees ++ e.trees) + count q (d.chains ++ e.chains)
        → (1 ≤ count q d.trees + count q d.chains) ⊎ (1 ≤ count q e.trees + count q e.chains)
    either q h = one_of (count q d.trees + count q d.chains) (count q e.trees + count q e.chains)
        (omega (arith, h, count-append q d.trees e.trees, count-append q d.chains e.chains))

    both : (q : ℕ) → times_named f (more_used d e) q ≡ times_named f d q + times_named f e q
    both q = omega (
      arith,
      count-append q d.seen e.seen,
      times-append (pointers_on f) d.trees e.trees q,
      count-append q d.asked e.asked,
      times-append (next_on f) d.chains e.chains q,
    )

    by_first : (q : ℕ) → 1 ≤ times_named f d q → 1 ≤ times_named f (more_used d e) q
    by_first q h = omega (arith, both q, h)

    by_next : (q : ℕ) → 1 ≤ times_named f e q → 1 ≤ times_named f (more_used d e) q
    by_next q h = omega (arith, both q, h)

-- the pages that are unused at a moment are pages of the file, each once
pub moment_once : (f : File) (roots : List ℕ) (d : Used) (u : List ℕ) → Moment f roots d u → AreOnce f.pages u
moment_once f roots d u m q = omega (arith, m.parts q, count_pages f.pages q)

-- ---- a walk

abbrev pub tree_used : List ℕ → List ℕ → Used
tree_used root pages = record { seen = root; trees = pages; asked = []; chains = [] }

-- a root is a position outside the pages
abbrev pub IsOuter : List ℕ → ℤ → Type 0
IsOuter roots root = (r : ℕ) → is_in r (root_number root) ≡ true → is_in r (outer_numbers roots) ≡ true

pub walk_takes : (f : File) (roots : List ℕ) (u : List ℕ) (root : ℤ) (kind : Kind) → AreOnce f.pages u → IsOuter roots root
    → Takes f roots (tree_used (root_number root) (walk f u root kind)) u (minus u (walk f u root kind))
walk_takes f roots u root kind once outer = record {
  parts = λ q. omega (arith, count-minus q u (walk f u root kind) (walks_are_unused f u root kind).part);
  touched = λ q h. walk_touched f roots u root kind q once outer (there q h);
  named = λ q h. omega (arith, walk_named f u root kind q once (there q h));
}
  where
    there : (q : ℕ) → 1 ≤ count q (walk f u root kind) + 0 → is_in q (walk f u root kind) ≡ true
    there q h = in_from_count q (walk f u root kind) (omega (arith, h))

pub tree_takes : (f : File) (roots u : List ℕ) (root : ℤ) (kind : Option Kind) → AreOnce f.pages u → IsOuter roots root
    → Takes f roots (tree_used (root_number root) (walk_for f u root kind)) u (minus u (walk_for f u root kind))
tree_takes f roots u root None once outer = record {
  parts = λ q. omega arith;
  touched = λ q h. absurd (omega (arith, h));
  named = λ q h. absurd (omega (arith, h));
}
tree_takes f roots u root (Some kind) once outer = walk_takes f roots u root kind once outer

-- the roots of wanted trees
abbrev pub wanted_roots : List WantedTree → List ℕ
wanted_roots ws = flat_map (λ (w : WantedTree). root_number w.root) ws

-- trees that are walked one after another
pub trees_take : (f : File) (roots u : List ℕ) (list : ℕ) (ws : List WantedTree) → AreOnce f.pages u
    → ((q : ℕ) → count q (wanted_roots ws) ≤ count q (outer_numbers roots))
    → Takes f roots (tree_used (wanted_roots ws) (pages_in (walks f list ws u))) u (minus u (pages_in (walks f list ws u)))
trees_take f roots u list [] once among = takes_none f roots u
trees_take f roots u list (w ∷ ws) once among =
    let here : List ℕ = walk_for f u w.root w.kind in
    let left : List ℕ = minus u here in
    let later : List ℕ = pages_in (walks f list ws left) in
    let outer : IsOuter roots w.root = λ r h. in_from_count r (outer_numbers roots)
    (omega (arith, among r, count-append r (root_number w.root) (wanted_roots ws), count_in r (root_number w.root) h)) in
    let next : Takes f roots (tree_used (wanted_roots ws) later) left (minus left later) = trees_take f roots left list ws (once_left f.pages u here once)
    (λ q. omega (arith, among q, count-append q (root_number w.root) (wanted_roots ws))) in
    subst (λ (v : List ℕ). Takes f roots (tree_used (wanted_roots (w ∷ ws)) (here ++ later)) u v) (sym (minus-append u here later))
    (takes_more f roots (tree_used (root_number w.root) here) (tree_used (wanted_roots ws) later) u left (minus left later)
    (tree_takes f roots u w.root w.kind once outer) next)

-- ---- turns

abbrev pub chain_used : List ℕ → List ℕ → Used
chain_used asked pages = record { seen = []; trees = []; asked = asked; chains = pages }

pub asked_take : (f : File) (roots u asked pages : List ℕ) → IsPartOf pages u → AreAsked f roots asked pages
    → ((r : ℕ) → is_in r asked ≡ true → is_page f.pages r ≡ true → Touched f roots r)
    → Takes f roots (chain_used asked pages) u (minus u pages)
asked_take f roots u asked pages part are given = record {
  parts = λ q. omega (arith, count-minus q u pages part);
  touched = λ q h. are.touched_so given q (in_from_count q pages (omega (arith, h)));
  named = λ q h. omega (arith, are.named_so q (in_from_count q pages (omega (arith, h))));
}

-- an overflow number on a touched page is that of a touched page, if of one
pub overflow_touched : (f : File) (roots : List ℕ) (p r : ℕ) → Touched f roots p → is_in r (overflows_on f p) ≡ true → is_page f.pages r ≡ true
    → Touched f roots r
overflow_touched f roots p r t there page =
    named p r t (in_back r (pointers_on f p) (overflows_on f p ++ next_on f p) (in_front r (overflows_on f p) (next_on f p) there)) page

pub pages_take : (f : File) (roots ps u : List ℕ) → AreOnce f.pages u → ((p : ℕ) → is_in p ps ≡ true → Touched f roots p)
    → Takes f roots (chain_used (flat_map (overflows_on f) ps) (chains_on f ps u)) u (minus u (chains_on f ps u))
pages_take f roots ps u once are =
    asked_take f roots u (flat_map (overflows_on f) ps) (chains_on f ps u) (chains_are_unused f ps u) (pages_asked f roots ps u once)
    (λ r there page. let by = names_of_level (overflows_on f) r ps there in overflow_touched f roots by.0 r (are by.0 by.1) by.2 page)
