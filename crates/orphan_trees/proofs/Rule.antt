-- The trees that two passes over the pages give are the orphan trees.
use Rattle.std.proofs.Common.{◌≡◌, ◌<◌, ◌≤◌, inl, inr, ℕ, zero, suc, ◌+◌, ◌==◌, Bool, true, false, ◌&&◌, Option, Some, None, List, [], ◌∷◌, ◌++◌, length, map, take, refl, sym, ◌∙◌, ap, subst, arith, append-nil}
use Rattle.std.specs.Prelude.{if◌then◌else◌, is_some, nat_lt, filter}
use Rattle.std.specs.List.{range_with_len}
use Rattle.std.proofs.lemmas.Bool.{cases_Bool, false≢true}
use Rattle.std.proofs.lemmas.Bool.Decides.{eqb_tells, nat_tests}
use Rattle.std.proofs.lemmas.Grind.{flat_map-append}
use Rattle.page_access.specs.Pages.{File}
use Rattle.page_lists.specs.Lists.{IsPartOf, count, is_in, minus}
use Rattle.page_lists.specs.Table.{is_page}
use Rattle.page_lists.proofs.Counts.{count_in, count_not_in, count-minus, in_from_count, in_head, in_or_not, in_part, minus-append, part_append}
use Rattle.page_lists.proofs.Moves.{count_pages}
use Rattle.cell_reader.specs.declared.shapes.Kind.{Kind}
use Rattle.page_walk.specs.Evidence.{AreOnce}
use Rattle.page_walk.specs.Walk.{kind_on}
use Rattle.page_walk.proofs.InTurn.{in_turn-part}
use Rattle.page_walk.proofs.Levels.{in_append, in_back}
use Rattle.page_walk.proofs.Witness.{fewer_minus}
use Rattle.orphan_trees.specs.Laws.{OrphansAlwaysHold}
use Rattle.orphan_trees.specs.Orphans.{Orphan, behind_first, first_roots, is_orphan, least_tree, least_trees, orphan_children, orphan_pages, orphan_trees, pages_in, tree_at, tree_pages, trees_at}
use Rattle.orphan_trees.specs.Passes.{found_in, has_pages}
use Rattle.orphan_trees.proofs.Lists.{filter-first, filter-none, not_back, not_taken, once_left, one_at_most, page_of_unused, taken_gone}
use Rattle.orphan_trees.proofs.Walks.{orphan_from, orphan_parts, tree_child, tree_kinds, tree_none, tree_part, tree_some}

-- ---- trees that have pages

some_page : (q : ℕ) (ps : List ℕ) → is_in q ps ≡ true → nat_lt 0 (length ps) ≡ true
some_page q [] there = absurd (false≢true there)
some_page q (p ∷ ps) there = grind (arith, nat_tests)

found_one : (t : Orphan) (ts : List Orphan) → has_pages t ≡ true → found_in (t ∷ ts) ≡ t ∷ found_in ts
found_one t ts is = rw is refl

found_not : (t : Orphan) (ts : List Orphan) → t.pages ≡ [] → found_in (t ∷ ts) ≡ found_in ts
found_not t ts none =
    let isnt : has_pages t ≡ false = ap (λ (ps : List ℕ). nat_lt 0 (length ps)) none in
    rw isnt refl

-- trees without pages have none
pub found_pages : (ts : List Orphan) → pages_in (found_in ts) ≡ pages_in ts
found_pages [] = refl
found_pages (t ∷ ts) = by_pages t.pages refl (found_pages ts)
  where
    by_pages : (ps : List ℕ) → t.pages ≡ ps → pages_in (found_in ts) ≡ pages_in ts → pages_in (found_in (t ∷ ts)) ≡ t.pages ++ pages_in ts
    by_pages [] e rest = ap pages_in (found_not t ts e) ∙ rest ∙ ap (λ (qs : List ℕ). qs ++ pages_in ts) (sym e)
    by_pages (p ∷ ps) e rest = ap pages_in (found_one t ts (ap (λ (qs : List ℕ). nat_lt 0 (length qs)) e ∙ some_page p (p ∷ ps) (in_head p ps)))
        ∙ ap (λ (qs : List ℕ). t.pages ++ qs) rest

-- no tree, and the same pages are unused
step_none : (f : File) (c : ℕ) (cs u : List ℕ) → is_orphan f u c ≡ false → found_in (trees_at f (c ∷ cs) u) ≡ found_in (trees_at f cs u)
step_none f c cs u other =
    let none : (tree_at f c u).pages ≡ [] = tree_none f u c other in
    found_not (tree_at f c u) (trees_at f cs (minus u (tree_at f c u).pages)) none
    ∙ ap (λ (ps : List ℕ). found_in (trees_at f cs (minus u ps))) none

-- a tree
step_one : (f : File) (c : ℕ) (cs u : List ℕ) → AreOnce f.pages u → is_orphan f u c ≡ true
    → found_in (trees_at f (c ∷ cs) u) ≡ tree_at f c u ∷ found_in (trees_at f cs (minus u (tree_at f c u).pages))
step_one f c cs u once is =
    found_one (tree_at f c u) (trees_at f cs (minus u (tree_at f c u).pages)) (some_page c (tree_at f c u).pages (tree_some f u c once is))

-- ---- the first pass

one_self : (q : ℕ) → ◌≡◌ {A = ℕ} (if q == q then 1 else 0) 1
one_self q = grind (arith, nat_tests)

-- pages that are a child of no orphan page are not taken by the trees of others
pub first_pass : (f : File) (v cs u : List ℕ) → AreOnce f.pages v → IsPartOf u v → ((q : ℕ) → count q cs ≤ 1)
    → ((q : ℕ) → is_in q cs ≡ true → is_in q (orphan_children f v) ≡ false) → ((q : ℕ) → is_in q cs ≡ true → is_in q u ≡ is_in q v)
    → found_in (trees_at f cs u) ≡ trees_at f (filter (is_orphan f v) cs) u
first_pass f v [] u once part one free same = refl
first_pass f v (c ∷ cs) u once part one free same =
    let once' : AreOnce f.pages u = λ q. omega (arith, once q, part q) in
    let here : is_in c (c ∷ cs) ≡ true = in_from_count c (c ∷ cs) (omega (arith, count_self c cs)) in
    let orphan : is_orphan f u c ≡ is_orphan f v c = ap (λ (b : Bool). b && is_some (kind_on f c)) (same c here) in
    let ps : List ℕ = (tree_at f c u).pages in
    elim (cases_Bool (is_orphan f v c)) [
      | inl is ↦
          step_one f c cs u once' (orphan ∙ is)
          ∙ ap (λ (ts : List Orphan). tree_at f c u ∷ ts)
          (first_pass f v cs (minus u ps) once (λ q. omega (arith, part q, fewer_minus q u ps)) (λ q. omega (arith, one q)) (λ q there. free q (later q there))
          (λ q there. not_taken q u ps (tree_part f u c) (apart (orphan ∙ is) q there) ∙ same q (later q there)))
          ∙ sym (ap (λ (ds : List ℕ). trees_at f ds u) (kept is))
      | inr isnt ↦
          step_none f c cs u (orphan ∙ isnt)
          ∙ first_pass f v cs u once part (λ q. omega (arith, one q)) (λ q there. free q (later q there)) (λ q there. same q (later q there))
          ∙ sym (ap (λ (ds : List ℕ). trees_at f ds u) (dropped isnt))
    ]
  where
    count_self : (c : ℕ) (cs : List ℕ) → 1 ≤ count c (c ∷ cs)
    count_self c cs = count_in c (c ∷ cs) (in_head c cs)

    later : (q : ℕ) → is_in q cs ≡ true → is_in q (c ∷ cs) ≡ true
    later q there = in_back q (c ∷ []) cs there

    kept : is_orphan f v c ≡ true → filter (is_orphan f v) (c ∷ cs) ≡ c ∷ filter (is_orphan f v) cs
    kept is = rw is refl

    dropped : is_orphan f v c ≡ false → filter (is_orphan f v) (c ∷ cs) ≡ filter (is_orphan f v) cs
    dropped isnt = rw isnt refl

    apart : is_orphan f u c ≡ true → (q : ℕ) → is_in q cs ≡ true → is_in q (tree_at f c u).pages ≡ false
    apart is q there =
        elim (cases_Bool (is_in q (tree_at f c u).pages)) [
          | inr out ↦ out
          | inl taken ↦ elim (tree_child f u v c q once part is taken) [
            | inl root ↦ absurd (omega (arith, one q, count_in q cs there, self q root))
            | inr named ↦ absurd (false≢true (sym (free q (later q there)) ∙ named))
          ]
        ]
      where
        self : (q : ℕ) → q ≡ c → count q (c ∷ cs) ≡ 1 + count q cs
        self q root = ap (λ (x : ℕ). (if x == q then 1 else 0) + count q cs) (sym root) ∙ ap (λ (n : ℕ). n + count q cs) (one_self q)

-- ---- the second pass

none_left : (f : File) (m : ℕ) (u : List ℕ) → orphan_pages f u ≡ [] → least_trees f m u ≡ []
none_left f zero u none = refl
none_left f (suc m) u none =
    let least : least_tree f u ≡ [] = ap (λ (ps : List ℕ). map (λ (root : ℕ). tree_at f root u) (take 1 ps)) none in
    ap (λ (ts : List Orphan). ts ++ least_trees f m (minus u (pages_in ts))) least ∙ none_left f m u none

least_is : (f : File) (m : ℕ) (u rest : List ℕ) (p : ℕ) → orphan_pages f u ≡ p ∷ rest
    → least_trees f (suc m) u ≡ tree_at f p u ∷ least_trees f m (minus u (tree_at f p u).pages)
least_is f m u rest p first =
    let least : least_tree f u ≡ tree_at f p u ∷ [] = ap (λ (ps : List ℕ). map (λ (root : ℕ). tree_at f root u) (take 1 ps)) first in
    ap (λ (ts : List Orphan). ts ++ least_trees f m (minus u (pages_in ts))) least
    ∙ ap (λ (ps : List ℕ). tree_at f p u ∷ least_trees f m (minus u ps)) (append-nil (tree_at f p u).pages)

orphan_less : (f : File) (u ps : List ℕ) (q : ℕ) → is_orphan f u q ≡ false → is_orphan f (minus u ps) q ≡ false
orphan_less f u ps q other =
    elim (cases_Bool (is_in q u)) [
      | inl there ↦ elim (cases_Bool (is_some (kind_on f q))) [
        | inl shaped ↦ absurd (false≢true (sym other ∙ orphan_from f u q there shaped))
        | inr not_shaped ↦ rw not_shaped (right_false (is_in q (minus u ps)))
      ]
      | inr out ↦ rw (not_back q u ps out) refl
    ]
  where
    right_false : (b : Bool) → (b && false) ≡ false
    right_false true = refl
    right_false false = refl

-- walks from pages that rise begin each with the least orphan page that is left
pub second_pass : (f : File) (k p m : ℕ) (u : List ℕ) → AreOnce f.pages u → 1 ≤ p → p + k ≡ f.pages + 1 → k ≤ m
    → ((q : ℕ) → q < p → is_orphan f u q ≡ false) → found_in (trees_at f (range_with_len p k) u) ≡ least_trees f m u
second_pass f zero p m u once low ends enough none =
    sym (none_left f m u (filter-none (is_orphan f u) 1 f.pages (λ q from to. none q (omega (arith, to, ends)))))
second_pass f (suc k) p zero u once low ends enough none = absurd (omega (arith, enough))
second_pass f (suc k) p (suc m) u once low ends enough none =
    let ps : List ℕ = (tree_at f p u).pages in
    elim (cases_Bool (is_orphan f u p)) [
      | inl is ↦
          let first : (rest : List ℕ) × (orphan_pages f u ≡ p ∷ rest) =
          filter-first (is_orphan f u) 1 f.pages p low (omega (arith, ends)) is (λ q from to. none q to) in
          step_one f p (range_with_len (p + 1) k) u once is
          ∙ ap (λ (ts : List Orphan). tree_at f p u ∷ ts)
          (second_pass f k (p + 1) m (minus u ps) (once_left f.pages u ps once) (omega arith) (omega (arith, ends)) (omega (arith, enough)) (gone is))
          ∙ sym (least_is f m u first.0 p first.1)
      | inr isnt ↦
          step_none f p (range_with_len (p + 1) k) u isnt
          ∙ second_pass f k (p + 1) (suc m) u once (omega arith) (omega (arith, ends)) (omega (arith, enough)) (λ q below. still isnt q below)
    ]
  where
    still : is_orphan f u p ≡ false → (q : ℕ) → q < p + 1 → is_orphan f u q ≡ false
    still isnt q below =
        elim (eqb_tells q p) [
          | inl w ↦ ap (is_orphan f u) w.1 ∙ isnt
          | inr w ↦ none q (omega (arith, below, w.1))
        ]

    gone : is_orphan f u p ≡ true → (q : ℕ) → q < p + 1 → is_orphan f (minus u (tree_at f p u).pages) q ≡ false
    gone is q below =
        elim (eqb_tells q p) [
          | inl w ↦
              let taken : is_in q (minus u (tree_at f p u).pages) ≡ false =
              taken_gone f.pages q u (tree_at f p u).pages once (tree_part f u p) (ap (λ (x : ℕ). is_in x (tree_at f p u).pages) w.1 ∙ tree_some f u p once is) in
              rw taken refl
          | inr w ↦ orphan_less f u (tree_at f p u).pages q (none q (omega (arith, below, w.1)))
        ]

-- ---- both

-- the pages from which the two passes walk
pub first_trees : (f : File) (v cs : List ℕ) → AreOnce f.pages v → ((q : ℕ) → count q cs ≤ 1)
    → ((q : ℕ) → is_in q cs ≡ true → is_in q (orphan_children f v) ≡ false) → filter (is_orphan f v) cs ≡ first_roots f v
    → found_in (trees_at f cs v) ≡ trees_at f (first_roots f v) v
first_trees f v cs once one free roots =
    first_pass f v cs v once (λ q. omega arith) one free (λ q there. refl) ∙ ap (λ (rs : List ℕ). trees_at f rs v) roots

page_0 : (f : File) (u : List ℕ) → AreOnce f.pages u → (q : ℕ) → q < 1 → is_orphan f u q ≡ false
page_0 f u once q below =
    elim (cases_Bool (is_in q u)) [
      | inl there ↦
          let page : is_page f.pages q ≡ true = page_of_unused f.pages q u once there in
          absurd (grind (arith, nat_tests, page, below))
      | inr out ↦ rw out refl
    ]

pub later_trees : (f : File) (u : List ℕ) → AreOnce f.pages u → found_in (trees_at f (range_with_len 1 f.pages) u) ≡ least_trees f f.pages u
later_trees f u once = second_pass f f.pages 1 f.pages u once (omega arith) (omega arith) (omega arith) (page_0 f u once)

pub both_passes : (f : File) (v u cs : List ℕ) → AreOnce f.pages v → ((q : ℕ) → count q cs ≤ 1)
    → ((q : ℕ) → is_in q cs ≡ true → is_in q (orphan_children f v) ≡ false) → filter (is_orphan f v) cs ≡ first_roots f v
    → u ≡ minus v (pages_in (found_in (trees_at f cs v)))
    → found_in (trees_at f cs v) ++ found_in (trees_at f (range_with_len 1 f.pages) u) ≡ orphan_trees f v
unfolding orphan_trees
both_passes f v u cs once one free roots left =
    let first : found_in (trees_at f cs v) ≡ trees_at f (first_roots f v) v = first_trees f v cs once one free roots in
    let behind : u ≡ behind_first f v = left ∙ ap (λ (ts : List Orphan). minus v (pages_in ts)) first in
    let once' : AreOnce f.pages u = subst (AreOnce f.pages) (sym left) (once_left f.pages v (pages_in (found_in (trees_at f cs v))) once) in
    ap (λ (ts : List Orphan). ts ++ found_in (trees_at f (range_with_len 1 f.pages) u)) first
    ∙ ap (λ (ts : List Orphan). trees_at f (first_roots f v) v ++ ts)
    (later_trees f u once' ∙ ap (least_trees f f.pages) behind)

-- ---- what holds of all orphan trees

pub trees_part : (f : File) (cs u : List ℕ) → IsPartOf (pages_in (trees_at f cs u)) u
trees_part f cs u = in_turn-part (tree_at f) tree_pages cs u (λ c v. tree_part f v c)

trees_kinds : (f : File) (cs u : List ℕ) (q : ℕ) → is_in q (pages_in (trees_at f cs u)) ≡ true → is_some (kind_on f q) ≡ true
trees_kinds f [] u q there = absurd (false≢true there)
trees_kinds f (c ∷ cs) u q there =
    elim (in_append q (tree_at f c u).pages (pages_in (trees_at f cs (minus u (tree_at f c u).pages))) there) [
      | inl here ↦ tree_kinds f u c q here
      | inr later ↦ trees_kinds f cs (minus u (tree_at f c u).pages) q later
    ]

-- each page with a shape from which a walk began has its use
covered : (f : File) (cs u : List ℕ) (q : ℕ) → AreOnce f.pages u → is_in q cs ≡ true → is_some (kind_on f q) ≡ true
    → is_in q (minus u (pages_in (trees_at f cs u))) ≡ false
covered f [] u q once there shaped = absurd (false≢true there)
covered f (c ∷ cs) u q once there shaped =
    let ps : List ℕ = (tree_at f c u).pages in
    let rest : List ℕ = pages_in (trees_at f cs (minus u ps)) in
    ap (is_in q) (minus-append u ps rest)
    ∙ elim (eqb_tells c q) [
      | inl w ↦ not_back q (minus u ps) rest (root_gone w.1)
      | inr w ↦ covered f cs (minus u ps) q (once_left f.pages u ps once) (rw w.0 at there) shaped
    ]
  where
    root_gone : c ≡ q → is_in q (minus u (tree_at f c u).pages) ≡ false
    root_gone same =
        elim (cases_Bool (is_in c u)) [
          | inl free ↦
              let is : is_orphan f u c ≡ true = orphan_from f u c free (ap (λ (x : ℕ). is_some (kind_on f x)) same ∙ shaped) in
              ap (λ (x : ℕ). is_in x (minus u (tree_at f c u).pages)) (sym same)
              ∙ taken_gone f.pages c u (tree_at f c u).pages once (tree_part f u c) (tree_some f u c once is)
          | inr out ↦ ap (λ (x : ℕ). is_in x (minus u (tree_at f c u).pages)) (sym same) ∙ not_back c u (tree_at f c u).pages out
        ]

-- the pages of the trees of both passes
all_pages : (f : File) (u : List ℕ) → AreOnce f.pages u → pages_in (orphan_trees f u)
    ≡ pages_in (trees_at f (first_roots f u) u) ++ pages_in (trees_at f (range_with_len 1 f.pages) (behind_first f u))
unfolding orphan_trees
all_pages f u once =
    let firsts : List Orphan = trees_at f (first_roots f u) u in
    let left : List ℕ = behind_first f u in
    flat_map-append tree_pages firsts (least_trees f f.pages left)
    ∙ ap (λ (ts : List Orphan). pages_in firsts ++ pages_in ts) (sym (later_trees f left (once_left f.pages u (pages_in firsts) once)))
    ∙ ap (λ (ps : List ℕ). pages_in firsts ++ ps) (found_pages (trees_at f (range_with_len 1 f.pages) left))

pub all_part : (f : File) (u : List ℕ) → AreOnce f.pages u → IsPartOf (pages_in (orphan_trees f u)) u
all_part f u once =
    let firsts : List ℕ = pages_in (trees_at f (first_roots f u) u) in
    let later : List ℕ = pages_in (trees_at f (range_with_len 1 f.pages) (behind_first f u)) in
    subst (λ (ps : List ℕ). IsPartOf ps u) (sym (all_pages f u once))
    (part_append u firsts later (trees_part f (first_roots f u) u) (trees_part f (range_with_len 1 f.pages) (behind_first f u)))

all_shaped : (f : File) (u : List ℕ) (q : ℕ) → AreOnce f.pages u → is_in q (pages_in (orphan_trees f u)) ≡ true → is_some (kind_on f q) ≡ true
all_shaped f u q once there =
    let firsts : List ℕ = pages_in (trees_at f (first_roots f u) u) in
    let later : List ℕ = pages_in (trees_at f (range_with_len 1 f.pages) (behind_first f u)) in
    elim (in_append q firsts later (sym (ap (is_in q) (all_pages f u once)) ∙ there)) [
      | inl first ↦ trees_kinds f (first_roots f u) u q first
      | inr last ↦ trees_kinds f (range_with_len 1 f.pages) (behind_first f u) q last
    ]

-- no orphan page is left
all_covered : (f : File) (u : List ℕ) (q : ℕ) → AreOnce f.pages u → is_orphan f u q ≡ true → is_in q (minus u (pages_in (orphan_trees f u))) ≡ false
all_covered f u q once is =
    let firsts : List ℕ = pages_in (trees_at f (first_roots f u) u) in
    let later : List ℕ = pages_in (trees_at f (range_with_len 1 f.pages) (behind_first f u)) in
    let parts : (is_in q u ≡ true) × (is_some (kind_on f q) ≡ true) = orphan_parts f u q is in
    let page : is_page f.pages q ≡ true = page_of_unused f.pages q u once parts.0 in
    let there : is_in q (range_with_len 1 f.pages) ≡ true =
    in_from_count q (range_with_len 1 f.pages) (omega (arith, count_pages f.pages q, ap {B = ℕ} (λ (b : Bool). if b then 1 else 0) page)) in
    ap (λ (ps : List ℕ). is_in q (minus u ps)) (all_pages f u once)
    ∙ ap (is_in q) (minus-append u firsts later)
    ∙ covered f (range_with_len 1 f.pages) (behind_first f u) q (once_left f.pages u firsts once) there parts.1

no_kind : (o : Option Kind) → (is_some o ≡ true → ⊥) → o ≡ None
no_kind None other = refl
no_kind (Some k) other = absurd (other refl)

pub orphans_hold : OrphansAlwaysHold
orphans_hold f u once =
    let ps : List ℕ = pages_in (orphan_trees f u) in record {
      once = λ q. elim (cases_Bool (is_orphan f u q)) [
        | inl is ↦ rw is (omega (
          arith,
          count-minus q u ps (all_part f u once),
          count_not_in q (minus u ps) (all_covered f u q once is),
          count_in q u (orphan_parts f u q is).0,
          one_at_most f.pages q u once,
        ))
        | inr isnt ↦ rw isnt (elim (in_or_not q ps) [
          | inl w ↦ absurd (false≢true (sym isnt ∙ orphan_from f u q (in_part q ps u (all_part f u once) w.0) (all_shaped f u q once w.0)))
          | inr w ↦ w.1
        ])
      ];
      left = λ q there. no_kind (kind_on f q) (λ shaped.
          false≢true (sym (all_covered f u q once (orphan_from f u q (was_unused q ps there) shaped)) ∙ there));
    }
  where
    was_unused : (q : ℕ) (ps : List ℕ) → is_in q (minus u ps) ≡ true → is_in q u ≡ true
    was_unused q ps there = in_from_count q u (omega (arith, fewer_minus q u ps, count_in q (minus u ps) there))
