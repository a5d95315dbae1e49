-- Both passes, put together.
use Rattle.std.proofs.Common.{◌≡◌, ◌≤◌, inl, inr, ℕ, ◌+◌, ◌*◌, Bool, true, false, not, Option, Some, None, List, [], ◌++◌, length, take, drop, replicate, refl, sym, ◌∙◌, ap, subst, arith, append-nil, length-append}
use Rattle.std.specs.Prelude.{IfSome, if◌then◌else◌, filter}
use Rattle.std.specs.List.{range_with_len}
use Rattle.std.proofs.lemmas.Bool.{cases_Bool}
use Rattle.std.proofs.lemmas.Grind.{flat_map-append}
use Rattle.std.proofs.lemmas.List.{take-append-drop}
use Rattle.std.proofs.lemmas.Option.{IfSome_then}
use Rattle.page_access.specs.Files.{IsWhole, file_of}
use Rattle.page_access.specs.Pages.{File}
use Rattle.page_access.specs.declared.geometry.Geometry.{Geometry}
use Rattle.page_access.proofs.Told.{always_told, both_told}
use Rattle.page_lists.specs.Lists.{IsPartOf, count, is_in, minus}
use Rattle.page_lists.specs.Table.{IsPartition, MovesFront, Table, all_moved, is_page, unused}
use Rattle.page_lists.proofs.Counts.{at_most_one, count-append, count_in, length-minus}
use Rattle.page_lists.proofs.Uses.{all_moved-append, unused-all_moved}
use Rattle.page_lists.proofs.Moves.{count_pages}
use Rattle.page_walk.specs.Evidence.{AreOnce}
use Rattle.page_walk.specs.Turns.{ReadsEach}
use Rattle.page_walk.proofs.Fronts.{then_front}
use Rattle.page_walk.proofs.Witness.{unused_once}
use Rattle.tree_uses.proofs.Parts.{part_then}
use Rattle.orphan_trees.specs.Orphans.{Orphan, ReadsOrphans, is_orphan, orphan_children, orphan_pages, orphan_trees, pages_in, tree_pages, trees_at}
use Rattle.orphan_trees.specs.Passes.{found_in, unmarked, with_marks}
use Rattle.orphan_trees.proofs.Lists.{count-filter, filter-swap, page_of_unused}
use Rattle.orphan_trees.proofs.Marking.{all_unmarked, unnamed_are}
use Rattle.orphan_trees.proofs.Rule.{all_part, both_passes, found_pages, orphans_hold}
use Rattle.orphan_trees.proofs.Sweeping.{front_none}
use Rattle.orphan_trees.proofs.Walks.{orphan_parts}

-- ---- the first roots

-- the pages that are a child of no orphan page
abbrev unnamed : File → List ℕ → List ℕ
unnamed f u = filter (λ p. not (is_in p (orphan_children f u))) (range_with_len 1 f.pages)

unnamed_once : (f : File) (u : List ℕ) (q : ℕ) → count q (unnamed f u) ≤ 1
unnamed_once f u q =
    elim (cases_Bool (is_in q (orphan_children f u))) [
      | inl is ↦ omega (
        arith,
        count-filter (λ p. not (is_in p (orphan_children f u))) q (range_with_len 1 f.pages)
            ∙ ap (λ (b : Bool). if not b then count q (range_with_len 1 f.pages) else 0) is,
      )
      | inr isnt ↦ omega (
        arith,
        count-filter (λ p. not (is_in p (orphan_children f u))) q (range_with_len 1 f.pages)
            ∙ ap (λ (b : Bool). if not b then count q (range_with_len 1 f.pages) else 0) isnt,
        count_pages f.pages q,
        at_most_one (is_page f.pages q),
      )
    ]

unnamed_free : (f : File) (u : List ℕ) (q : ℕ) → is_in q (unnamed f u) ≡ true → is_in q (orphan_children f u) ≡ false
unnamed_free f u q there =
    elim (cases_Bool (is_in q (orphan_children f u))) [
      | inl is ↦ absurd (omega (
        arith,
        count_in q (unnamed f u) there,
        count-filter (λ p. not (is_in p (orphan_children f u))) q (range_with_len 1 f.pages)
            ∙ ap (λ (b : Bool). if not b then count q (range_with_len 1 f.pages) else 0) is,
      ))
      | inr isnt ↦ isnt
    ]

-- the trees of both passes are all orphan trees
passes_are : (f : File) (v u : List ℕ) → AreOnce f.pages v → u ≡ minus v (pages_in (found_in (trees_at f (unnamed f v) v)))
    → found_in (trees_at f (unnamed f v) v) ++ found_in (trees_at f (range_with_len 1 f.pages) u) ≡ orphan_trees f v
passes_are f v u once left =
    both_passes f v u (unnamed f v) once (unnamed_once f v) (unnamed_free f v)
    (filter-swap (is_orphan f v) (λ p. not (is_in p (orphan_children f v))) (range_with_len 1 f.pages)) left

-- the pages without a mark, at the first and at the second pass
roots_first : (f : File) (v : List ℕ) (marks : List Bool) → marks ≡ with_marks (orphan_children f v) (replicate f.pages false)
    → unmarked marks (range_with_len 1 f.pages) ≡ unnamed f v
roots_first f v marks is = ap (λ (ms : List Bool). unmarked ms (range_with_len 1 f.pages)) is ∙ unnamed_are f v

roots_later : (n : ℕ) (none : List Bool) → none ≡ replicate n false → unmarked none (range_with_len 1 n) ≡ range_with_len 1 n
roots_later n none is = ap (λ (ms : List Bool). unmarked ms (range_with_len 1 n)) is ∙ all_unmarked n

-- ---- told

pub value_told : (o o1 o2 : Option (List ℕ)) (geo : Geometry) (t0 t1 : Table) (marks none : List Bool) (first later all_trees : List Orphan) → o1 ≡ o → o2 ≡ o
    → IsPartition t0 → t0.pages ≡ geo.pages
    → IfSome o (λ all. marks ≡ with_marks (orphan_children (file_of all geo) (unused t0)) (replicate geo.pages false)) → none ≡ replicate geo.pages false
    → IfSome o1 (λ all. first ≡ found_in (trees_at (file_of all geo) (unmarked marks (range_with_len 1 geo.pages)) (unused t0)))
    → t1 ≡ all_moved (pages_in first) 6 t0
    → IfSome o2 (λ all. later ≡ found_in (trees_at (file_of all geo) (unmarked none (range_with_len 1 geo.pages)) (unused t1)))
    → all_trees ≡ first ++ later → IfSome o (λ all. all_trees ≡ orphan_trees (file_of all geo) (unused t0))
value_told None o1 o2 geo t0 t1 marks none first later all_trees e1 e2 each same marked empty one moved two joined = tt
value_told (Some all) o1 o2 geo t0 t1 marks none first later all_trees e1 e2 each same marked empty one moved two joined =
    let f : File = file_of all geo in
    let v : List ℕ = unused t0 in
    let first_is : first ≡ found_in (trees_at f (unnamed f v) v) =
    at (λ bytes. first ≡ found_in (trees_at (file_of bytes geo) (unmarked marks (range_with_len 1 geo.pages)) v)) o1 all e1 one
    ∙ ap (λ (rs : List ℕ). found_in (trees_at f rs v)) (roots_first f v marks marked) in
    let later_is : later ≡ found_in (trees_at f (range_with_len 1 geo.pages) (unused t1)) =
    at (λ bytes. later ≡ found_in (trees_at (file_of bytes geo) (unmarked none (range_with_len 1 geo.pages)) (unused t1))) o2 all e2 two
    ∙ ap (λ (rs : List ℕ). found_in (trees_at f rs (unused t1))) (roots_later geo.pages none empty) in
    let left : unused t1 ≡ minus v (pages_in (found_in (trees_at f (unnamed f v) v))) =
    ap unused moved ∙ unused-all_moved (pages_in first) 6 t0 (omega arith) ∙ ap (λ (ts : List Orphan). minus v (pages_in ts)) first_is in
    joined ∙ ap (λ (ts : List Orphan). ts ++ later) first_is ∙ ap (λ (ts : List Orphan). found_in (trees_at f (unnamed f v) v) ++ ts) later_is
    ∙ passes_are f v (unused t1) (unused_once t0 geo.pages each same) left
  where
    at : (P : List ℕ → Type 0) (o' : Option (List ℕ)) (all : List ℕ) → o' ≡ Some all → IfSome o' P → P all
    at P o' all e holds = subst (λ (x : Option (List ℕ)). IfSome x P) e holds

-- the pages of the first pass, or the first of them, have moved
pub first_told : (o o1 : Option (List ℕ)) (geo : Geometry) (t0 t : Table) (marks : List Bool) → o1 ≡ o → IsPartition t0 → t0.pages ≡ geo.pages
    → IfSome o (λ all. marks ≡ with_marks (orphan_children (file_of all geo) (unused t0)) (replicate geo.pages false))
    → IfSome o1 (λ all. MovesFront (pages_in (trees_at (file_of all geo) (unmarked marks (range_with_len 1 geo.pages)) (unused t0))) 6 t0 t)
    → IfSome o (λ all. MovesFront (pages_in (orphan_trees (file_of all geo) (unused t0))) 6 t0 t)
first_told o o1 geo t0 t marks e1 each same marked front =
    both_told (λ all. marks ≡ with_marks (orphan_children (file_of all geo) (unused t0)) (replicate geo.pages false))
    (λ all. MovesFront (pages_in (trees_at (file_of all geo) (unmarked marks (range_with_len 1 geo.pages)) (unused t0))) 6 t0 t)
    (λ all. MovesFront (pages_in (orphan_trees (file_of all geo) (unused t0))) 6 t0 t) o o1 e1
    (λ all is m.
    let f : File = file_of all geo in
    let v : List ℕ = unused t0 in
    let ts : List Orphan = trees_at f (unnamed f v) v in
    let u : List ℕ = minus v (pages_in (found_in ts)) in
    let later : List Orphan = found_in (trees_at f (range_with_len 1 f.pages) u) in
    let pages : pages_in ts ++ pages_in later ≡ pages_in (orphan_trees f v) =
    ap (λ (ps : List ℕ). ps ++ pages_in later) (sym (found_pages ts)) ∙ sym (flat_map-append tree_pages (found_in ts) later)
    ∙ ap pages_in (passes_are f v u (unused_once t0 geo.pages each same) refl) in
    then_front [] (pages_in ts) (pages_in later) (pages_in (orphan_trees f v)) 6 t0 t0 t refl
    (subst (λ (rs : List ℕ). MovesFront (pages_in (trees_at f rs v)) 6 t0 t) (roots_first f v marks is) m) pages) marked front

-- so have those of the first, and those of the second, or the first of them
pub later_told : (o o1 o2 : Option (List ℕ)) (geo : Geometry) (t0 t1 t : Table) (marks none : List Bool) (first : List Orphan) → o1 ≡ o → o2 ≡ o
    → IsPartition t0 → t0.pages ≡ geo.pages
    → IfSome o (λ all. marks ≡ with_marks (orphan_children (file_of all geo) (unused t0)) (replicate geo.pages false)) → none ≡ replicate geo.pages false
    → IfSome o1 (λ all. first ≡ found_in (trees_at (file_of all geo) (unmarked marks (range_with_len 1 geo.pages)) (unused t0)))
    → t1 ≡ all_moved (pages_in first) 6 t0
    → IfSome o2 (λ all. MovesFront (pages_in (trees_at (file_of all geo) (unmarked none (range_with_len 1 geo.pages)) (unused t1))) 6 t1 t)
    → IfSome o (λ all. MovesFront (pages_in (orphan_trees (file_of all geo) (unused t0))) 6 t0 t)
later_told None o1 o2 geo t0 t1 t marks none first e1 e2 each same marked empty one moved two = tt
later_told (Some all) o1 o2 geo t0 t1 t marks none first e1 e2 each same marked empty one moved two =
    let f : File = file_of all geo in
    let v : List ℕ = unused t0 in
    let first_is : first ≡ found_in (trees_at f (unnamed f v) v) =
    at (λ bytes. first ≡ found_in (trees_at (file_of bytes geo) (unmarked marks (range_with_len 1 geo.pages)) v)) o1 all e1 one
    ∙ ap (λ (rs : List ℕ). found_in (trees_at f rs v)) (roots_first f v marks marked) in
    let left : unused t1 ≡ minus v (pages_in (found_in (trees_at f (unnamed f v) v))) =
    ap unused moved ∙ unused-all_moved (pages_in first) 6 t0 (omega arith) ∙ ap (λ (ts : List Orphan). minus v (pages_in ts)) first_is in
    let ts : List Orphan = trees_at f (range_with_len 1 geo.pages) (unused t1) in
    let pages : pages_in first ++ pages_in ts ≡ pages_in (orphan_trees f v) =
    ap (λ (ps : List ℕ). pages_in first ++ ps) (sym (found_pages ts)) ∙ sym (flat_map-append tree_pages first (found_in ts))
    ∙ ap (λ (xs : List Orphan). pages_in (xs ++ found_in ts)) first_is
    ∙ ap pages_in (passes_are f v (unused t1) (unused_once t0 geo.pages each same) left) in
    then_front (pages_in first) (pages_in ts) [] (pages_in (orphan_trees f v)) 6 t0 t1 t moved
    (subst (λ (rs : List ℕ). MovesFront (pages_in (trees_at f rs (unused t1))) 6 t1 t) (roots_later geo.pages none empty)
    (at (λ bytes. MovesFront (pages_in (trees_at (file_of bytes geo) (unmarked none (range_with_len 1 geo.pages)) (unused t1))) 6 t1 t) o2 all e2 two))
    (ap (λ (ps : List ℕ). pages_in first ++ ps) (append-nil (pages_in ts)) ∙ pages)
  where
    at : (P : List ℕ → Type 0) (o' : Option (List ℕ)) (all : List ℕ) → o' ≡ Some all → IfSome o' P → P all
    at P o' all e holds = subst (λ (x : Option (List ℕ)). IfSome x P) e holds

-- no page has moved
pub none_told : (o : Option (List ℕ)) (geo : Geometry) (t : Table) → IfSome o (λ all. MovesFront (pages_in (orphan_trees (file_of all geo) (unused t))) 6 t t)
none_told o geo t = always_told (λ all. MovesFront (pages_in (orphan_trees (file_of all geo) (unused t))) 6 t t) o (λ all. front_none (pages_in (orphan_trees (file_of all geo) (unused t))) 6 t t refl)

-- the pages of the first and of the second pass have moved
pub both_moved : (t0 t1 t2 : Table) (first later all_trees : List Orphan) → t1 ≡ all_moved (pages_in first) 6 t0 → t2 ≡ all_moved (pages_in later) 6 t1
    → all_trees ≡ first ++ later → t2 ≡ all_moved (pages_in all_trees) 6 t0
both_moved t0 t1 t2 first later all_trees one two joined =
    two ∙ ap (all_moved (pages_in later) 6) one ∙ sym (all_moved-append (pages_in first) (pages_in later) 6 t0)
    ∙ ap (λ (ps : List ℕ). all_moved ps 6 t0) (sym (ap pages_in joined ∙ flat_map-append tree_pages first later))

-- their pages are unused ones, each once
pub both_part : (t0 t1 : Table) (first later all_trees : List Orphan) → t1 ≡ all_moved (pages_in first) 6 t0 → all_trees ≡ first ++ later
    → IsPartOf (pages_in first) (unused t0) → IsPartOf (pages_in later) (unused t1) → IsPartOf (pages_in all_trees) (unused t0)
both_part t0 t1 first later all_trees one joined before behind =
    subst (λ (ps : List ℕ). IsPartOf ps (unused t0)) (sym (ap pages_in joined ∙ flat_map-append tree_pages first later))
    (part_then 6 t0 t1 (pages_in first) (pages_in later) (omega arith) one before behind)

-- ---- reads

-- the trees have no more pages than there are orphan pages
few_pages : (f : File) (u : List ℕ) → AreOnce f.pages u → length (pages_in (orphan_trees f u)) ≤ length (orphan_pages f u)
few_pages f u once =
    let ps : List ℕ = pages_in (orphan_trees f u) in
    let part : IsPartOf ps (orphan_pages f u) = λ q. few q in
    omega (arith, length-minus (orphan_pages f u) ps part)
  where
    few : (q : ℕ) → count q (pages_in (orphan_trees f u)) ≤ count q (orphan_pages f u)
    few q =
        elim (cases_Bool (is_orphan f u q)) [
          | inl is ↦
              let page : is_page f.pages q ≡ true = page_of_unused f.pages q u once (orphan_parts f u q is).0 in
              omega (
                arith,
                (orphans_hold f u once).once q,
                ap {B = ℕ} (λ (b : Bool). if b then 1 else 0) is,
                count-filter (is_orphan f u) q (range_with_len 1 f.pages) ∙ ap (λ (b : Bool). if b then count q (range_with_len 1 f.pages) else 0) is,
                count_pages f.pages q,
                ap {B = ℕ} (λ (b : Bool). if b then 1 else 0) page,
              )
          | inr isnt ↦ omega (arith, (orphans_hold f u once).once q, ap {B = ℕ} (λ (b : Bool). if b then 1 else 0) isnt)
        ]

-- of which no more have moved
front_few : (f : File) (t t' : Table) → AreOnce f.pages (unused t) → MovesFront (pages_in (orphan_trees f (unused t))) 6 t t'
    → length (unused t) ≤ length (unused t') + length (orphan_pages f (unused t))
front_few f t t' once front =
    let ps : List ℕ = pages_in (orphan_trees f (unused t)) in
    let these : List ℕ = take front.0 ps in
    let part : IsPartOf these (unused t) = λ q. omega (
      arith,
      all_part f (unused t) once q,
      ap (count q) (take-append-drop front.0 ps),
      count-append q these (drop front.0 ps),
    ) in
    let fewer : length these ≤ length ps = omega (arith, ap (λ (qs : List ℕ). length qs) (take-append-drop front.0 ps), length-append these (drop front.0 ps)) in
    omega (
      arith,
      ap (λ (qs : List ℕ). length qs) (ap unused front.1 ∙ unused-all_moved these 6 t (omega arith)),
      length-minus (unused t) these part,
      fewer,
      few_pages f (unused t) once,
    )

-- the reads for the marks, and then those of the walks
pub reads_told : (o o1 : Option (List ℕ)) (geo : Geometry) (t t' : Table) (i j k more : ℕ) → o1 ≡ o → IsPartition t → t.pages ≡ geo.pages
    → IfSome o (λ all. IsWhole all geo → j ≤ i + length (orphan_pages (file_of all geo) (unused t)))
    → IfSome o (λ all. MovesFront (pages_in (orphan_trees (file_of all geo) (unused t))) 6 t t')
    → ReadsEach o1 geo t t' j k more → ReadsOrphans o geo (unused t) i k more
reads_told o o1 geo t t' i j k more e1 each same marks front walks =
    both_told
    (λ all. (IsWhole all geo → j ≤ i + length (orphan_pages (file_of all geo) (unused t))) × MovesFront (pages_in (orphan_trees (file_of all geo) (unused t))) 6 t t')
    (λ all. IsWhole all geo → k + length (unused t') ≤ j + length (unused t) + more)
    (λ all. IsWhole all geo → k ≤ i + 2 * length (orphan_pages (file_of all geo) (unused t)) + more) o o1 e1
    (λ all p q whole. omega (arith, p.0 whole, q whole, front_few (file_of all geo) t t' (unused_once t geo.pages each same) p.1))
    (both_told (λ all. IsWhole all geo → j ≤ i + length (orphan_pages (file_of all geo) (unused t)))
    (λ all. MovesFront (pages_in (orphan_trees (file_of all geo) (unused t))) 6 t t')
    (λ all. (IsWhole all geo → j ≤ i + length (orphan_pages (file_of all geo) (unused t))) × MovesFront (pages_in (orphan_trees (file_of all geo) (unused t))) 6 t t')
    o o refl (λ all p q. (p, q)) marks front)
    walks

-- those for the marks alone
pub reads_marks : (o : Option (List ℕ)) (geo : Geometry) (u : List ℕ) (i j more : ℕ)
    → IfSome o (λ all. IsWhole all geo → j ≤ i + length (orphan_pages (file_of all geo) u)) → ReadsOrphans o geo u i j more
reads_marks o geo u i j more read =
    IfSome_then o
    {P = λ all. IsWhole all geo → j ≤ i + length (orphan_pages (file_of all geo) u)}
    {Q = λ all. IsWhole all geo → j ≤ i + 2 * length (orphan_pages (file_of all geo) u) + more}
    read (λ all p whole. omega (arith, p whole))
