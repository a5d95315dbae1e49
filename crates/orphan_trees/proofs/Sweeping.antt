-- Walks from the pages of a file, rising, and what is to come of them.
use Rattle.std.proofs.Common.{◌≡◌, ◌<◌, ◌≤◌, ℕ, ◌+◌, ◌-◌, ◌*◌, Bool, true, false, not, List, [], ◌∷◌, ◌++◌, length, refl, sym, ◌∙◌, ap, subst, arith}
use Rattle.std.specs.Prelude.{IfSome, if◌then◌else◌}
use Rattle.std.specs.List.{AllByRecursion, range_with_len}
use Rattle.std.proofs.lemmas.Grind.{flat_map-append}
use Rattle.std.proofs.lemmas.List.Elements.{filter-append}
use Rattle.std.proofs.lemmas.Option.{IfSome_then}
use Rattle.page_access.specs.Cache.{HasAll, IsCacheOf}
use Rattle.page_access.specs.Files.{file_of}
use Rattle.page_access.specs.declared.geometry.Geometry.{Geometry}
use Rattle.page_access.specs.declared.outside.Source as source
use Rattle.page_access.proofs.Told.{both_told}
use Rattle.page_lists.specs.Lists.{IsPartOf}
use Rattle.page_lists.specs.Table.{MovesFront, Table, all_moved, unused}
use Rattle.page_lists.proofs.Counts.{part_none}
use Rattle.page_walk.specs.Turns.{ReadsEach}
use Rattle.page_walk.proofs.Fronts.{front_all, then_front}
use Rattle.page_walk.proofs.InTurn.{Moment, Stepped, Stepping, Steps, stepping_more, stepping_reads, stepping_start, stepping_value}
use Rattle.tree_uses.proofs.Parts.{part_more}
use Rattle.orphan_trees.specs.Orphans.{IsOrphanOf, Orphan, pages_in, tree_at, tree_pages, trees_at}
use Rattle.orphan_trees.specs.Passes.{found_in, has_mark, has_pages, unmarked}
use Rattle.orphan_trees.proofs.Marking.{range_next}
use Rattle.orphan_trees.proofs.Rule.{found_pages}

-- the walks of a pass
abbrev pub walks_of : Geometry → Steps ℕ Orphan
walks_of geo = record {
  list = 6;
  reads = 0;
  give = λ (all : List ℕ) (p : ℕ) (u : List ℕ). tree_at (file_of all geo) p u;
  taken = tree_pages;
  Good = IsOrphanOf geo.pages;
}

-- the pages behind page i from which a walk is to come, and all pages from which one comes
abbrev pub roots_behind : Geometry → List Bool → ℕ → List ℕ
roots_behind geo marks i = unmarked marks (range_with_len (i + 1) (geo.pages - i))

abbrev pub all_roots : Geometry → List Bool → List ℕ
all_roots geo marks = unmarked marks (range_with_len 1 geo.pages)

-- the walks from the first i pages are done; those that gave pages are found
pub record Sweeping {S : Type 0} (s : source.Ghosts S) (geo : Geometry) (marks : List Bool) (i : ℕ) (first now : Moment S) (found : List Orphan) : Type 0 where
  pub done : List Orphan
  pub steps : Stepping s geo (walks_of geo) (all_roots geo marks) (roots_behind geo marks i) first now done
  pub full : HasAll first.cache → HasAll now.cache × (now.src ≡ first.src)
  pub part : IsPartOf (pages_in done) (unused first.table)
  pub found_are : found ≡ found_in done

pub sweeping_start : {S : Type 0} (s : source.Ghosts S) (geo : Geometry) (marks : List Bool) (m : Moment S) (found : List Orphan) → found ≡ []
    → IsCacheOf (s.bytes m.src) geo m.cache → Sweeping s geo marks 0 m m found
sweeping_start s geo marks m found none cached =
    let whole : geo.pages ≡ geo.pages - 0 = omega arith in record {
      done = [];
      steps = subst (λ (n : ℕ). Stepping s geo (walks_of geo) (all_roots geo marks) (unmarked marks (range_with_len 1 n)) m m []) whole
          (stepping_start s geo (walks_of geo) (all_roots geo marks) m cached);
      full = λ all. (all, refl);
      part = part_none (unused m.table);
      found_are = none;
    }

roots_kept : (geo : Geometry) (marks : List Bool) (i : ℕ) → i < geo.pages → has_mark marks (i + 1) ≡ false
    → roots_behind geo marks i ≡ (i + 1) ∷ roots_behind geo marks (i + 1)
roots_kept geo marks i lt none =
    ap (unmarked marks) (range_next i geo.pages lt)
    ∙ ap (λ (b : Bool). if not b then (i + 1) ∷ roots_behind geo marks (i + 1) else roots_behind geo marks (i + 1)) none

roots_passed : (geo : Geometry) (marks : List Bool) (i : ℕ) → i < geo.pages → has_mark marks (i + 1) ≡ true
    → roots_behind geo marks i ≡ roots_behind geo marks (i + 1)
roots_passed geo marks i lt some =
    ap (unmarked marks) (range_next i geo.pages lt)
    ∙ ap (λ (b : Bool). if not b then (i + 1) ∷ roots_behind geo marks (i + 1) else roots_behind geo marks (i + 1)) some

-- a page with a mark is passed over
pub sweeping_past : {S : Type 0} {s : source.Ghosts S} {geo : Geometry} {marks : List Bool} {i : ℕ} {first now : Moment S} {found : List Orphan}
    → Sweeping s geo marks i first now found → i < geo.pages → has_mark marks (i + 1) ≡ true → Sweeping s geo marks (i + 1) first now found
sweeping_past {s = s} {geo} {marks} {i} {first} {now} {found} was lt some = record {
  done = was.done;
  steps = subst (λ (left : List ℕ). Stepping s geo (walks_of geo) (all_roots geo marks) left first now was.done) (roots_passed geo marks i lt some) was.steps;
  full = was.full;
  part = was.part;
  found_are = was.found_are;
}

-- a walk is done
pub sweeping_more : {S : Type 0} {s : source.Ghosts S} {geo : Geometry} {marks : List Bool} {i : ℕ} {first now : Moment S} {found : List Orphan}
    (now' : Moment S) (t : Orphan) (found' : List Orphan) → Sweeping s geo marks i first now found → i < geo.pages → has_mark marks (i + 1) ≡ false
    → Stepped s geo (walks_of geo) (i + 1) now now' t → (HasAll now.cache → HasAll now'.cache × (now'.src ≡ now.src))
    → IsPartOf t.pages (unused now.table) → found' ≡ found ++ found_in (t ∷ []) → Sweeping s geo marks (i + 1) first now' found'
sweeping_more {s = s} {geo} {marks} {i} {first} {now} {found} now' t found' was lt none step full part pushed = record {
  done = was.done ++ t ∷ [];
  steps = stepping_more now' (i + 1) (roots_behind geo marks (i + 1)) t (was.done ++ t ∷ []) was.steps (omega arith) (roots_kept geo marks i lt none) refl step;
  full = λ all. let before = was.full all in let after = full before.0 in (after.0, after.1 ∙ before.1);
  part = part_more tree_pages 6 first.table now.table was.done t (was.done ++ t ∷ []) (omega arith) was.steps.moved refl was.part part;
  found_are = pushed ∙ ap (λ (ts : List Orphan). ts ++ found_in (t ∷ [])) was.found_are ∙ sym (filter-append has_pages was.done (t ∷ []));
}

-- ---- at the end

no_roots : (geo : Geometry) (marks : List Bool) (i : ℕ) → geo.pages ≤ i → roots_behind geo marks i ≡ []
no_roots geo marks i end =
    let none : ◌≡◌ {A = ℕ} (geo.pages - i) 0 = omega (arith, end) in
    ap (λ (n : ℕ). unmarked marks (range_with_len (i + 1) n)) none

pub sweeping_value : {S : Type 0} {s : source.Ghosts S} {geo : Geometry} {marks : List Bool} {i : ℕ} {first now : Moment S} {found : List Orphan}
    → Sweeping s geo marks i first now found → geo.pages ≤ i
    → IfSome (s.bytes first.src) (λ all. found ≡ found_in (trees_at (file_of all geo) (all_roots geo marks) (unused first.table)))
sweeping_value {s = s} {geo} {marks} {i} {first} {found = found} was end =
    IfSome_then (s.bytes first.src)
    {P = λ all. was.done ≡ trees_at (file_of all geo) (all_roots geo marks) (unused first.table)}
    {Q = λ all. found ≡ found_in (trees_at (file_of all geo) (all_roots geo marks) (unused first.table))}
    (stepping_value was.steps (no_roots geo marks i end))
    (λ all p. was.found_are ∙ ap found_in p)

pub sweeping_moved : {S : Type 0} {s : source.Ghosts S} {geo : Geometry} {marks : List Bool} {i : ℕ} {first now : Moment S} {found : List Orphan}
    → Sweeping s geo marks i first now found → now.table ≡ all_moved (pages_in found) 6 first.table
sweeping_moved {first = first} {found = found} was =
    was.steps.moved ∙ ap (λ (ps : List ℕ). all_moved ps 6 first.table) (sym (ap pages_in was.found_are ∙ found_pages was.done))

pub sweeping_part : {S : Type 0} {s : source.Ghosts S} {geo : Geometry} {marks : List Bool} {i : ℕ} {first now : Moment S} {found : List Orphan}
    → Sweeping s geo marks i first now found → IsPartOf (pages_in found) (unused first.table)
sweeping_part {first = first} was =
    subst (λ (ps : List ℕ). IsPartOf ps (unused first.table)) (sym (ap pages_in was.found_are ∙ found_pages was.done)) was.part

all_found : (n : ℕ) (ts : List Orphan) → AllByRecursion (IsOrphanOf n) ts → AllByRecursion (IsOrphanOf n) (found_in ts)
all_found n [] all = tt
all_found n (t ∷ ts) all = by_test (has_pages t) all.0 (all_found n ts all.1)
  where
    by_test : (b : Bool) → IsOrphanOf n t → AllByRecursion (IsOrphanOf n) (found_in ts) → AllByRecursion (IsOrphanOf n) (if b then t ∷ found_in ts else found_in ts)
    by_test true here later = (here, later)
    by_test false here later = later

pub sweeping_bound : {S : Type 0} {s : source.Ghosts S} {geo : Geometry} {marks : List Bool} {i : ℕ} {first now : Moment S} {found : List Orphan}
    → Sweeping s geo marks i first now found → AllByRecursion (IsOrphanOf geo.pages) found
sweeping_bound {geo = geo} was = subst (AllByRecursion (IsOrphanOf geo.pages)) (sym was.found_are) (all_found geo.pages was.done was.steps.good)

-- ---- at any exit

pub front_none : (ps : List ℕ) (l : ℕ) (a b : Table) → b ≡ a → MovesFront ps l a b
front_none ps l a b same = (0, same)

-- a walk ended so, or is done
pub sweeping_front : {S : Type 0} {s : source.Ghosts S} {geo : Geometry} {marks : List Bool} {i : ℕ} {first now : Moment S} {found : List Orphan}
    (new : Table) → Sweeping s geo marks i first now found → i < geo.pages → has_mark marks (i + 1) ≡ false
    → IfSome (s.bytes now.src) (λ all. MovesFront (tree_at (file_of all geo) (i + 1) (unused now.table)).pages 6 now.table new)
    → IfSome (s.bytes first.src) (λ all. MovesFront (pages_in (trees_at (file_of all geo) (all_roots geo marks) (unused first.table))) 6 first.table new)
sweeping_front {s = s} {geo} {marks} {i} {first} {now} new was lt none front =
    both_told (λ all. was.done ++ trees_at (file_of all geo) (roots_behind geo marks i) (unused now.table) ≡ trees_at (file_of all geo) (all_roots geo marks) (unused first.table))
    (λ all. MovesFront (tree_at (file_of all geo) (i + 1) (unused now.table)).pages 6 now.table new)
    (λ all. MovesFront (pages_in (trees_at (file_of all geo) (all_roots geo marks) (unused first.table))) 6 first.table new)
    (s.bytes first.src) (s.bytes now.src) was.steps.kept.told
    (λ all p m.
    let here : trees_at (file_of all geo) (roots_behind geo marks i) (unused now.table) ≡ trees_at (file_of all geo) ((i + 1) ∷ roots_behind geo marks (i + 1)) (unused now.table) =
    ap (λ (rs : List ℕ). trees_at (file_of all geo) rs (unused now.table)) (roots_kept geo marks i lt none) in
    then_front (pages_in was.done) (tree_at (file_of all geo) (i + 1) (unused now.table)).pages _ (pages_in (trees_at (file_of all geo) (all_roots geo marks) (unused first.table)))
    6 first.table now.table new was.steps.moved m
    (sym (flat_map-append tree_pages was.done (trees_at (file_of all geo) ((i + 1) ∷ roots_behind geo marks (i + 1)) (unused now.table)))
    ∙ ap (λ (ts : List Orphan). pages_in (was.done ++ ts)) (sym here) ∙ ap pages_in p))
    was.steps.value front

-- all walks are done
pub sweeping_all : {S : Type 0} {s : source.Ghosts S} {geo : Geometry} {marks : List Bool} {i : ℕ} {first now : Moment S} {found : List Orphan}
    → Sweeping s geo marks i first now found → geo.pages ≤ i
    → IfSome (s.bytes first.src) (λ all. MovesFront (pages_in (trees_at (file_of all geo) (all_roots geo marks) (unused first.table))) 6 first.table now.table)
sweeping_all {s = s} {geo} {marks} {i} {first} {now} was end =
    IfSome_then (s.bytes first.src)
    {P = λ all. was.done ≡ trees_at (file_of all geo) (all_roots geo marks) (unused first.table)}
    {Q = λ all. MovesFront (pages_in (trees_at (file_of all geo) (all_roots geo marks) (unused first.table))) 6 first.table now.table}
    (stepping_value was.steps (no_roots geo marks i end))
    (λ all p. front_all (pages_in (trees_at (file_of all geo) (all_roots geo marks) (unused first.table))) 6 first.table now.table
    (was.steps.moved ∙ ap (λ (ts : List Orphan). all_moved (pages_in ts) 6 first.table) p))

-- the reads at an exit
pub sweeping_reads : {S : Type 0} {s : source.Ghosts S} {geo : Geometry} {marks : List Bool} {i : ℕ} {first now : Moment S} {found : List Orphan}
    (new : Table) (n more : ℕ) → Sweeping s geo marks i first now found → ReadsEach (s.bytes now.src) geo now.table new (s.reads now.src) n more
    → ReadsEach (s.bytes first.src) geo first.table new (s.reads first.src) n more
sweeping_reads {s = s} {geo} {first = first} new n more was read =
    let no_more : 0 * length was.done + more ≡ more = omega arith in
    subst (ReadsEach (s.bytes first.src) geo first.table new (s.reads first.src) n) no_more (stepping_reads new n more was.steps read)
