-- A loop over orphan trees, whose cells take their turns.
use Rattle.std.proofs.Common.{◌≡◌, ◌≤◌, ℕ, ◌+◌, List, [], ◌∷◌, ◌++◌, length, map, refl, sym, ◌∙◌, ap, subst, arith, append_assoc, append-nil, length-append}
use Rattle.std.specs.Prelude.{IfSome}
use Rattle.std.specs.List.{AllByRecursion, flat_map}
use Rattle.std.proofs.lemmas.Grind.{flat_map-append}
use Rattle.std.proofs.lemmas.List.{map-append}
use Rattle.std.proofs.lemmas.Option.{IfSome_then}
use Rattle.page_access.specs.declared.geometry.Geometry.{Geometry}
use Rattle.page_access.specs.declared.outside.Source as source
use Rattle.page_access.specs.Cache.{HasAll, IsCacheOf}
use Rattle.page_access.specs.Files.{IsWhole, file_of}
use Rattle.page_access.specs.Outside.{KeepsSource}
use Rattle.page_access.proofs.Caching.{cached_at}
use Rattle.page_access.proofs.Keeps.{Passed, passed_more, passed_none}
use Rattle.page_access.proofs.Told.{always_told, both_told}
use Rattle.page_lists.specs.Lists.{minus}
use Rattle.page_lists.specs.Table.{Moves, Table, all_moved, unused}
use Rattle.page_lists.proofs.Uses.{Moves-append, Moves-none, all_moved-append, unused-all_moved}
use Rattle.page_walk.specs.Cells.{Outcome}
use Rattle.page_walk.specs.InTurn.{IsSmallTurn}
use Rattle.page_walk.specs.Turns.{ReadsEach}
use Rattle.page_walk.proofs.Going.{all_append}
use Rattle.page_walk.proofs.InTurn.{Moment, reads_more, reads_none, reads_weaker}
use Rattle.tree_uses.specs.Trees.{chains_in}
use Rattle.orphan_trees.specs.Orphans.{IsOrphanOf, Orphan, pages_in}
use Rattle.tree_uses.proofs.Splits.{one_more}
use Rattle.orphan_uses.specs.Order.{HaveOrphanTurns, orphan_turns, turns_at}

-- how many turns each tree has, and how many pages
abbrev turn_counts : List (List (ℕ × List Outcome)) → List ℕ
turn_counts turns = map (λ (ts : List (ℕ × List Outcome)). length ts) turns

abbrev page_counts : List Orphan → List ℕ
page_counts trees = map (λ (t : Orphan). length t.pages) trees

-- the cells of one tree took their turns
pub record Turned {S : Type 0} (s : source.Ghosts S) (geo : Geometry) (t : Orphan) (old new : Moment S) (x : List (ℕ × List Outcome)) : Type 0 where
  pub kept : KeepsSource s.bytes s.attached s.faults s.reads old.src new.src
  pub steady : s.faults new.src ≡ s.faults old.src
  pub cached : IsCacheOf (s.bytes old.src) geo new.cache
  pub moves : Moves 4 old.table new.table
  pub moved : new.table ≡ all_moved (chains_in x) 4 old.table
  pub small : AllByRecursion (IsSmallTurn geo.usable geo.pages) x
  pub len : length x ≡ length t.pages
  pub read : ReadsEach (s.bytes old.src) geo old.table new.table (s.reads old.src) (s.reads new.src) (length t.pages + 0)
  pub full : HasAll old.cache → HasAll new.cache × ReadsEach (s.bytes old.src) geo old.table new.table (s.reads old.src) (s.reads new.src) 0
  pub value : IfSome (s.bytes old.src) (λ all. x ≡ turns_at (file_of all geo) t (unused old.table))

-- those of some trees did, and those of `left` are to come
pub record Turning {S : Type 0} (s : source.Ghosts S) (geo : Geometry) (trees left : List Orphan) (first now : Moment S)
    (done : List (List (ℕ × List Outcome))) : Type 0 where
  pub kept : Passed s.bytes s.attached s.faults s.reads first.src now.src
  pub cached : IsCacheOf (s.bytes now.src) geo now.cache
  pub moves : Moves 4 first.table now.table
  pub moved : now.table ≡ all_moved (flat_map chains_in done) 4 first.table
  pub small : AllByRecursion (AllByRecursion (IsSmallTurn geo.usable geo.pages)) done
  pub bound : AllByRecursion (IsOrphanOf geo.pages) left
  pub count : length done + length left ≡ length trees
  pub each : turn_counts done ++ page_counts left ≡ page_counts trees
  pub read : IfSome (s.bytes first.src) (λ all. IsWhole all geo → s.reads now.src + length (unused now.table) + length (pages_in left)
      ≤ s.reads first.src + length (unused first.table) + length (pages_in trees))
  pub full : HasAll first.cache → HasAll now.cache × ReadsEach (s.bytes first.src) geo first.table now.table (s.reads first.src) (s.reads now.src) 0
  pub value : IfSome (s.bytes first.src) (λ all. done ++ orphan_turns (file_of all geo) left (unused now.table)
      ≡ orphan_turns (file_of all geo) trees (unused first.table))

turning_start : {S : Type 0} (s : source.Ghosts S) (geo : Geometry) (trees : List Orphan) (m : Moment S) → AllByRecursion (IsOrphanOf geo.pages) trees
    → IsCacheOf (s.bytes m.src) geo m.cache → Turning s geo trees trees m m []
turning_start s geo trees m bound cached = record {
  kept = passed_none s.bytes s.attached s.faults s.reads m.src;
  cached = cached;
  moves = Moves-none 4 m.table;
  moved = refl;
  small = tt;
  bound = bound;
  count = omega arith;
  each = refl;
  read = always_told (λ all. IsWhole all geo → s.reads m.src + length (unused m.table) + length (pages_in trees)
      ≤ s.reads m.src + length (unused m.table) + length (pages_in trees)) (s.bytes m.src) (λ all whole. omega arith);
  full = λ all. (all, reads_none (s.bytes m.src) geo m.table (s.reads m.src));
  value = always_told (λ all. orphan_turns (file_of all geo) trees (unused m.table) ≡ orphan_turns (file_of all geo) trees (unused m.table)) (s.bytes m.src)
      (λ all. refl);
}

-- nothing is done yet, as a list of the program
pub turning_none : {S : Type 0} (s : source.Ghosts S) (geo : Geometry) (trees : List Orphan) (m : Moment S) (done : List (List (ℕ × List Outcome))) → done ≡ []
    → AllByRecursion (IsOrphanOf geo.pages) trees → IsCacheOf (s.bytes m.src) geo m.cache → Turning s geo trees trees m m done
turning_none s geo trees m done none bound cached = subst (Turning s geo trees trees m m) (sym none) (turning_start s geo trees m bound cached)

-- one tree more
pub turning_more : {S : Type 0} {s : source.Ghosts S} {geo : Geometry} {trees left : List Orphan} {first now : Moment S} {done : List (List (ℕ × List Outcome))}
    (now' : Moment S) (t : Orphan) (rest : List Orphan) (x : List (ℕ × List Outcome)) (done' : List (List (ℕ × List Outcome)))
    → Turning s geo trees left first now done → left ≡ t ∷ rest → done' ≡ done ++ x ∷ [] → Turned s geo t now now' x → Turning s geo trees rest first now' done'
turning_more {S} {s = s} {geo} {trees} {left} {first} {now} {done} now' t rest x done' was next pushed step =
    let left_by : unused now'.table ≡ minus (unused now.table) (chains_in x) = ap unused step.moved ∙ unused-all_moved (chains_in x) 4 now.table (omega arith) in
    let told : s.bytes now.src ≡ s.bytes first.src = was.kept.told in
    let one : flat_map chains_in done' ≡ flat_map chains_in done ++ chains_in x =
    ap (flat_map chains_in) pushed ∙ flat_map-append chains_in done (x ∷ []) ∙ ap (λ (ps : List ℕ). flat_map chains_in done ++ ps) (append-nil (chains_in x)) in
    let more : length done' ≡ length done + 1 = omega (arith, ap (λ (zs : List (List (ℕ × List Outcome))). length zs) pushed, length-append done (x ∷ [])) in
    let fewer : length (pages_in left) ≡ length t.pages + length (pages_in rest) =
    ap (λ (ts : List Orphan). length (pages_in ts)) next ∙ length-append t.pages (pages_in rest) in
    record {
      kept = passed_more was.kept step.kept step.steady;
      cached = cached_at step.kept.told step.cached;
      moves = Moves-append 4 first.table now.table now'.table (omega arith) was.moves step.moves;
      moved = step.moved ∙ ap (all_moved (chains_in x) 4) was.moved ∙ sym (all_moved-append (flat_map chains_in done) (chains_in x) 4 first.table)
          ∙ ap (λ (ps : List ℕ). all_moved ps 4 first.table) (sym one);
      small = subst (AllByRecursion (AllByRecursion (IsSmallTurn geo.usable geo.pages))) (sym pushed)
          (all_append (AllByRecursion (IsSmallTurn geo.usable geo.pages)) done (x ∷ []) was.small (step.small, tt));
      bound = (subst (AllByRecursion (IsOrphanOf geo.pages)) next was.bound).1;
      count = omega (arith, was.count, ap (λ (ts : List Orphan). length ts) next, more);
      each = one_more (turn_counts done) (turn_counts done') (page_counts left) (page_counts rest) (page_counts trees) (length t.pages)
          (ap turn_counts pushed ∙ map-append (λ (ts : List (ℕ × List Outcome)). length ts) done (x ∷ [])
          ∙ ap (λ (n : ℕ). turn_counts done ++ n ∷ []) step.len)
          (ap page_counts next) was.each;
      read = both_told
          (λ all. IsWhole all geo → s.reads now.src + length (unused now.table) + length (pages_in left)
          ≤ s.reads first.src + length (unused first.table) + length (pages_in trees))
          (λ all. IsWhole all geo → s.reads now'.src + length (unused now'.table) ≤ s.reads now.src + length (unused now.table) + (length t.pages + 0))
          (λ all. IsWhole all geo → s.reads now'.src + length (unused now'.table) + length (pages_in rest)
          ≤ s.reads first.src + length (unused first.table) + length (pages_in trees))
          (s.bytes first.src) (s.bytes now.src) told (λ all p q whole. omega (arith, p whole, q whole, fewer)) was.read step.read;
      full = λ all.
          let before = was.full all in
          let after = step.full before.0 in (
            after.0,
            reads_more (s.bytes first.src) (s.bytes now.src) geo first.table now.table now'.table (s.reads first.src) (s.reads now.src) (s.reads now'.src)
                0 0 told before.1 after.1,
          );
      value = both_told
          (λ all. done ++ orphan_turns (file_of all geo) left (unused now.table) ≡ orphan_turns (file_of all geo) trees (unused first.table))
          (λ all. x ≡ turns_at (file_of all geo) t (unused now.table))
          (λ all. done' ++ orphan_turns (file_of all geo) rest (unused now'.table) ≡ orphan_turns (file_of all geo) trees (unused first.table))
          (s.bytes first.src) (s.bytes now.src) told
          (λ all p q.
          let f = file_of all geo in
          let here : orphan_turns f left (unused now.table) ≡ x ∷ orphan_turns f rest (unused now'.table) =
          ap (λ (ts : List Orphan). orphan_turns f ts (unused now.table)) next
          ∙ ap (λ (y : List (ℕ × List Outcome)). y ∷ orphan_turns f rest (minus (unused now.table) (chains_in y))) (sym q)
          ∙ ap (λ (u : List ℕ). x ∷ orphan_turns f rest u) (sym left_by) in
          ap (λ (zs : List (List (ℕ × List Outcome))). zs ++ orphan_turns f rest (unused now'.table)) pushed
          ∙ append_assoc done (x ∷ []) (orphan_turns f rest (unused now'.table))
          ∙ ap (λ (zs : List (List (ℕ × List Outcome))). done ++ zs) (sym here) ∙ p)
          was.value step.value;
    }

-- all trees are read
pub turning_value : {S : Type 0} {s : source.Ghosts S} {geo : Geometry} {trees left : List Orphan} {first now : Moment S} {done : List (List (ℕ × List Outcome))}
    → Turning s geo trees left first now done → left ≡ [] → IfSome (s.bytes first.src) (λ all. done ≡ orphan_turns (file_of all geo) trees (unused first.table))
turning_value {s = s} {geo} {trees} {left} {first} {now} {done} was end =
    IfSome_then (s.bytes first.src)
    {P = λ all. done ++ orphan_turns (file_of all geo) left (unused now.table) ≡ orphan_turns (file_of all geo) trees (unused first.table)}
    {Q = λ all. done ≡ orphan_turns (file_of all geo) trees (unused first.table)}
    was.value
    (λ all p. sym (append-nil done) ∙ ap (λ (ts : List Orphan). done ++ orphan_turns (file_of all geo) ts (unused now.table)) (sym end) ∙ p)

pub turning_each : {S : Type 0} {s : source.Ghosts S} {geo : Geometry} {trees left : List Orphan} {first now : Moment S} {done : List (List (ℕ × List Outcome))}
    → Turning s geo trees left first now done → left ≡ [] → HaveOrphanTurns trees done
turning_each {done = done} was end =
    sym (append-nil (turn_counts done)) ∙ ap (λ (ts : List Orphan). turn_counts done ++ page_counts ts) (sym end) ∙ was.each

-- the reads of the trees before, and of one more
pub turning_reads : {S : Type 0} {s : source.Ghosts S} {geo : Geometry} {trees left : List Orphan} {first now : Moment S} {done : List (List (ℕ × List Outcome))}
    (t : Orphan) (rest : List Orphan) (new : Table) (n more : ℕ) → Turning s geo trees left first now done → left ≡ t ∷ rest
    → ReadsEach (s.bytes now.src) geo now.table new (s.reads now.src) n (length t.pages + more)
    → ReadsEach (s.bytes first.src) geo first.table new (s.reads first.src) n (length (pages_in trees) + more)
turning_reads {s = s} {geo} {trees} {left} {first} {now} t rest new n more was next read =
    both_told
    (λ all. IsWhole all geo → s.reads now.src + length (unused now.table) + length (pages_in left)
    ≤ s.reads first.src + length (unused first.table) + length (pages_in trees))
    (λ all. IsWhole all geo → n + length (unused new) ≤ s.reads now.src + length (unused now.table) + (length t.pages + more))
    (λ all. IsWhole all geo → n + length (unused new) ≤ s.reads first.src + length (unused first.table) + (length (pages_in trees) + more))
    (s.bytes first.src) (s.bytes now.src) was.kept.told
    (λ all p q whole. omega (arith, p whole, q whole, ap (λ (ts : List Orphan). length (pages_in ts)) next ∙ length-append t.pages (pages_in rest)))
    was.read read

-- the reads at the end
pub turning_done : {S : Type 0} {s : source.Ghosts S} {geo : Geometry} {trees left : List Orphan} {first now : Moment S} {done : List (List (ℕ × List Outcome))}
    (more : ℕ) → Turning s geo trees left first now done
    → ReadsEach (s.bytes first.src) geo first.table now.table (s.reads first.src) (s.reads now.src) (length (pages_in trees) + more)
turning_done {s = s} {geo} {trees} {left} {first} {now} more was =
    IfSome_then (s.bytes first.src)
    {P = λ all. IsWhole all geo → s.reads now.src + length (unused now.table) + length (pages_in left)
    ≤ s.reads first.src + length (unused first.table) + length (pages_in trees)}
    {Q = λ all. IsWhole all geo → s.reads now.src + length (unused now.table) ≤ s.reads first.src + length (unused first.table) + (length (pages_in trees) + more)}
    was.read (λ all p whole. omega (arith, p whole))

pub turning_full : {S : Type 0} {s : source.Ghosts S} {geo : Geometry} {trees left : List Orphan} {first now : Moment S} {done : List (List (ℕ × List Outcome))}
    (m : Moment S) (more : ℕ) → Turning s geo trees left first now done
    → (HasAll now.cache → HasAll m.cache × ReadsEach (s.bytes now.src) geo now.table m.table (s.reads now.src) (s.reads m.src) more)
    → HasAll first.cache → HasAll m.cache × ReadsEach (s.bytes first.src) geo first.table m.table (s.reads first.src) (s.reads m.src) more
turning_full {s = s} {geo} {first = first} {now} m more was step all =
    let before = was.full all in
    let after = step before.0 in (
      after.0,
      reads_weaker (s.bytes first.src) geo first.table m.table (s.reads first.src) (s.reads m.src) (0 + more) more (omega arith)
          (reads_more (s.bytes first.src) (s.bytes now.src) geo first.table now.table m.table (s.reads first.src) (s.reads now.src) (s.reads m.src) 0 more was.kept.told before.1 after.1),
    )
