-- Steps in turn: what they give and take together, and a loop over them.
use Rattle.std.proofs.Common.{◌≡◌, ◌≤◌, ℕ, ◌+◌, ◌*◌, Option, List, [], ◌∷◌, ◌++◌, length, map, refl, sym, ◌∙◌, ap, subst, arith, append_assoc, append-nil, length-append}
use Rattle.std.specs.Prelude.{if◌then◌else◌, Err, IfSome, IsErr, Ok, Result, is_ok}
use Rattle.std.specs.List.{AllByRecursion, flat_map}
use Rattle.std.proofs.lemmas.Grind.{flat_map-append}
use Rattle.std.proofs.lemmas.List.{length-map}
use Rattle.std.proofs.lemmas.Option.{IfSome_then}
use Rattle.page_access.specs.declared.geometry.Geometry.{Geometry}
use Rattle.page_access.specs.declared.outside.Source as source
use Rattle.page_access.specs.Cache.{Cache, HasAll, IsCacheOf}
use Rattle.page_access.specs.Files.{IsWhole, file_of}
use Rattle.page_access.specs.Outside.{KeepsSource}
use Rattle.page_access.specs.Pages.{File}
use Rattle.page_access.proofs.Caching.{cached_at}
use Rattle.page_access.proofs.Keeps.{Passed, passed_more, passed_none}
use Rattle.page_access.proofs.Told.{always_told, both_told}
use Rattle.page_lists.specs.Lists.{IsPartOf, minus}
use Rattle.page_lists.specs.Table.{Table, Moves, MovesFront, all_moved, unused}
use Rattle.page_lists.proofs.Counts.{minus-append, part_append, part_none}
use Rattle.page_lists.proofs.Uses.{Moves-append, Moves-none, all_moved-append, unused-all_moved}
use Rattle.page_walk.specs.declared.outcomes.CellOutcome.{CellOutcome}
use Rattle.page_walk.specs.Bounds.{Adds, IsSmall}
use Rattle.page_walk.specs.Cells.{chains_of, outcome_of, outcomes_on}
use Rattle.page_walk.specs.InTurn.{IsSmallTurn, in_turn, pages_of_turn}
use Rattle.page_walk.specs.Turns.{ReadsEach, chains_on, left_by, turns_on}
use Rattle.page_walk.proofs.Fronts.{front_all, then_front}
use Rattle.page_walk.proofs.Going.{all_append}

-- steps over some items, and then over more
pub in_turn-append : {A X : Type 0} (give : A → List ℕ → X) (taken : X → List ℕ) (xs ys : List A) (unused : List ℕ)
    → in_turn give taken (xs ++ ys) unused ≡ in_turn give taken xs unused ++ in_turn give taken ys (minus unused (flat_map taken (in_turn give taken xs unused)))
in_turn-append give taken [] ys u = refl
in_turn-append {A} {X} give taken (x ∷ xs) ys u =
    ap (λ (zs : List X). give x u ∷ zs)
    (in_turn-append give taken xs ys (minus u (taken (give x u)))
    ∙ ap (λ (v : List ℕ). in_turn give taken xs (minus u (taken (give x u))) ++ in_turn give taken ys v)
    (sym (minus-append u (taken (give x u)) (flat_map taken (in_turn give taken xs (minus u (taken (give x u))))))))

-- where each step takes a part of the unused pages, so do all
pub in_turn-part : {A X : Type 0} (give : A → List ℕ → X) (taken : X → List ℕ) (xs : List A) (unused : List ℕ)
    → ((a : A) (u : List ℕ) → IsPartOf (taken (give a u)) u) → IsPartOf (flat_map taken (in_turn give taken xs unused)) unused
in_turn-part give taken [] u part = part_none u
in_turn-part give taken (x ∷ xs) u part =
    part_append u (taken (give x u)) (flat_map taken (in_turn give taken xs (minus u (taken (give x u))))) (part x u)
    (in_turn-part give taken xs (minus u (taken (give x u))) part)

-- what a step over a source changes
pub record Moment (S : Type 0) : Type 0 where
  pub src : S
  pub cache : Cache
  pub table : Table

-- a loop of steps: what it does, and what each step may do
pub record Steps (A X : Type 0) : Type 1 where
  -- the list that pages move to, and the reads of a step besides those of the pages that move
  pub list : ℕ
  pub reads : ℕ
  pub give : List ℕ → A → List ℕ → X
  pub taken : X → List ℕ
  pub Good : X → Type 0

-- one step
pub record Stepped {S A X : Type 0} (s : source.Ghosts S) (geo : Geometry) (k : Steps A X) (a : A) (old new : Moment S) (x : X) : Type 0 where
  pub kept : KeepsSource s.bytes s.attached s.faults s.reads old.src new.src
  pub steady : s.faults new.src ≡ s.faults old.src
  pub cached : IsCacheOf (s.bytes old.src) geo new.cache
  pub moves : Moves k.list old.table new.table
  pub moved : new.table ≡ all_moved (k.taken x) k.list old.table
  pub good : k.Good x
  pub read : ReadsEach (s.bytes old.src) geo old.table new.table (s.reads old.src) (s.reads new.src) k.reads
  pub full : HasAll old.cache → HasAll new.cache × ReadsEach (s.bytes old.src) geo old.table new.table (s.reads old.src) (s.reads new.src) 0
  pub value : IfSome (s.bytes old.src) (λ all. x ≡ k.give all a (unused old.table))

-- some steps of a loop were made, and those over `left` are to come
pub record Stepping {S A X : Type 0} (s : source.Ghosts S) (geo : Geometry) (k : Steps A X) (xs left : List A) (first now : Moment S) (done : List X) : Type 0 where
  pub kept : Passed s.bytes s.attached s.faults s.reads first.src now.src
  pub cached : IsCacheOf (s.bytes now.src) geo now.cache
  pub moves : Moves k.list first.table now.table
  pub moved : now.table ≡ all_moved (flat_map k.taken done) k.list first.table
  pub good : AllByRecursion k.Good done
  pub count : length done + length left ≡ length xs
  pub read : ReadsEach (s.bytes first.src) geo first.table now.table (s.reads first.src) (s.reads now.src) (k.reads * length done)
  pub full : HasAll first.cache → HasAll now.cache × ReadsEach (s.bytes first.src) geo first.table now.table (s.reads first.src) (s.reads now.src) 0
  pub value : IfSome (s.bytes first.src) (λ all. done ++ in_turn (k.give all) k.taken left (unused now.table)
      ≡ in_turn (k.give all) k.taken xs (unused first.table))

-- reads of one part of the way, and of the next
pub reads_more : (o o' : Option (List ℕ)) (geo : Geometry) (a b c : Table) (i j k m n : ℕ) → o' ≡ o → ReadsEach o geo a b i j m → ReadsEach o' geo b c j k n
    → ReadsEach o geo a c i k (m + n)
reads_more o o' geo a b c i j k m n same first next =
    both_told (λ all. IsWhole all geo → j + length (unused b) ≤ i + length (unused a) + m)
    (λ all. IsWhole all geo → k + length (unused c) ≤ j + length (unused b) + n)
    (λ all. IsWhole all geo → k + length (unused c) ≤ i + length (unused a) + (m + n)) o o' same
    (λ all p q whole. omega (arith, p whole, q whole)) first next

-- fewer reads than are allowed
pub reads_weaker : (o : Option (List ℕ)) (geo : Geometry) (a b : Table) (i j m n : ℕ) → m ≤ n → ReadsEach o geo a b i j m → ReadsEach o geo a b i j n
reads_weaker o geo a b i j m n le read =
    IfSome_then o
    {P = λ all. IsWhole all geo → j + length (unused b) ≤ i + length (unused a) + m}
    {Q = λ all. IsWhole all geo → j + length (unused b) ≤ i + length (unused a) + n} read (λ all p whole. omega (arith, p whole, le))

-- what is claimed of an error
pub at_err : {T E : Type 0} (P : ℕ → Type 0) (r : Result T E) (m n : ℕ) → IsErr r → P n → P (if is_ok r then m else n)
at_err P (Ok x) m n is claim = absurd (cc)
at_err P (Err e) m n is claim = claim

pub reads_none : (o : Option (List ℕ)) (geo : Geometry) (t : Table) (i : ℕ) → ReadsEach o geo t t i i 0
reads_none o geo t i = always_told (λ all. IsWhole all geo → i + length (unused t) ≤ i + length (unused t) + 0) o (λ all whole. omega arith)

pub stepping_start : {S A X : Type 0} (s : source.Ghosts S) (geo : Geometry) (k : Steps A X) (xs : List A) (m : Moment S)
    → IsCacheOf (s.bytes m.src) geo m.cache → Stepping s geo k xs xs m m []
stepping_start s geo k xs m cached = record {
  kept = passed_none s.bytes s.attached s.faults s.reads m.src;
  cached = cached;
  moves = Moves-none k.list m.table;
  moved = refl;
  good = tt;
  count = omega arith;
  read = always_told (λ all. IsWhole all geo → s.reads m.src + length (unused m.table) ≤ s.reads m.src + length (unused m.table) + k.reads * 0) (s.bytes m.src)
      (λ all whole. omega arith);
  full = λ all. (all, reads_none (s.bytes m.src) geo m.table (s.reads m.src));
  value = always_told (λ all. in_turn (k.give all) k.taken xs (unused m.table) ≡ in_turn (k.give all) k.taken xs (unused m.table)) (s.bytes m.src) (λ all. refl);
}

-- nothing is done yet, as a list of the program
pub stepping_none : {S A X : Type 0} (s : source.Ghosts S) (geo : Geometry) (k : Steps A X) (xs : List A) (m : Moment S) (done : List X)
    → done ≡ [] → IsCacheOf (s.bytes m.src) geo m.cache → Stepping s geo k xs xs m m done
stepping_none s geo k xs m done none cached = subst (Stepping s geo k xs xs m m) (sym none) (stepping_start s geo k xs m cached)

times_more : (k n : ℕ) → k * n + k ≡ k * (n + 1)
times_more k n = grind arith

-- one more step was made
pub stepping_more : {S A X : Type 0} {s : source.Ghosts S} {geo : Geometry} {k : Steps A X} {xs left : List A} {first now : Moment S} {done : List X}
    (now' : Moment S) (a : A) (rest : List A) (x : X) (done' : List X) → Stepping s geo k xs left first now done → 1 ≤ k.list → left ≡ a ∷ rest
    → done' ≡ done ++ x ∷ [] → Stepped s geo k a now now' x → Stepping s geo k xs rest first now' done'
stepping_more {S} {A} {X} {s = s} {geo} {k} {xs} {left} {first} {now} {done} now' a rest x done' was over next pushed step =
    let left_by : unused now'.table ≡ minus (unused now.table) (k.taken x) = ap unused step.moved ∙ unused-all_moved (k.taken x) k.list now.table over in
    let told : s.bytes now.src ≡ s.bytes first.src = was.kept.told in
    let one : flat_map k.taken done' ≡ flat_map k.taken done ++ k.taken x =
    ap (flat_map k.taken) pushed ∙ flat_map-append k.taken done (x ∷ []) ∙ ap (λ (ps : List ℕ). flat_map k.taken done ++ ps) (append-nil (k.taken x)) in
    let more : length done' ≡ length done + 1 = omega (arith, ap (λ (zs : List X). length zs) pushed, length-append done (x ∷ [])) in
    record {
      kept = passed_more was.kept step.kept step.steady;
      cached = cached_at step.kept.told step.cached;
      moves = Moves-append k.list first.table now.table now'.table over was.moves step.moves;
      moved = step.moved ∙ ap (all_moved (k.taken x) k.list) was.moved ∙ sym (all_moved-append (flat_map k.taken done) (k.taken x) k.list first.table)
          ∙ ap (λ (ps : List ℕ). all_moved ps k.list first.table) (sym one);
      good = subst (AllByRecursion k.Good) (sym pushed) (all_append k.Good done (x ∷ []) was.good (step.good, tt));
      count = omega (arith, was.count, ap (λ (zs : List A). length zs) next, more);
      read = subst (λ (n : ℕ). ReadsEach (s.bytes first.src) geo first.table now'.table (s.reads first.src) (s.reads now'.src) n)
          (times_more k.reads (length done) ∙ ap (λ (n : ℕ). k.reads * n) (sym more))
          (reads_more (s.bytes first.src) (s.bytes now.src) geo first.table now.table now'.table (s.reads first.src) (s.reads now.src) (s.reads now'.src)
          (k.reads * length done) k.reads told was.read step.read);
      full = λ all.
          let before = was.full all in
          let after = step.full before.0 in (
            after.0,
            reads_more (s.bytes first.src) (s.bytes now.src) geo first.table now.table now'.table (s.reads first.src) (s.reads now.src) (s.reads now'.src)
                0 0 told before.1 after.1,
          );
      value = both_told
          (λ all. done ++ in_turn (k.give all) k.taken left (unused now.table) ≡ in_turn (k.give all) k.taken xs (unused first.table))
          (λ all. x ≡ k.give all a (unused now.table))
          (λ all. done' ++ in_turn (k.give all) k.taken rest (unused now'.table) ≡ in_turn (k.give all) k.taken xs (unused first.table))
          (s.bytes first.src) (s.bytes now.src) told
          (λ all p q.
          let here : in_turn (k.give all) k.taken left (unused now.table) ≡ x ∷ in_turn (k.give all) k.taken rest (unused now'.table) =
          ap (λ (ys : List A). in_turn (k.give all) k.taken ys (unused now.table)) next
          ∙ ap (λ (y : X). y ∷ in_turn (k.give all) k.taken rest (minus (unused now.table) (k.taken y))) (sym q)
          ∙ ap (λ (u : List ℕ). x ∷ in_turn (k.give all) k.taken rest u) (sym left_by) in
          ap (λ (zs : List X). zs ++ in_turn (k.give all) k.taken rest (unused now'.table)) pushed
          ∙ append_assoc done (x ∷ []) (in_turn (k.give all) k.taken rest (unused now'.table))
          ∙ ap (λ (zs : List X). done ++ zs) (sym here) ∙ p)
          was.value step.value;
    }

-- all steps were made
pub stepping_value : {S A X : Type 0} {s : source.Ghosts S} {geo : Geometry} {k : Steps A X} {xs left : List A} {first now : Moment S} {done : List X}
    → Stepping s geo k xs left first now done → left ≡ [] → IfSome (s.bytes first.src) (λ all. done ≡ in_turn (k.give all) k.taken xs (unused first.table))
stepping_value {A = A} {X} {s} {k = k} {xs} {left} {first} {now} {done} was end =
    IfSome_then (s.bytes first.src)
    {P = λ all. done ++ in_turn (k.give all) k.taken left (unused now.table) ≡ in_turn (k.give all) k.taken xs (unused first.table)}
    {Q = λ all. done ≡ in_turn (k.give all) k.taken xs (unused first.table)}
    was.value
    (λ all p. sym (append-nil done) ∙ ap (λ (ys : List A). done ++ in_turn (k.give all) k.taken ys (unused now.table)) (sym end) ∙ p)

-- the reads where a step ends the loop
pub stepping_reads : {S A X : Type 0} {s : source.Ghosts S} {geo : Geometry} {k : Steps A X} {xs left : List A} {first now : Moment S} {done : List X}
    (new : Table) (n more : ℕ) → Stepping s geo k xs left first now done → ReadsEach (s.bytes now.src) geo now.table new (s.reads now.src) n more
    → ReadsEach (s.bytes first.src) geo first.table new (s.reads first.src) n (k.reads * length done + more)
stepping_reads {s = s} {geo} {k} {first = first} {now} {done} new n more was read =
    reads_more (s.bytes first.src) (s.bytes now.src) geo first.table now.table new (s.reads first.src) (s.reads now.src) n (k.reads * length done) more was.kept.told was.read read

pub stepping_full : {S A X : Type 0} {s : source.Ghosts S} {geo : Geometry} {k : Steps A X} {xs left : List A} {first now : Moment S} {done : List X}
    (c : Cache) (new : Table) (n more : ℕ) → Stepping s geo k xs left first now done
    → (HasAll now.cache → HasAll c × ReadsEach (s.bytes now.src) geo now.table new (s.reads now.src) n more)
    → HasAll first.cache → HasAll c × ReadsEach (s.bytes first.src) geo first.table new (s.reads first.src) n more
stepping_full {s = s} {geo} {first = first} {now} c new n more was step all =
    let before = was.full all in
    let after = step before.0 in (
      after.0,
      reads_weaker (s.bytes first.src) geo first.table new (s.reads first.src) n (0 + more) more (omega arith)
          (reads_more (s.bytes first.src) (s.bytes now.src) geo first.table now.table new (s.reads first.src) (s.reads now.src) n 0 more was.kept.told before.1 after.1),
    )

-- the pages that all steps take
abbrev pub taken_in_turn : {A X : Type 0} → Steps A X → List A → List ℕ → List ℕ → List ℕ
taken_in_turn k xs unused all = flat_map k.taken (in_turn (k.give all) k.taken xs unused)

-- a front of them has moved, where the next step took a front of its own
pub stepping_front : {S A X : Type 0} {s : source.Ghosts S} {geo : Geometry} {k : Steps A X} {xs left : List A} {first now : Moment S} {done : List X}
    (a : A) (rest : List A) (new : Table) → Stepping s geo k xs left first now done → left ≡ a ∷ rest
    → IfSome (s.bytes now.src) (λ all. MovesFront (k.taken (k.give all a (unused now.table))) k.list now.table new)
    → IfSome (s.bytes first.src) (λ all. MovesFront (taken_in_turn k xs (unused first.table) all) k.list first.table new)
stepping_front {A = A} {X} {s} {k = k} {xs} {left} {first} {now} {done} a rest new was next front =
    both_told (λ all. done ++ in_turn (k.give all) k.taken left (unused now.table) ≡ in_turn (k.give all) k.taken xs (unused first.table))
    (λ all. MovesFront (k.taken (k.give all a (unused now.table))) k.list now.table new)
    (λ all. MovesFront (taken_in_turn k xs (unused first.table) all) k.list first.table new)
    (s.bytes first.src) (s.bytes now.src) was.kept.told
    (λ all p m.
    let here : X = k.give all a (unused now.table) in
    let later : List X = in_turn (k.give all) k.taken rest (minus (unused now.table) (k.taken here)) in
    then_front (flat_map k.taken done) (k.taken here) (flat_map k.taken later) (taken_in_turn k xs (unused first.table) all) k.list
    first.table now.table new was.moved m
    (sym (flat_map-append k.taken done (here ∷ later))
    ∙ ap (λ (ys : List A). flat_map k.taken (done ++ in_turn (k.give all) k.taken ys (unused now.table))) (sym next)
    ∙ ap (flat_map k.taken) p))
    was.value front

-- all of them have moved, where all steps were made
pub stepping_front_all : {S A X : Type 0} {s : source.Ghosts S} {geo : Geometry} {k : Steps A X} {xs left : List A} {first now : Moment S} {done : List X}
    → Stepping s geo k xs left first now done → left ≡ []
    → IfSome (s.bytes first.src) (λ all. MovesFront (taken_in_turn k xs (unused first.table) all) k.list first.table now.table)
stepping_front_all {X = X} {s} {k = k} {xs} {left} {first} {now} {done} was end =
    IfSome_then (s.bytes first.src)
    {P = λ all. done ≡ in_turn (k.give all) k.taken xs (unused first.table)}
    {Q = λ all. MovesFront (taken_in_turn k xs (unused first.table) all) k.list first.table now.table}
    (stepping_value was end)
    (λ all e. front_all (taken_in_turn k xs (unused first.table) all) k.list first.table now.table
    (was.moved ∙ ap (λ (zs : List X). all_moved (flat_map k.taken zs) k.list first.table) e))

all_mapped : {X Y : Type 0} (P : Y → Type 0) (f : X → Y) (xs : List X) → AllByRecursion (λ x. P (f x)) xs → AllByRecursion P (map f xs)
all_mapped P f [] all = tt
all_mapped P f (x ∷ xs) all = (all.0, all_mapped P f xs all.1)

-- the outcomes of a page's cells are few and small
pub turn_small : (usable pages page : ℕ) (before after : List CellOutcome) → before ≡ [] → Adds usable pages page before after → 1 ≤ page → page ≤ pages
    → IsSmallTurn usable pages (page, map outcome_of after)
turn_small usable pages page before after none adds low high =
    let same : after ≡ adds.more = adds.all ∙ ap (λ (os : List CellOutcome). os ++ adds.more) none in
    record {
      least = low;
      most = high;
      few = omega (arith, length-map after outcome_of, ap (λ (os : List CellOutcome). length os) same, adds.few);
      small = subst (λ (os : List CellOutcome). AllByRecursion (IsSmall usable pages page) (map outcome_of os)) (sym same)
          (all_mapped (IsSmall usable pages page) outcome_of adds.more adds.small);
    }

-- the pages that the chains of pages take, in turn
pub chains_are : (f : File) (ps unused : List ℕ) → flat_map pages_of_turn (turns_on f ps unused) ≡ chains_on f ps unused
chains_are f [] unused = refl
chains_are f (p ∷ ps) unused = ap (λ (qs : List ℕ). chains_of (outcomes_on f p unused) ++ qs) (chains_are f ps (left_by f p unused))

-- and a front of them, where the turns are told
pub chains_front : (o : Option (List ℕ)) (geo : Geometry) (ps : List ℕ) (l : ℕ) (old new : Table)
    → IfSome o (λ all. MovesFront (flat_map pages_of_turn (turns_on (file_of all geo) ps (unused old))) l old new)
    → IfSome o (λ all. MovesFront (chains_on (file_of all geo) ps (unused old)) l old new)
chains_front o geo ps l old new =
    λ known. IfSome_then o
    {P = λ all. MovesFront (flat_map pages_of_turn (turns_on (file_of all geo) ps (unused old))) l old new}
    {Q = λ all. MovesFront (chains_on (file_of all geo) ps (unused old)) l old new}
    known
    (λ all m. subst (λ (qs : List ℕ). MovesFront qs l old new) (chains_are (file_of all geo) ps (unused old)) m)
