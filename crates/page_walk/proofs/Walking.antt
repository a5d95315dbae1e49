-- The loop over the pages that a walk has found: what it keeps, and what it leaves.
use Rattle.std.proofs.Common.{◌≡◌, ◌<◌, ◌≤◌, ℕ, ◌+◌, Bool, Option, Some, None, List, [], ◌∷◌, ◌++◌, length, take, drop, slice_get, get_or, refl, sym, ◌∙◌, ap, subst, arith, length-append, length-drop}
use Rattle.std.specs.List.{filter}
use Rattle.std.specs.Prelude.{ℤ, option_to_list, IfSome, IsTrue}
use Rattle.std.proofs.lemmas.Option.{IfSome_then}
use Rattle.page_access.specs.declared.geometry.Geometry.{Geometry}
use Rattle.page_access.specs.Files.{IsWhole, file_of}
use Rattle.page_access.specs.Outside.{KeepsSource}
use Rattle.page_access.proofs.Keeps.{Passed, passed_more, passed_none}
use Rattle.page_access.proofs.Told.{always_told, both_told}
use Rattle.page_lists.specs.Lists.{IsPartOf, after, firsts, minus}
use Rattle.page_lists.specs.Table.{Table, IsPartition, Moves, MovesFront, all_moved, list_at, moved, unused}
use Rattle.page_lists.proofs.Counts.{length-minus, part_append}
use Rattle.page_lists.proofs.Uses.{IsPartition-all_moved, Moves-all, Moves-none, all_moved-append, list_at-all_moved, unused-all_moved}
use Rattle.cell_reader.specs.declared.shapes.Kind.{Kind}
use Rattle.page_walk.specs.Pointers.{pointers_on}
use Rattle.page_walk.specs.Reach.{IsTree}
use Rattle.page_walk.specs.Taking.{is_of_kind, tail, takes}
use Rattle.page_walk.specs.Turns.{ReadsEach}
use Rattle.page_walk.specs.Walk.{kinds_of, page_named, walk}
use Rattle.page_walk.proofs.Found.{Found, found_front, found_start, found_some, found_more, found_all}
use Rattle.page_walk.proofs.Tails.{Stands, get_append, get_none, get_some, list_with, stands}
use Rattle.page_walk.proofs.Taking.{takes_part}
use Rattle.page_walk.proofs.Trees.{walk_is_tree}
use Rattle.page_walk.proofs.Witness.{unused_once}

-- what the loop keeps: the pages found have moved, and there was one read for each that had its turn
pub record Walking {S : Type 0} (told attached : S → Option (List ℕ)) (faults reads : S → ℕ) (geo : Geometry) (kind : Kind)
    (root : ℤ) (l : ℕ) (src0 src : S) (old new : Table) (found : List ℕ) (at : ℕ) : Type 0 where
  pub kept : Passed told attached faults reads src0 src
  pub part : IsPartOf found (unused old)
  pub table : new ≡ all_moved found l old
  pub left : unused new ≡ minus (unused old) found
  pub within : at ≤ length found
  pub read : IfSome (told src0) (λ all. IsWhole all geo → reads src ≤ reads src0 + at)
  pub found_are : IfSome (told src0) (λ all. Found (file_of all geo) kind root (unused old) found at)

-- moves make no page unused
pub moves_fewer : (l : ℕ) (a b : Table) → 1 ≤ l → Moves l a b → length (unused b) ≤ length (unused a)
moves_fewer l a b least moves =
    omega (
      arith,
      ap (λ (t : Table). length (unused t)) moves.all,
      ap (λ (xs : List ℕ). length xs) (unused-all_moved moves.taken l a least),
      length-minus (unused a) moves.taken moves.were_unused,
    )

-- the root, where there is one
walking_found : (geo : Geometry) (kind : Kind) (root : ℤ) (o : Option (List ℕ)) (ks : List (Option Kind)) (old : Table)
    (found : List ℕ) → old.pages ≡ geo.pages → IfSome o (λ all. ks ≡ kinds_of (file_of all geo))
    → found ≡ takes ks kind old (option_to_list (page_named old.pages root))
    → IfSome o (λ all. Found (file_of all geo) kind root (unused old) found 0)
walking_found geo kind root o ks old found same surveyed taken =
    IfSome_then o {P = λ all. ks ≡ kinds_of (file_of all geo)} {Q = λ all. Found (file_of all geo) kind root (unused old) found 0}
    surveyed
    (λ all is.
    let f = file_of all geo in
    let all_of : found ≡ firsts (unused old) (filter (is_of_kind (kinds_of f) geo.pages kind) (option_to_list (page_named geo.pages root))) =
    taken
    ∙ ap (λ (k : List (Option Kind)). takes k kind old (option_to_list (page_named old.pages root))) is
    ∙ ap (λ (n : ℕ). firsts (unused old) (filter (is_of_kind (kinds_of f) n kind) (option_to_list (page_named n root)))) same in
    subst (λ (xs : List ℕ). Found f kind root (unused old) xs 0) (sym all_of)
    (found_start f kind root (unused old) (page_named geo.pages root) refl))

-- the root has moved, if there is one
pub walking_start : {S : Type 0} (told attached : S → Option (List ℕ)) (faults reads : S → ℕ) (geo : Geometry) (kind : Kind)
    (root : ℤ) (l : ℕ) (src : S) (ks : List (Option Kind)) (old new : Table) (found : List ℕ)
    → 1 ≤ l → old.pages ≡ geo.pages → IfSome (told src) (λ all. ks ≡ kinds_of (file_of all geo))
    → found ≡ takes ks kind old (option_to_list (page_named old.pages root)) → new ≡ all_moved found l old
    → Walking told attached faults reads geo kind root l src src old new found 0
walking_start told attached faults reads geo kind root l src ks old new found least same surveyed taken table = record {
  kept = passed_none told attached faults reads src;
  part = subst (λ (ps : List ℕ). IsPartOf ps (unused old)) (sym taken) (takes_part ks kind old (option_to_list (page_named old.pages root)));
  table = table;
  left = ap unused table ∙ unused-all_moved found l old least;
  within = omega arith;
  read = always_told (λ all. IsWhole all geo → reads src ≤ reads src + 0) (told src) (λ all whole. omega arith);
  found_are = walking_found geo kind root (told src) ks old found same surveyed taken;
}

-- where there is one, there are pages of the walk, so what is said of none holds
pub walk_begins : (geo : Geometry) (kind : Kind) (root asked : ℤ) (o : Option (List ℕ)) (ks : List (Option Kind)) (old : Table)
    (first : ℕ) (b : Bool) → old.pages ≡ geo.pages → IfSome o (λ all. ks ≡ kinds_of (file_of all geo))
    → first ∷ [] ≡ takes ks kind old (option_to_list (page_named old.pages root)) → root ≡ asked
    → IfSome o (λ all. walk (file_of all geo) (unused old) asked kind ≡ [] → IsTrue b)
walk_begins geo kind root asked o ks old first b same surveyed taken is =
    IfSome_then o
    {P = λ all. Found (file_of all geo) kind root (unused old) (first ∷ []) 0}
    {Q = λ all. walk (file_of all geo) (unused old) asked kind ≡ [] → IsTrue b}
    (walking_found geo kind root o ks old (first ∷ []) same surveyed taken)
    (λ all found none. absurd (found_some (file_of all geo) kind root (unused old) (first ∷ []) 0 first refl found
    (ap (λ (z : ℤ). walk (file_of all geo) (unused old) z kind) is ∙ none)))

-- where there is none, no page is walked
pub no_walk : (geo : Geometry) (kind : Kind) (root asked : ℤ) (o : Option (List ℕ)) (ks : List (Option Kind)) (old : Table)
    (none : List ℕ) → old.pages ≡ geo.pages → IfSome o (λ all. ks ≡ kinds_of (file_of all geo))
    → [] ≡ takes ks kind old (option_to_list (page_named old.pages root)) → root ≡ asked → none ≡ []
    → IfSome o (λ all. none ≡ walk (file_of all geo) (unused old) asked kind)
no_walk geo kind root asked o ks old none same surveyed taken is empty =
    IfSome_then o
    {P = λ all. Found (file_of all geo) kind root (unused old) [] 0}
    {Q = λ all. none ≡ walk (file_of all geo) (unused old) asked kind}
    (walking_found geo kind root o ks old [] same surveyed taken)
    (λ all found. empty ∙ found_all (file_of all geo) kind root (unused old) [] 0 (omega arith) found
    ∙ ap (λ (z : ℤ). walk (file_of all geo) (unused old) z kind) is)

-- the pages found are moves of unused pages
pub walking_moves : {S : Type 0} {told attached : S → Option (List ℕ)} {faults reads : S → ℕ} {geo : Geometry} {kind : Kind}
    {root : ℤ} {l : ℕ} {src0 src : S} {old new : Table} {found : List ℕ} {at : ℕ}
    → Walking told attached faults reads geo kind root l src0 src old new found at → Moves l old new
walking_moves {l = l} {old = old} {new} {found} was = subst (Moves l old) (sym was.table) (Moves-all found l old was.part)

-- one more page had its turn
walking_more : {S : Type 0} {told attached : S → Option (List ℕ)} {faults reads : S → ℕ} {geo : Geometry} {kind : Kind}
    {root : ℤ} {l : ℕ} {src0 src : S} {old new : Table} {found : List ℕ} {at : ℕ} (src' : S) (ks : List (Option Kind)) (new' : Table)
    (none named : List ℕ) (p : ℕ) → Walking told attached faults reads geo kind root l src0 src old new found at
    → 1 ≤ l → old.pages ≡ geo.pages → IfSome (told src0) (λ all. ks ≡ kinds_of (file_of all geo))
    → at < length found → p ≡ get_or found at p → none ≡ []
    → IfSome (told src) (λ all. named ≡ none ++ pointers_on (file_of all geo) p)
    → KeepsSource told attached faults reads src src' → faults src' ≡ faults src
    → IfSome (told src) (λ all. IsWhole all geo → reads src' ≤ reads src + 1)
    → new' ≡ all_moved (takes ks kind new named) l new
    → Walking told attached faults reads geo kind root l src0 src' old new' (found ++ takes ks kind new named) (at + 1)
walking_more {told = told} {reads = reads} {geo = geo} {kind} {root} {l} {src0} {src} {old} {new} {found} {at} src' ks new' none named p
    was least same surveyed lt here empty names kept steady read taken =
    let more : List ℕ = takes ks kind new named in
    let part : IsPartOf more (minus (unused old) found) = subst (IsPartOf more) was.left (takes_part ks kind new named) in
    let table : new' ≡ all_moved (found ++ more) l old =
    taken ∙ ap (all_moved more l) was.table ∙ sym (all_moved-append found more l old) in
    let pages : new.pages ≡ geo.pages = (walking_moves was).same_pages ∙ same in
    record {
      kept = passed_more was.kept kept steady;
      part = part_append (unused old) found more was.part part;
      table = table;
      left = ap unused table ∙ unused-all_moved (found ++ more) l old least;
      within = omega (arith, lt, length-append found more);
      read = both_told (λ all. IsWhole all geo → reads src ≤ reads src0 + at) (λ all. IsWhole all geo → reads src' ≤ reads src + 1)
          (λ all. IsWhole all geo → reads src' ≤ reads src0 + (at + 1)) (told src0) (told src) was.kept.told
          (λ all p q whole. omega (arith, p whole, q whole)) was.read read;
      found_are = both_told (λ all. (ks ≡ kinds_of (file_of all geo)) × Found (file_of all geo) kind root (unused old) found at)
          (λ all. named ≡ none ++ pointers_on (file_of all geo) p)
          (λ all. Found (file_of all geo) kind root (unused old) (found ++ more) (at + 1)) (told src0) (told src) was.kept.told
          (λ all both is.
          let f = file_of all geo in
          let more_is : more ≡ firsts (minus (unused old) found) (filter (is_of_kind (kinds_of f) geo.pages kind) (pointers_on f (get_or found at p))) =
          ap (λ (k : List (Option Kind)). takes k kind new named) both.0
          ∙ ap (λ (n : ℕ). firsts (unused new) (filter (is_of_kind (kinds_of f) n kind) named)) pages
          ∙ ap (λ (u : List ℕ). firsts u (filter (is_of_kind (kinds_of f) geo.pages kind) named)) was.left
          ∙ ap (λ (qs : List ℕ). firsts (minus (unused old) found) (filter (is_of_kind (kinds_of f) geo.pages kind) qs))
          (is ∙ ap (λ (xs : List ℕ). xs ++ pointers_on f p) empty ∙ ap (pointers_on f) here) in
          subst (λ (ps : List ℕ). Found f kind root (unused old) ps (at + 1))
          (ap (λ (xs : List ℕ). found ++ xs) (sym more_is))
          (found_more f kind root (unused old) found at p lt both.1))
          (both_told (λ all. ks ≡ kinds_of (file_of all geo)) (λ all. Found (file_of all geo) kind root (unused old) found at)
          (λ all. (ks ≡ kinds_of (file_of all geo)) × Found (file_of all geo) kind root (unused old) found at)
          (told src0) (told src0) refl (λ all a b. (a, b)) surveyed was.found_are) names;
    }

-- all pages had their turn
pub walking_value : {S : Type 0} {told attached : S → Option (List ℕ)} {faults reads : S → ℕ} {geo : Geometry} {kind : Kind}
    {root : ℤ} {l : ℕ} {src0 src : S} {old new : Table} {found : List ℕ} {at : ℕ} (asked : ℤ)
    → Walking told attached faults reads geo kind root l src0 src old new found at → length found ≤ at → root ≡ asked
    → IfSome (told src0) (λ all. found ≡ walk (file_of all geo) (unused old) asked kind)
walking_value {told = told} {geo = geo} {kind} {root} {src0 = src0} {old = old} {found = found} {at} asked was end same =
    IfSome_then (told src0)
    {P = λ all. Found (file_of all geo) kind root (unused old) found at}
    {Q = λ all. found ≡ walk (file_of all geo) (unused old) asked kind}
    was.found_are
    (λ all is. found_all (file_of all geo) kind root (unused old) found at end is
    ∙ ap (λ (z : ℤ). walk (file_of all geo) (unused old) z kind) same)

-- the pages of a walk are those of a tree
pub walked_tree : (o : Option (List ℕ)) (geo : Geometry) (t : Table) (root : ℤ) (kind : Kind) (pages : List ℕ)
    → IsPartition t → t.pages ≡ geo.pages → IfSome o (λ all. pages ≡ walk (file_of all geo) (unused t) root kind)
    → IfSome o (λ all. IsTree (file_of all geo) (unused t) root kind pages)
walked_tree o geo t root kind pages each same =
    λ known. IfSome_then o
    {P = λ all. pages ≡ walk (file_of all geo) (unused t) root kind}
    {Q = λ all. IsTree (file_of all geo) (unused t) root kind pages}
    known
    (λ all is. subst (IsTree (file_of all geo) (unused t) root kind) (sym is)
    (walk_is_tree (file_of all geo) (unused t) root kind (unused_once t geo.pages each same)))

-- the reads where the loop ends: one for each page that had its turn, and `more` at one whose turn is not over
pub walking_reads : {S : Type 0} {told attached : S → Option (List ℕ)} {faults reads : S → ℕ} {geo : Geometry} {kind : Kind}
    {root : ℤ} {l : ℕ} {src0 src : S} {old new : Table} {found : List ℕ} {at : ℕ} (new' : Table) (now more extra : ℕ)
    → Walking told attached faults reads geo kind root l src0 src old new found at → 1 ≤ l → Moves l new new'
    → at + more ≤ length found → IfSome (told src) (λ all. IsWhole all geo → now ≤ reads src + more)
    → ReadsEach (told src0) geo old new' (reads src0) now extra
walking_reads {told = told} {reads = reads} {geo = geo} {l = l} {src0} {src} {old} {new} {found} {at} new' now more extra was least moves few read =
    let fewer : length (unused new') ≤ length (unused new) = moves_fewer l new new' least moves in
    let left : length (unused new) + length found ≡ length (unused old) =
    ap (λ (xs : List ℕ). length xs + length found) was.left ∙ length-minus (unused old) found was.part in
    both_told (λ all. IsWhole all geo → reads src ≤ reads src0 + at) (λ all. IsWhole all geo → now ≤ reads src + more)
    (λ all. IsWhole all geo → now + length (unused new') ≤ reads src0 + length (unused old) + extra) (told src0) (told src) was.kept.told
    (λ all p q whole. omega (arith, p whole, q whole, fewer, left, few)) was.read read

-- nothing was read
pub no_reads : (o : Option (List ℕ)) (geo : Geometry) (l : ℕ) (old new : Table) (now extra : ℕ) → 1 ≤ l → Moves l old new
    → ReadsEach o geo old new now now extra
no_reads o geo l old new now extra least moves =
    always_told (λ all. IsWhole all geo → now + length (unused new) ≤ now + length (unused old) + extra) o
    (λ all whole. omega (arith, moves_fewer l old new least moves))

-- the same where the pages found are the end of list l from `first` on, and `here` is the next of them
pub record Queued {S : Type 0} (told attached : S → Option (List ℕ)) (faults reads : S → ℕ) (geo : Geometry) (kind : Kind)
    (root : ℤ) (l : ℕ) (src0 src : S) (old new : Table) (first : ℕ) (here : Option ℕ) : Type 0 where
  pub found : List ℕ
  pub turns : ℕ
  pub walking : Walking told attached faults reads geo kind root l src0 src old new found turns
  pub first_is : slice_get found 0 ≡ Some first
  pub here_is : here ≡ slice_get found turns

-- how many pages of a list come from this one on
abbrev pub waiting : Option ℕ → List ℕ → ℕ
waiting None xs = 0
waiting (Some p) xs = length (tail p xs)

-- list l of the table before, to which the pages move
pub record IsOpen (geo : Geometry) (l : ℕ) (old : Table) : Type 0 where
  pub each : IsPartition old
  pub same : old.pages ≡ geo.pages
  pub least : 1 ≤ l
  pub below : l < length old.lists

pub is_open : (geo : Geometry) (l : ℕ) (old : Table) → IsPartition old → old.pages ≡ geo.pages → 1 ≤ l → l < length old.lists → IsOpen geo l old
is_open geo l old each same least below = record { each = each; same = same; least = least; below = below }

-- a page that was found stands in list l behind those that were there before
found_stands : {S : Type 0} {told attached : S → Option (List ℕ)} {faults reads : S → ℕ} {geo : Geometry} {kind : Kind}
    {root : ℤ} {l : ℕ} {src0 src : S} {old new : Table} {found : List ℕ} {at : ℕ} (i p : ℕ) → IsOpen geo l old
    → Walking told attached faults reads geo kind root l src0 src old new found at → slice_get found i ≡ Some p
    → Stands new l p found i
found_stands {l = l} {old = old} {new} {found} i p base was e =
    stands new l p (list_at l old.lists) found i
    (subst IsPartition (sym was.table) (IsPartition-all_moved found l old base.each base.least base.below was.part))
    (ap (λ (t : Table). list_at l t.lists) was.table ∙ list_at-all_moved found l old base.each base.least base.below was.part) e

pub queued_start : {S : Type 0} (told attached : S → Option (List ℕ)) (faults reads : S → ℕ) (geo : Geometry) (kind : Kind)
    (root : ℤ) (l : ℕ) (src : S) (ks : List (Option Kind)) (old new : Table) (first : ℕ)
    → 1 ≤ l → old.pages ≡ geo.pages → IfSome (told src) (λ all. ks ≡ kinds_of (file_of all geo))
    → first ∷ [] ≡ takes ks kind old (option_to_list (page_named old.pages root)) → new ≡ moved first l old
    → Queued told attached faults reads geo kind root l src src old new first (Some first)
queued_start told attached faults reads geo kind root l src ks old new first least same surveyed taken table = record {
  found = first ∷ [];
  turns = 0;
  walking = walking_start told attached faults reads geo kind root l src ks old new (first ∷ []) least same surveyed taken table;
  first_is = refl;
  here_is = refl;
}

-- the page that is next
queued_stands : {S : Type 0} {told attached : S → Option (List ℕ)} {faults reads : S → ℕ} {geo : Geometry} {kind : Kind}
    {root : ℤ} {l : ℕ} {src0 src : S} {old new : Table} {first : ℕ} {here : Option ℕ} (p : ℕ) → IsOpen geo l old
    → (was : Queued told attached faults reads geo kind root l src0 src old new first here) → here ≡ Some p → Stands new l p was.found was.turns
queued_stands p base was is = found_stands was.turns p base was.walking (sym was.here_is ∙ is)

-- it is one of the file
pub queued_page : {S : Type 0} {told attached : S → Option (List ℕ)} {faults reads : S → ℕ} {geo : Geometry} {kind : Kind}
    {root : ℤ} {l : ℕ} {src0 src : S} {old new : Table} {first : ℕ} {here : Option ℕ} (p : ℕ) → IsOpen geo l old
    → Queued told attached faults reads geo kind root l src0 src old new first here → here ≡ Some p → (1 ≤ p) × (p ≤ geo.pages)
queued_page p base was is =
    let there = queued_stands p base was is in
    (there.least, omega (arith, there.most, (walking_moves was.walking).same_pages, base.same))

-- the next page had its turn
pub queued_more : {S : Type 0} {told attached : S → Option (List ℕ)} {faults reads : S → ℕ} {geo : Geometry} {kind : Kind}
    {root : ℤ} {l : ℕ} {src0 src : S} {old new : Table} {first : ℕ} {here : Option ℕ} (src' : S) (ks : List (Option Kind)) (new' : Table)
    (none named : List ℕ) (p : ℕ) (next : Option ℕ) → IsOpen geo l old
    → (was : Queued told attached faults reads geo kind root l src0 src old new first here) → here ≡ Some p
    → IfSome (told src0) (λ all. ks ≡ kinds_of (file_of all geo)) → none ≡ []
    → IfSome (told src) (λ all. named ≡ none ++ pointers_on (file_of all geo) p)
    → KeepsSource told attached faults reads src src' → faults src' ≡ faults src
    → IfSome (told src) (λ all. IsWhole all geo → reads src' ≤ reads src + 1)
    → new' ≡ all_moved (takes ks kind new named) l new → next ≡ after p (list_with p new')
    → (now : Queued told attached faults reads geo kind root l src0 src' old new' first next) × (now.turns ≡ was.turns + 1)
queued_more {told = told} {attached} {faults} {reads} {geo} {kind} {root} {l} {src0} {src} {old} {new} {first} src' ks new' none named p next
    base was is surveyed empty names kept steady read taken after_it =
    let here_p : slice_get was.found was.turns ≡ Some p = sym was.here_is ∙ is in
    let has = get_some was.found was.turns p here_p in
    let more : List ℕ = takes ks kind new named in
    let now : Walking told attached faults reads geo kind root l src0 src' old new' (was.found ++ more) (was.turns + 1) =
    walking_more src' ks new' none named p was.walking base.least base.same surveyed has.0 has.1 empty names kept steady read taken in
    let there = found_stands was.turns p base now (get_append was.found more was.turns p here_p) in (
      record {
        found = was.found ++ more;
        turns = was.turns + 1;
        walking = now;
        first_is = get_append was.found more 0 first was.first_is;
        here_is = after_it ∙ there.next;
      },
      refl,
    )

-- the pages that had their turn, those that wait and those still unused are those unused before
pub queued_measure : {S : Type 0} {told attached : S → Option (List ℕ)} {faults reads : S → ℕ} {geo : Geometry} {kind : Kind}
    {root : ℤ} {l : ℕ} {src0 src : S} {old new : Table} {first : ℕ} (here : Option ℕ) → IsOpen geo l old
    → (was : Queued told attached faults reads geo kind root l src0 src old new first here)
    → length (unused new) + waiting here (list_at l new.lists) + was.turns ≡ length (unused old)
queued_measure {l = l} {old = old} {new} None base was =
    omega (arith, get_none was.found was.turns (sym was.here_is), was.walking.within, ap length was.walking.left, length-minus (unused old) was.found was.walking.part)
queued_measure {l = l} {old = old} {new} (Some p) base was =
    let there = queued_stands p base was refl in
    let seen : tail p (list_at l new.lists) ≡ drop was.turns was.found =
    ap (λ (k : ℕ). tail p (list_at k new.lists)) (sym there.list_is) ∙ there.rest in
    omega (arith, ap length seen, length-drop was.turns was.found, was.walking.within, ap length was.walking.left, length-minus (unused old) was.found was.walking.part)

-- that of fewer pages is left
pub queued_less : {S : Type 0} {told attached : S → Option (List ℕ)} {faults reads : S → ℕ} {geo : Geometry} {kind : Kind}
    {root : ℤ} {l : ℕ} {src0 src src' : S} {old new new' : Table} {first : ℕ} {here next : Option ℕ} → IsOpen geo l old
    → (was : Queued told attached faults reads geo kind root l src0 src old new first here)
    → (now : Queued told attached faults reads geo kind root l src0 src' old new' first next) × (now.turns ≡ was.turns + 1)
    → length (unused new') + waiting next (list_at l new'.lists) < length (unused new) + waiting here (list_at l new.lists)
queued_less {here = here} {next} base was step =
    omega (arith, queued_measure here base was, queued_measure next base step.0, step.1)

-- the pages read to the end of the list
pub record Ended {S : Type 0} (told : S → Option (List ℕ)) (geo : Geometry) (kind : Kind) (root : ℤ) (l : ℕ) (src : S) (old new : Table)
    (pages : List ℕ) : Type 0 where
  pub value : IfSome (told src) (λ all. pages ≡ walk (file_of all geo) (unused old) root kind)
  pub moved : new ≡ all_moved pages l old
  pub part : IsPartOf pages (unused old)

-- they are those that were found
pub queued_end : {S : Type 0} {told attached : S → Option (List ℕ)} {faults reads : S → ℕ} {geo : Geometry} {kind : Kind}
    {root : ℤ} {l : ℕ} {src0 src : S} {old new : Table} {first : ℕ} {here : Option ℕ} (pages : List ℕ) (asked : ℤ) → IsOpen geo l old
    → Queued told attached faults reads geo kind root l src0 src old new first here → here ≡ None
    → pages ≡ tail first (list_with first new) → root ≡ asked → Ended told geo kind asked l src0 old new pages
queued_end {told = told} {geo = geo} {kind} {l = l} {src0} {old = old} {new} {first} pages asked base was is read same =
    let found : was.found ≡ pages = sym (read ∙ (found_stands 0 first base was.walking was.first_is).rest) in
    let all : Ended told geo kind asked l src0 old new was.found = record {
      value = walking_value asked was.walking (get_none was.found was.turns (sym was.here_is ∙ is)) same;
      moved = was.walking.table;
      part = was.walking.part;
    } in
    subst (λ (ps : List ℕ). Ended told geo kind asked l src0 old new ps) found all

-- the reads where a page has its turn, and where all had theirs
pub queued_reads : {S : Type 0} {told attached : S → Option (List ℕ)} {faults reads : S → ℕ} {geo : Geometry} {kind : Kind}
    {root : ℤ} {l : ℕ} {src0 src : S} {old new : Table} {first : ℕ} {here : Option ℕ} (p now extra : ℕ) → 1 ≤ l
    → Queued told attached faults reads geo kind root l src0 src old new first here → here ≡ Some p
    → IfSome (told src) (λ all. IsWhole all geo → now ≤ reads src + 1) → ReadsEach (told src0) geo old new (reads src0) now extra
queued_reads {l = l} {new = new} p now extra least was is read =
    walking_reads new now 1 extra was.walking least (Moves-none l new)
    (omega (arith, (get_some was.found was.turns p (sym was.here_is ∙ is)).0)) read

pub queued_reads_end : {S : Type 0} {told attached : S → Option (List ℕ)} {faults reads : S → ℕ} {geo : Geometry} {kind : Kind}
    {root : ℤ} {l : ℕ} {src0 src : S} {old new : Table} {first : ℕ} {here : Option ℕ} (extra : ℕ) → 1 ≤ l
    → Queued told attached faults reads geo kind root l src0 src old new first here
    → ReadsEach (told src0) geo old new (reads src0) (reads src) extra
queued_reads_end {told = told} {reads = reads} {geo = geo} {l = l} {src = src} {new = new} extra least was =
    walking_reads new (reads src) 0 extra was.walking least (Moves-none l new) (omega (arith, was.walking.within))
    (always_told (λ all. IsWhole all geo → reads src ≤ reads src + 0) (told src) (λ all whole. omega arith))

-- there are pages of the walk, so what is said of none holds
pub queued_some : {S : Type 0} {told attached : S → Option (List ℕ)} {faults reads : S → ℕ} {geo : Geometry} {kind : Kind}
    {root : ℤ} {l : ℕ} {src0 src : S} {old new : Table} {first : ℕ} {here : Option ℕ} (asked : ℤ) (b : Bool)
    → Queued told attached faults reads geo kind root l src0 src old new first here → root ≡ asked
    → IfSome (told src0) (λ all. walk (file_of all geo) (unused old) asked kind ≡ [] → IsTrue b)
queued_some {told = told} {geo = geo} {kind} {root} {src0 = src0} {old = old} {first = first} asked b was same =
    IfSome_then (told src0)
    {P = λ all. Found (file_of all geo) kind root (unused old) was.found was.turns}
    {Q = λ all. walk (file_of all geo) (unused old) asked kind ≡ [] → IsTrue b}
    was.walking.found_are
    (λ all is none. absurd (found_some (file_of all geo) kind root (unused old) was.found was.turns first was.first_is is
    (ap (λ (z : ℤ). walk (file_of all geo) (unused old) z kind) same ∙ none)))

-- the pages that moved are a front of the walk
pub queued_front : {S : Type 0} {told attached : S → Option (List ℕ)} {faults reads : S → ℕ} {geo : Geometry} {kind : Kind}
    {root : ℤ} {l : ℕ} {src0 src : S} {old new : Table} {first : ℕ} {here : Option ℕ} (asked : ℤ)
    → Queued told attached faults reads geo kind root l src0 src old new first here → root ≡ asked
    → IfSome (told src0) (λ all. MovesFront (walk (file_of all geo) (unused old) asked kind) l old new)
queued_front {told = told} {geo = geo} {kind} {root} {l} {src0} {old = old} {new} asked was same =
    IfSome_then (told src0)
    {P = λ all. Found (file_of all geo) kind root (unused old) was.found was.turns}
    {Q = λ all. MovesFront (walk (file_of all geo) (unused old) asked kind) l old new}
    was.walking.found_are
    (λ all is. (
      length was.found,
      was.walking.table
          ∙ ap (λ (ps : List ℕ). all_moved ps l old) (found_front (file_of all geo) kind root (unused old) was.found was.turns is
          ∙ ap (λ (z : ℤ). take (length was.found) (walk (file_of all geo) (unused old) z kind)) same),
    ))
