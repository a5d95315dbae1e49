-- The loop over the trunks of the freelist.
use Rattle.std.proofs.Common.{◌≡◌, ◌∙◌, ◌≤◌, ℕ, ◌+◌, ◌*◌, Option, Some, None, true, false, List, [], ◌∷◌, ◌++◌, length, take, refl, sym, ap, subst, arith, append_assoc}
use Rattle.std.proofs.Math.Nat.{mul-le-mul_right}
use Rattle.std.proofs.Math.Seq.{take-append_seam}
use Rattle.std.proofs.lemmas.List.{append-nil}
use Rattle.std.specs.Prelude.{IfSome}
use Rattle.page_access.specs.declared.geometry.Geometry.{Geometry}
use Rattle.page_access.specs.Files.{IsWhole, file_of}
use Rattle.page_access.specs.Outside.{KeepsSource}
use Rattle.page_access.specs.Pages.{File, page_of}
use Rattle.page_access.proofs.Keeps.{Passed, passed_more, passed_none}
use Rattle.page_lists.specs.Lists.{firsts, is_in, minus, without}
use Rattle.page_lists.specs.Table.{Moves, MovesFront, Table, all_moved, moved, unused}
use Rattle.page_lists.proofs.Counts.{length-minus}
use Rattle.page_lists.proofs.Uses.{Moves-all, Moves-append, Moves-none, all_moved-append, unused-all_moved, unused-moved}
use Rattle.freelist_core.specs.Trunk.{leaves_of, leaves_on, next_on, next_trunk}
use Rattle.freelist_core.specs.Free.{free_pages, taken_at}
use Rattle.freelist_core.specs.declared.TheConstants.{FREE_LIST}
use Rattle.freelist_core.proofs.Steps.{fewer, free_more, free_none, taken_part}

-- of the pages that the list takes some have moved, and the list goes on at trunk `at`
pub record SoFar (f : File) (first : ℕ) (old new : Table) (at : ℕ) : Type 0 where
  pub done : List ℕ
  pub moved : new ≡ all_moved done FREE_LIST old
  pub rest : done ++ free_pages f (unused new) at ≡ free_pages f (unused old) first

pub record Marking {S : Type 0} (told attached : S → Option (List ℕ)) (faults reads : S → ℕ) (geo : Geometry) (first : ℕ)
    (src0 src : S) (old new : Table) (at : ℕ) : Type 0 where
  pub kept : Passed told attached faults reads src0 src
  pub moves : Moves FREE_LIST old new
  pub same_pages : new.pages ≡ geo.pages
  pub lists : 7 ≤ length new.lists
  pub so_far : IfSome (told src0) (λ all. SoFar (file_of all geo) first old new at)
  pub read : IfSome (told src0) (λ all. IsWhole all geo → reads src + length (unused new) ≤ reads src0 + length (unused old))

pub marking_start : {S : Type 0} (told attached : S → Option (List ℕ)) (faults reads : S → ℕ) (geo : Geometry) (first : ℕ) (src : S) (old : Table)
    → old.pages ≡ geo.pages → 7 ≤ length old.lists → Marking told attached faults reads geo first src src old old first
marking_start told attached faults reads geo first src old same lists = record {
  kept = passed_none told attached faults reads src;
  moves = Moves-none FREE_LIST old;
  same_pages = same;
  lists = lists;
  so_far = at_first (told src);
  read = no_reads (told src);
} where
  at_first : (o : Option (List ℕ)) → IfSome o (λ all. SoFar (file_of all geo) first old old first)
  at_first None = tt
  at_first (Some all) = record { done = []; moved = refl; rest = refl }

  no_reads : (o : Option (List ℕ)) → IfSome o (λ all. IsWhole all geo → reads src + length (unused old) ≤ reads src + length (unused old))
  no_reads None = tt
  no_reads (Some all) = λ whole. omega arith

-- the table after the trunk and then its leaves moved
after_trunk : (at : ℕ) (leaves : List ℕ) (new mid new' : Table) → mid ≡ moved at FREE_LIST new → new' ≡ all_moved (firsts (unused mid) leaves) FREE_LIST mid
    → new' ≡ all_moved (at ∷ firsts (without at (unused new)) leaves) FREE_LIST new
after_trunk at leaves new mid new' one more =
    let left : unused mid ≡ without at (unused new) = ap unused one ∙ unused-moved at FREE_LIST new (omega arith) in
    more ∙ ap (λ (xs : List ℕ). all_moved (firsts xs leaves) FREE_LIST mid) left
    ∙ ap (all_moved (firsts (without at (unused new)) leaves) FREE_LIST) one

-- there are fewer unused pages then
pub fewer_left : (at : ℕ) (leaves : List ℕ) (new mid new' : Table) → is_in at (unused new) ≡ true → mid ≡ moved at FREE_LIST new
    → new' ≡ all_moved (firsts (unused mid) leaves) FREE_LIST mid → length (unused new') + 1 ≤ length (unused new)
fewer_left at leaves new mid new' there one more =
    let left : unused new' ≡ minus (unused new) (at ∷ firsts (without at (unused new)) leaves) =
    ap unused (after_trunk at leaves new mid new' one more) ∙ unused-all_moved (at ∷ firsts (without at (unused new)) leaves) FREE_LIST new (omega arith) in
    omega (arith, ap length left, fewer (unused new) at leaves there)

-- one more trunk, where the bytes are told
so_far_more : (f : File) (first : ℕ) (old new new' : Table) (at at' : ℕ) (leaves : List ℕ) → SoFar f first old new at → is_in at (unused new) ≡ true
    → leaves ≡ leaves_of f at → at' ≡ next_trunk f at → new' ≡ all_moved (at ∷ firsts (without at (unused new)) leaves) FREE_LIST new
    → SoFar f first old new' at'
so_far_more f first old new new' at at' leaves was there named next table =
    let taken : List ℕ = taken_at f (unused new) at in
    let so : new' ≡ all_moved taken FREE_LIST new = table ∙ ap (λ (ls : List ℕ). all_moved (at ∷ firsts (without at (unused new)) ls) FREE_LIST new) named in
    let left : unused new' ≡ minus (unused new) taken = ap unused so ∙ unused-all_moved taken FREE_LIST new (omega arith) in
    record {
      done = was.done ++ taken;
      moved = so ∙ ap (all_moved taken FREE_LIST) was.moved ∙ sym (all_moved-append was.done taken FREE_LIST old);
      rest = append_assoc was.done taken (free_pages f (unused new') at')
          ∙ ap (λ (u : List ℕ). was.done ++ (taken ++ free_pages f u at')) left
          ∙ ap (λ (q : ℕ). was.done ++ (taken ++ free_pages f (minus (unused new) taken) q)) next
          ∙ ap (λ (ps : List ℕ). was.done ++ ps) (sym (free_more f (unused new) at there))
          ∙ was.rest;
    }

pub marking_more : {S : Type 0} {told attached : S → Option (List ℕ)} {faults reads : S → ℕ} {geo : Geometry} {first : ℕ} {src0 src : S}
    {old new : Table} {at : ℕ} (src' : S) (buffer : List ℕ) (mid new' : Table) (at' : ℕ)
    → Marking told attached faults reads geo first src0 src old new at → is_in at (unused new) ≡ true → at ≤ geo.pages
    → IfSome (told src) (λ all. buffer ≡ page_of all geo.page_size at) → KeepsSource told attached faults reads src src' → faults src' ≡ faults src
    → IfSome (told src) (λ all. at * geo.page_size ≤ length all → reads src' ≤ reads src + 1)
    → mid ≡ moved at FREE_LIST new → at' ≡ next_on geo.usable buffer → new' ≡ all_moved (firsts (unused mid) (leaves_on geo.usable buffer)) FREE_LIST mid
    → Marking told attached faults reads geo first src0 src' old new' at'
marking_more {told = told} {reads = reads} {geo = geo} {first} {src0} {src} {old} {new} {at} src' buffer mid new' at' was there page read kept steady paid one next more =
    let leaves : List ℕ = leaves_on geo.usable buffer in
    let table : new' ≡ all_moved (at ∷ firsts (without at (unused new)) leaves) FREE_LIST new = after_trunk at leaves new mid new' one more in
    let moves : Moves FREE_LIST new new' = subst (Moves FREE_LIST new) (sym table)
    (Moves-all (at ∷ firsts (without at (unused new)) leaves) FREE_LIST new (taken_part (unused new) at leaves there)) in
    let left : unused new' ≡ minus (unused new) (at ∷ firsts (without at (unused new)) leaves) =
    ap unused table ∙ unused-all_moved (at ∷ firsts (without at (unused new)) leaves) FREE_LIST new (omega arith) in
    record {
      kept = passed_more was.kept kept steady;
      moves = Moves-append FREE_LIST old new new' (omega arith) was.moves moves;
      same_pages = moves.same_pages ∙ was.same_pages;
      lists = omega (arith, moves.same_lists, was.lists);
      so_far = go_on (told src0) (told src) was.kept.told was.so_far read table;
      read = counted (told src0) (told src) was.kept.told was.read paid left;
    } where
      go_on : (o p : Option (List ℕ)) → p ≡ o → IfSome o (λ all. SoFar (file_of all geo) first old new at) → IfSome p (λ all. buffer ≡ page_of all geo.page_size at)
          → new' ≡ all_moved (at ∷ firsts (without at (unused new)) (leaves_on geo.usable buffer)) FREE_LIST new
          → IfSome o (λ all. SoFar (file_of all geo) first old new' at')
      go_on None p same before here table = tt
      go_on (Some all) p same before here table =
          let now : buffer ≡ page_of all geo.page_size at = subst (λ (q : Option (List ℕ)). IfSome q (λ x. buffer ≡ page_of x geo.page_size at)) same here in
          so_far_more (file_of all geo) first old new new' at at' (leaves_on geo.usable buffer) before there (ap (leaves_on geo.usable) now) (next ∙ ap (next_on geo.usable) now) table

      counted : (o p : Option (List ℕ)) → p ≡ o → IfSome o (λ all. IsWhole all geo → reads src + length (unused new) ≤ reads src0 + length (unused old))
          → IfSome p (λ all. at * geo.page_size ≤ length all → reads src' ≤ reads src + 1)
          → unused new' ≡ minus (unused new) (at ∷ firsts (without at (unused new)) (leaves_on geo.usable buffer))
          → IfSome o (λ all. IsWhole all geo → reads src' + length (unused new') ≤ reads src0 + length (unused old))
      counted None p same before here left = tt
      counted (Some all) p same before here left =
          let now : at * geo.page_size ≤ length all → reads src' ≤ reads src + 1 =
          subst (λ (q : Option (List ℕ)). IfSome q (λ x. at * geo.page_size ≤ length x → reads src' ≤ reads src + 1)) same here in
          λ whole. omega (arith, before whole, now (omega (arith, whole, mul-le-mul_right geo.page_size page)), ap length left, fewer (unused new) at (leaves_on geo.usable buffer) there)

-- what has moved is a front of what the list takes
pub marking_front : {S : Type 0} {told attached : S → Option (List ℕ)} {faults reads : S → ℕ} {geo : Geometry} {first : ℕ} {src0 src : S}
    {old new : Table} {at : ℕ} → Marking told attached faults reads geo first src0 src old new at
    → IfSome (told src0) (λ all. MovesFront (free_pages (file_of all geo) (unused old) first) FREE_LIST old new)
marking_front {told = told} {geo = geo} {first} {src0} {old = old} {new} {at} was = in_told (told src0) was.so_far
  where
    in_told : (o : Option (List ℕ)) → IfSome o (λ all. SoFar (file_of all geo) first old new at)
        → IfSome o (λ all. MovesFront (free_pages (file_of all geo) (unused old) first) FREE_LIST old new)
    in_told None before = tt
    in_told (Some all) before = (
      length before.done,
      before.moved ∙ ap (λ (ps : List ℕ). all_moved ps FREE_LIST old)
          (sym (ap (take (length before.done)) (sym before.rest) ∙ take-append_seam before.done (free_pages (file_of all geo) (unused new) at))),
    )

-- at the list's end all of it has moved
pub marking_all : {S : Type 0} {told attached : S → Option (List ℕ)} {faults reads : S → ℕ} {geo : Geometry} {first : ℕ} {src0 src : S}
    {old new : Table} {at : ℕ} → Marking told attached faults reads geo first src0 src old new at → is_in at (unused new) ≡ false
    → IfSome (told src0) (λ all. new ≡ all_moved (free_pages (file_of all geo) (unused old) first) FREE_LIST old)
marking_all {told = told} {geo = geo} {first} {src0} {old = old} {new} {at} was out = in_told (told src0) was.so_far
  where
    in_told : (o : Option (List ℕ)) → IfSome o (λ all. SoFar (file_of all geo) first old new at)
        → IfSome o (λ all. new ≡ all_moved (free_pages (file_of all geo) (unused old) first) FREE_LIST old)
    in_told None before = tt
    in_told (Some all) before = before.moved ∙ ap (λ (ps : List ℕ). all_moved ps FREE_LIST old)
        (sym (append-nil before.done) ∙ ap (λ (ps : List ℕ). before.done ++ ps) (sym (free_none (file_of all geo) (unused new) at out)) ∙ before.rest)

-- how many pages moved
pub fewer_by : (old new : Table) → Moves FREE_LIST old new → length (unused new) ≤ length (unused old)
fewer_by old new moves = omega (arith, ap length (ap unused moves.all ∙ unused-all_moved moves.taken FREE_LIST old (omega arith)), length-minus (unused old) moves.taken moves.were_unused)
