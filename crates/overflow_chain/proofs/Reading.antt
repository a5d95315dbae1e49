-- The loop over the pages of a chain: what holds at each page, and what it leaves at each exit.
use Rattle.std.proofs.Common.{◌≡◌, ℕ, ◌+◌, ◌-◌, ◌*◌, ◌<◌, ◌≤◌, ◌⊎◌, inl, inr, true, false, if◌then◌else◌, Option, IfSome, Result, Ok, Err, IsErr, is_ok, List, [], ◌∷◌, ◌++◌, length, take, refl, sym, ap, ◌∙◌, subst, arith}
use Rattle.std.proofs.Math.Nat.{mul-le-mul_right}
use Rattle.std.proofs.lemmas.Option.{IfSome_then}
use Rattle.std.specs.List.{slice_range}
use Rattle.byteorder.specs.Endian.{big_number}
use Rattle.page_access.specs.Files.{IsWhole, file_of}
use Rattle.page_access.specs.Outside.{KeepsSource}
use Rattle.page_access.specs.Pages.{page_of}
use Rattle.page_access.specs.declared.geometry.Geometry.{Geometry}
use Rattle.page_access.proofs.Keeps.{Passed, passed_more, passed_none}
use Rattle.page_access.proofs.Told.{always_told, both_told}
use Rattle.page_lists.specs.Lists.{count, is_in, without}
use Rattle.page_lists.specs.Table.{Table, IsPartition, Moves, is_page, moved, unused}
use Rattle.page_lists.proofs.Counts.{length-without}
use Rattle.page_lists.proofs.Uses.{Moves-append, Moves-none, Moves-one, Moves-partition, count-list_at, unused-moved, unused_not_page, unused_page}
use Rattle.overflow_chain.specs.Turn.{GivesChain, Turned, TurnsFront, bytes_of, turn_of, why_not}
use Rattle.overflow_chain.specs.declared.ChainEnd.TheVariants.{Whole, Broken}
use Rattle.overflow_chain.specs.declared.Why.{Why}
use Rattle.overflow_chain.specs.declared.Why.TheVariants.{Range}
use Rattle.overflow_chain.specs.declared.TheConstants.{OVERFLOW_LIST}
use Rattle.overflow_chain.proofs.Turns.{Turning, turning_start, turning_more, turning_done, turning_broken, turning_front, turning_front_more}
use Rattle.overflow_chain.proofs.Taking.{Taking, taking_start, taking_more}
use Rattle.overflow_chain.proofs.Longest.{whole_turn_is_chain}

-- a number that is no page's is not unused
pub out_of_range : (t : Table) (at : ℕ) → IsPartition t → is_page t.pages at ≡ false → (is_in at (unused t) ≡ false) × (Range ≡ why_not t.pages at)
out_of_range t at each other = (unused_not_page t at each other, rw other refl)

-- as many reads as pages that moved, where all pages are there
abbrev pub Paid : {S : Type 0} → (S → ℕ) → Geometry → S → S → Table → Table → List ℕ → Type 0
Paid reads geo src src' t t' all = IsWhole all geo → reads src' + length (unused t') ≤ reads src + length (unused t)

-- at each page of the chain
pub record Reading {S : Type 0} (bytes attached : S → Option (List ℕ)) (faults reads : S → ℕ) (geo : Geometry) (q need : ℕ) (src src' : S) (t t' : Table)
    (pages pages' to to' : List ℕ) (missing at : ℕ) : Type 0 where
  pub kept : Passed bytes attached faults reads src src'
  pub each : IsPartition t
  pub same_pages : t.pages ≡ geo.pages
  pub lists : 7 ≤ length t.lists
  pub moves : Moves OVERFLOW_LIST t t'
  pub paid : IfSome (bytes src) (λ all. Paid reads geo src src' t t' all)
  pub so_far : IfSome (bytes src) (λ all. Turning (file_of all geo) q need t t' pages pages' to to' missing at)
  pub taking : Taking need t t' pages pages' to to' missing

pub reading_start : {S : Type 0} (bytes attached : S → Option (List ℕ)) (faults reads : S → ℕ) (geo : Geometry) (q need : ℕ) (src : S) (t : Table) (pages to : List ℕ)
    → IsPartition t → t.pages ≡ geo.pages → 7 ≤ length t.lists → Reading bytes attached faults reads geo q need src src t t pages pages to to need q
reading_start bytes attached faults reads geo q need src t pages to each same lists = record {
  kept = passed_none bytes attached faults reads src;
  each = each;
  same_pages = same;
  lists = lists;
  moves = Moves-none OVERFLOW_LIST t;
  paid = always_told (λ all. Paid reads geo src src t t all) (bytes src) (λ all whole. omega arith);
  so_far = always_told (λ all. Turning (file_of all geo) q need t t pages pages to to need q) (bytes src) (λ all. turning_start (file_of all geo) q need t pages to);
  taking = taking_start need t pages to;
}

-- what the tables of the loop are
pub reading_partition : {S : Type 0} {bytes attached : S → Option (List ℕ)} {faults reads : S → ℕ} {geo : Geometry} {q need : ℕ} {src src' : S} {t t' : Table} {pages pages' to to' : List ℕ} {missing at : ℕ}
    → Reading bytes attached faults reads geo q need src src' t t' pages pages' to to' missing at → IsPartition t'
reading_partition {t = t} {t' = t'} r = Moves-partition OVERFLOW_LIST t t' (omega arith) (omega (arith, r.lists)) r.moves r.each

pub reading_pages : {S : Type 0} {bytes attached : S → Option (List ℕ)} {faults reads : S → ℕ} {geo : Geometry} {q need : ℕ} {src src' : S} {t t' : Table} {pages pages' to to' : List ℕ} {missing at : ℕ}
    → Reading bytes attached faults reads geo q need src src' t t' pages pages' to to' missing at → t'.pages ≡ geo.pages
reading_pages r = r.moves.same_pages ∙ r.same_pages

pub reading_lists : {S : Type 0} {bytes attached : S → Option (List ℕ)} {faults reads : S → ℕ} {geo : Geometry} {q need : ℕ} {src src' : S} {t t' : Table} {pages pages' to to' : List ℕ} {missing at : ℕ}
    → Reading bytes attached faults reads geo q need src src' t t' pages pages' to to' missing at → 7 ≤ length t'.lists
reading_lists r = omega (arith, r.moves.same_lists, r.lists)

-- an unused page is one of the geometry's
pub reading_page : {S : Type 0} {bytes attached : S → Option (List ℕ)} {faults reads : S → ℕ} {geo : Geometry} {q need : ℕ} {src src' : S} {t t' : Table} {pages pages' to to' : List ℕ} {missing at : ℕ}
    → Reading bytes attached faults reads geo q need src src' t t' pages pages' to to' missing at → is_in at (unused t') ≡ true → (1 ≤ at) × (at ≤ geo.pages)
reading_page {t' = t'} {at = at} r there =
    let page = unused_page t' at (reading_partition r) there in
    (page.0, omega (arith, page.1, reading_pages r))

-- one more page was taken
pub reading_more : {S : Type 0} {bytes attached : S → Option (List ℕ)} {faults reads : S → ℕ} {geo : Geometry} {q need : ℕ} {src src' : S} {t t' : Table} {pages pages' to to' : List ℕ} {missing at : ℕ}
    → (src'' : S) (t'' : Table) (pages'' to'' buffer : List ℕ) (missing' at' : ℕ)
    → Reading bytes attached faults reads geo q need src src' t t' pages pages' to to' missing at → 0 < missing → is_in at (unused t') ≡ true
    → IfSome (bytes src') (λ all. buffer ≡ page_of all geo.page_size at) → pages'' ≡ pages' ++ at ∷ [] → to'' ≡ to' ++ take missing (slice_range buffer 4 geo.usable)
    → t'' ≡ moved at OVERFLOW_LIST t' → KeepsSource bytes attached faults reads src' src'' → faults src'' ≡ faults src' → IfSome (bytes src') (λ all. at * geo.page_size ≤ length all → reads src'' ≤ reads src' + 1)
    → at' ≡ big_number 4 buffer → missing' ≡ missing - (geo.usable - 4)
    → Reading bytes attached faults reads geo q need src src'' t t'' pages pages'' to to'' missing' at'
reading_more {bytes = bytes} {reads = reads} {geo = geo} {q} {need} {src} {src'} {t} {t'} {pages} {pages'} {to} {to'} {missing} {at} src'' t'' pages'' to'' buffer missing' at' r some there
    read pushed put moves kept steady one follow less =
    let page = reading_page r there in
    let left : unused t'' ≡ without at (unused t') = ap unused moves ∙ unused-moved at OVERFLOW_LIST t' (omega arith) in
    let shorter : length (unused t'') + 1 ≡ length (unused t') = rw left (length-without at (unused t') there) in
    record {
      kept = passed_more r.kept kept steady;
      each = r.each;
      same_pages = r.same_pages;
      lists = r.lists;
      moves = Moves-append OVERFLOW_LIST t t' t'' (omega arith) r.moves (subst (λ (u : Table). Moves OVERFLOW_LIST t' u) (sym moves) (Moves-one OVERFLOW_LIST t' at there));
      paid =
          both_told (λ all. Paid reads geo src src' t t' all) (λ all. at * geo.page_size ≤ length all → reads src'' ≤ reads src' + 1) (λ all. Paid reads geo src src'' t t'' all)
          (bytes src) (bytes src') r.kept.told
          (λ all before next whole. omega (arith, before whole, next (omega (arith, whole, mul-le-mul_right geo.page_size page.1)), shorter)) r.paid one;
      so_far = rw (follow, less)
          (both_told (λ all. Turning (file_of all geo) q need t t' pages pages' to to' missing at) (λ all. buffer ≡ page_of all geo.page_size at)
          (λ all. Turning (file_of all geo) q need t t'' pages pages'' to to'' (missing - (geo.usable - 4)) (big_number 4 buffer)) (bytes src) (bytes src') r.kept.told
          (λ all before is. turning_more (file_of all geo) q need t t' t'' pages pages' pages'' to to' to'' buffer missing at geo.usable_least geo.usable_most some there is pushed put moves before)
          r.so_far read);
      taking = taking_more need t t' t'' pages pages' pages'' to to' to'' buffer missing missing' at geo.usable r.taking there page.0 (omega (arith, page.1, r.same_pages)) pushed put moves less;
    }

-- nothing is missing
pub reading_done : {S : Type 0} {bytes attached : S → Option (List ℕ)} {faults reads : S → ℕ} {geo : Geometry} {q need : ℕ} {src src' : S} {t t' : Table} {pages pages' to to' : List ℕ} {missing at : ℕ}
    → Reading bytes attached faults reads geo q need src src' t t' pages pages' to to' missing at → missing ≡ 0
    → IfSome (bytes src) (λ all. Turned (file_of all geo) q need t t' pages pages' to to' Whole)
reading_done {bytes = bytes} {geo = geo} {q} {need} {src} {t = t} {t'} {pages} {pages'} {to} {to'} {missing} {at} r none =
    IfSome_then (bytes src) {P = λ all. Turning (file_of all geo) q need t t' pages pages' to to' missing at} {Q = λ all. Turned (file_of all geo) q need t t' pages pages' to to' Whole}
    r.so_far
    (λ all before. turning_done (file_of all geo) q need t t' pages pages' to to' missing at geo.usable_least none before)

-- the unused pages of the table are pages of the file, each once
unused_once : (t : Table) (p : ℕ) → IsPartition t → count p (unused t) ≤ (if is_page t.pages p then 1 else 0)
unused_once t p each = subst (λ (n : ℕ). count p (unused t) ≤ n) (each p) (count-list_at p 0 t.lists)

-- then the chain is there
pub reading_chain : {S : Type 0} {bytes attached : S → Option (List ℕ)} {faults reads : S → ℕ} {geo : Geometry} {q need : ℕ} {src src' : S} {t t' : Table} {pages pages' to to' : List ℕ} {missing at : ℕ}
    → Reading bytes attached faults reads geo q need src src' t t' pages pages' to to' missing at → missing ≡ 0
    → IfSome (bytes src) (λ all. GivesChain (file_of all geo) q need pages pages' to to' Whole)
reading_chain {bytes = bytes} {geo = geo} {q} {need} {src} {t = t} {t'} {pages} {pages'} {to} {to'} r none =
    IfSome_then (bytes src) {P = λ all. Turned (file_of all geo) q need t t' pages pages' to to' Whole} {Q = λ all. GivesChain (file_of all geo) q need pages pages' to to' Whole}
    (reading_done r none)
    (λ all is. (
      turn_of (file_of all geo) q need (unused t),
      bytes_of (file_of all geo) q need (unused t),
      is.pages_are,
      is.bytes_are,
      (whole_turn_is_chain (file_of all geo) q need (unused t) (λ p. subst (λ (n : ℕ). count p (unused t) ≤ (if is_page n p then 1 else 0)) r.same_pages (unused_once t p r.each))).is_chain (sym is.end_is),
    ))

-- bytes are missing, and the page cannot be taken
pub reading_broken : {S : Type 0} {bytes attached : S → Option (List ℕ)} {faults reads : S → ℕ} {geo : Geometry} {q need : ℕ} {src src' : S} {t t' : Table} {pages pages' to to' : List ℕ} {missing at : ℕ}
    → (why : Why) → Reading bytes attached faults reads geo q need src src' t t' pages pages' to to' missing at → 0 < missing → is_in at (unused t') ≡ false → why ≡ why_not t'.pages at
    → IfSome (bytes src) (λ all. Turned (file_of all geo) q need t t' pages pages' to to' (Broken at why))
reading_broken {bytes = bytes} {geo = geo} {q} {need} {src} {t = t} {t'} {pages} {pages'} {to} {to'} {missing} {at} why r some out is =
    let why_is : why ≡ why_not geo.pages at = rw (reading_pages r) at is in
    IfSome_then (bytes src) {P = λ all. Turning (file_of all geo) q need t t' pages pages' to to' missing at} {Q = λ all. Turned (file_of all geo) q need t t' pages pages' to to' (Broken at why)}
    r.so_far
    (λ all before. turning_broken (file_of all geo) q need t t' pages pages' to to' missing at why geo.usable_least some out why_is before)

-- the reads at an error: one more, since the page was read and did not move
pub paid_err : {S T E : Type 0} {bytes attached : S → Option (List ℕ)} {faults reads : S → ℕ} {geo : Geometry} {q need : ℕ} {src src' : S} {t t' : Table} {pages pages' to to' : List ℕ} {missing at : ℕ}
    → (src'' : S) (t'' : Table) (r : Result T E) → IsErr r → Reading bytes attached faults reads geo q need src src' t t' pages pages' to to' missing at → is_in at (unused t') ≡ true → t'' ≡ t'
    → IfSome (bytes src') (λ all. at * geo.page_size ≤ length all → reads src'' ≤ reads src' + 1)
    → IfSome (bytes src) (λ all. IsWhole all geo → reads src'' + length (unused t'') ≤ reads src + length (unused t) + (if is_ok r then 0 else 1))
paid_err src'' t'' (Ok x) is reading there same one = absurd cc
paid_err {bytes = bytes} {reads = reads} {geo = geo} {src = src} {src'} {t} {t'} {at = at} src'' t'' (Err e) is reading there same one =
    let page = reading_page reading there in
    let left : length (unused t'') ≡ length (unused t') = ap (λ (u : Table). length (unused u)) same in
    both_told (λ all. Paid reads geo src src' t t' all) (λ all. at * geo.page_size ≤ length all → reads src'' ≤ reads src' + 1)
    (λ all. IsWhole all geo → reads src'' + length (unused t'') ≤ reads src + length (unused t) + 1) (bytes src) (bytes src') reading.kept.told
    (λ all before next whole. omega (arith, before whole, next (omega (arith, whole, mul-le-mul_right geo.page_size page.1)), left)) reading.paid one

-- a front of the turn was taken, where the loop ends
pub reading_front : {S : Type 0} {bytes attached : S → Option (List ℕ)} {faults reads : S → ℕ} {geo : Geometry} {q need : ℕ} {src src' : S} {t t' : Table} {pages pages' to to' : List ℕ} {missing at : ℕ}
    → Reading bytes attached faults reads geo q need src src' t t' pages pages' to to' missing at
    → IfSome (bytes src) (λ all. TurnsFront (file_of all geo) q need t t' pages pages' to to')
reading_front {bytes = bytes} {geo = geo} {q} {need} {src} {t = t} {t'} {pages} {pages'} {to} {to'} {missing} {at} r =
    IfSome_then (bytes src) {P = λ all. Turning (file_of all geo) q need t t' pages pages' to to' missing at} {Q = λ all. TurnsFront (file_of all geo) q need t t' pages pages' to to'}
    r.so_far
    (λ all before. turning_front (file_of all geo) q need t t' pages pages' to to' missing at before)

-- the same where its next page was not taken, or was appended alone
pub reading_front_err : {S : Type 0} {bytes attached : S → Option (List ℕ)} {faults reads : S → ℕ} {geo : Geometry} {q need : ℕ} {src src' : S} {t t' : Table} {pages pages' to to' : List ℕ} {missing at : ℕ}
    → (t'' : Table) (pages'' to'' : List ℕ) → Reading bytes attached faults reads geo q need src src' t t' pages pages' to to' missing at → 0 < missing → is_in at (unused t') ≡ true
    → t'' ≡ t' → to'' ≡ to' → (pages'' ≡ pages') ⊎ (pages'' ≡ pages' ++ at ∷ [])
    → IfSome (bytes src) (λ all. TurnsFront (file_of all geo) q need t t'' pages pages'' to to'')
reading_front_err {bytes = bytes} {geo = geo} {q} {need} {src} {t = t} {t'} {pages} {pages'} {to} {to'} {missing} {at} t'' pages'' to'' r some there same_table same_bytes grown =
    rw (same_table, same_bytes) (elim grown [
      | inl same ↦ rw same (reading_front r)
      | inr pushed ↦
          IfSome_then (bytes src) {P = λ all. Turning (file_of all geo) q need t t' pages pages' to to' missing at} {Q = λ all. TurnsFront (file_of all geo) q need t t' pages pages'' to to'}
          r.so_far
          (λ all before. turning_front_more (file_of all geo) q need t t' pages pages' pages'' to to' missing at geo.usable_least some there pushed before)
    ])

-- nothing was taken yet
pub front_none : (o : Option (List ℕ)) (geo : Geometry) (q need : ℕ) (t : Table) (pages to : List ℕ)
    → IfSome o (λ all. TurnsFront (file_of all geo) q need t t pages pages to to)
front_none o geo q need t pages to =
    always_told (λ all. TurnsFront (file_of all geo) q need t t pages pages to to) o
    (λ all. turning_front (file_of all geo) q need t t pages pages to to need q (turning_start (file_of all geo) q need t pages to))
