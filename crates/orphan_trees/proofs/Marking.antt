-- The marks of the children of orphan pages.
use Rattle.std.proofs.Common.{◌≡◌, ◌<◌, ◌≤◌, inl, inr, ℕ, suc, ◌+◌, ◌-◌, ◌==◌, Bool, true, false, not, ◌||◌, Option, List, [], ◌∷◌, ◌++◌, length, drop, get_or, replicate, take, refl, sym, ◌∙◌, ap, arith}
use Rattle.std.specs.Prelude.{IfSome, if◌then◌else◌, filter, nat_le, slice_set}
use Rattle.std.specs.List.{flat_map, range_with_len}
use Rattle.std.proofs.Math.Seq.{take-append_seam}
use Rattle.std.proofs.lemmas.Bool.{and_parts, cases_Bool, leb-true}
use Rattle.std.proofs.lemmas.Bool.Decides.{eqb_tells}
use Rattle.std.proofs.lemmas.Grind.{get_or-set_at}
use Rattle.std.proofs.lemmas.List.{drop_more, get_or-replicate, get_or-set_other, length-replicate, length-set}
use Rattle.std.proofs.lemmas.List.Elements.{filter-append}
use Rattle.std.proofs.Math.Bool.{or-false}
use Rattle.std.proofs.lemmas.Option.{IfSome_then}
use Rattle.page_access.specs.Cache.{Cache, HasAll, IsCacheOf}
use Rattle.page_access.specs.Files.{IsWhole, file_of}
use Rattle.page_access.specs.Outside.{KeepsSource}
use Rattle.page_access.specs.Pages.{File}
use Rattle.page_access.specs.declared.geometry.Geometry.{Geometry}
use Rattle.page_access.specs.declared.outside.Source as source
use Rattle.page_access.proofs.Caching.{cached_at}
use Rattle.page_access.proofs.Keeps.{Passed, passed_more, passed_none}
use Rattle.page_access.proofs.Told.{always_told, both_told}
use Rattle.page_lists.specs.Lists.{is_in}
use Rattle.page_walk.specs.Walk.{children}
use Rattle.page_lists.proofs.Counts.{in_head}
use Rattle.page_walk.proofs.Levels.{in_back, names_of_level}
use Rattle.page_walk.proofs.Trees.{children_are_named}
use Rattle.orphan_trees.specs.Orphans.{is_orphan, orphan_children, orphan_pages}
use Rattle.orphan_trees.specs.Passes.{children_at, has_mark, unmarked, with_marks}
use Rattle.orphan_trees.proofs.Lists.{filter-all, filter-range}

-- ---- marks one after another

pub marks-append : (ps qs : List ℕ) (marks : List Bool) → with_marks (ps ++ qs) marks ≡ with_marks qs (with_marks ps marks)
marks-append [] qs marks = refl
marks-append (p ∷ ps) qs marks = marks-append ps qs (slice_set marks (p - 1) true)

-- one more number of a list has its turn
pub mark_more : (t : ℕ → Bool) (named : List ℕ) (i d : ℕ) (marks marks' all : List Bool) → i < length named
    → marks' ≡ with_marks (filter t (get_or named i d ∷ [])) marks → with_marks (filter t (drop i named)) marks ≡ all
    → with_marks (filter t (drop (i + 1) named)) marks' ≡ all
mark_more t named i d marks marks' all lt marked was =
    let here : filter t (drop i named) ≡ filter t (get_or named i d ∷ []) ++ filter t (drop (i + 1) named) =
    ap (filter t) (drop_more named i d lt) ∙ filter-append t (get_or named i d ∷ []) (drop (i + 1) named) in
    ap (with_marks (filter t (drop (i + 1) named))) marked
    ∙ sym (marks-append (filter t (get_or named i d ∷ [])) (filter t (drop (i + 1) named)) marks)
    ∙ ap (λ (qs : List ℕ). with_marks qs marks) (sym here) ∙ was

-- marks that were written through a slice
pub written_back : (n : ℕ) (new rest : List Bool) → length new ≡ n → take n (new ++ rest) ≡ new
written_back n new rest len = ap (λ (k : ℕ). take k (new ++ rest)) (sym len) ∙ take-append_seam new rest

-- ---- the pages that have a mark

mark_set : (p q : ℕ) (marks : List Bool) → 1 ≤ p → 1 ≤ q → p ≤ length marks
    → has_mark (slice_set marks (q - 1) true) p ≡ ((q == p) || has_mark marks p)
mark_set p q marks low some high =
    elim (eqb_tells q p) [
      | inl w ↦ rw w.0 (get_or-set_at marks (q - 1) (p - 1) true false (ap (λ (x : ℕ). x - 1) (sym w.1)) (omega (arith, w.1, low, high)))
      | inr w ↦ rw w.0 (get_or-set_other marks (q - 1) (p - 1) true false (λ e. w.1 (omega (arith, e, low, some))))
    ]

or_order : (a b c : Bool) → (b || (a || c)) ≡ ((a || b) || c)
or_order true true c = refl
or_order true false c = refl
or_order false true c = refl
or_order false false c = refl

pub has_marks : (qs : List ℕ) (marks : List Bool) (p : ℕ) → ((q : ℕ) → is_in q qs ≡ true → 1 ≤ q) → 1 ≤ p → p ≤ length marks
    → has_mark (with_marks qs marks) p ≡ (is_in p qs || has_mark marks p)
has_marks [] marks p pages low high = refl
has_marks (q ∷ qs) marks p pages low high =
    has_marks qs (slice_set marks (q - 1) true) p (λ x there. pages x (later x there)) low (omega (arith, high, length-set marks (q - 1) true))
    ∙ ap (λ (b : Bool). is_in p qs || b) (mark_set p q marks low (pages q here) high)
    ∙ or_order (q == p) (is_in p qs) (has_mark marks p)
  where
    here : is_in q (q ∷ qs) ≡ true
    here = in_head q qs

    later : (x : ℕ) → is_in x qs ≡ true → is_in x (q ∷ qs) ≡ true
    later x there = in_back x (q ∷ []) qs there

-- children are pages of the file
child_low : (f : File) (u : List ℕ) (q : ℕ) → is_in q (orphan_children f u) ≡ true → 1 ≤ q
child_low f u q there =
    let named = names_of_level (children f) q (orphan_pages f u) there in
    let is = (children_are_named f named.0 q).0 named.2 in
    leb-true 1 q (and_parts (nat_le 1 q) (nat_le q f.pages) is.of_file).0

no_mark : (n p : ℕ) → 1 ≤ p → p ≤ n → has_mark (replicate n false) p ≡ false
no_mark n p low high = get_or-replicate n (p - 1) false false (omega (arith, low, high))

-- the pages without a mark are those that are a child of no orphan page
pub unnamed_are : (f : File) (u : List ℕ) → unmarked (with_marks (orphan_children f u) (replicate f.pages false)) (range_with_len 1 f.pages)
    ≡ filter (λ p. not (is_in p (orphan_children f u))) (range_with_len 1 f.pages)
unnamed_are f u =
    filter-range (λ p. not (has_mark (with_marks (orphan_children f u) (replicate f.pages false)) p)) (λ p. not (is_in p (orphan_children f u))) 1 f.pages
    (λ p low high. ap not
    (has_marks (orphan_children f u) (replicate f.pages false) p (child_low f u) low (omega (arith, high, length-replicate f.pages false))
    ∙ ap (λ (b : Bool). is_in p (orphan_children f u) || b) (no_mark f.pages p low (omega (arith, high))) ∙ or-false (is_in p (orphan_children f u))))

-- and all pages where there are no marks
pub all_unmarked : (n : ℕ) → unmarked (replicate n false) (range_with_len 1 n) ≡ range_with_len 1 n
all_unmarked n = filter-all (λ p. not (has_mark (replicate n false) p)) 1 n (λ p low high. ap not (no_mark n p low (omega (arith, high))))

-- ---- the pages one after another

children_all : (f : File) (u ps : List ℕ) → flat_map (children_at f u) ps ≡ flat_map (children f) (filter (is_orphan f u) ps)
children_all f u [] = refl
children_all f u (p ∷ ps) =
    elim (cases_Bool (is_orphan f u p)) [
      | inl is ↦ rw is (ap (λ (qs : List ℕ). children f p ++ qs) (children_all f u ps))
      | inr isnt ↦ rw isnt (children_all f u ps)
    ]

-- the next of the pages
pub range_next : (i n : ℕ) → i < n → range_with_len (i + 1) (n - i) ≡ (i + 1) ∷ range_with_len (i + 1 + 1) (n - (i + 1))
range_next i n lt =
    let left : n - i ≡ suc (n - (i + 1)) = omega (arith, lt) in
    ap (range_with_len (i + 1)) left

-- what is to come of the pages behind page i
abbrev pub to_mark : List ℕ → Geometry → List ℕ → ℕ → List ℕ
to_mark all geo u i = flat_map (children_at (file_of all geo) u) (range_with_len (i + 1) (geo.pages - i))

abbrev pub to_read : List ℕ → Geometry → List ℕ → ℕ → List ℕ
to_read all geo u i = filter (is_orphan (file_of all geo) u) (range_with_len (i + 1) (geo.pages - i))

-- the children of the first i pages are marked
pub record Marking {S : Type 0} (s : source.Ghosts S) (geo : Geometry) (u : List ℕ) (src0 src : S) (cache0 cache : Cache) (marks : List Bool) (i : ℕ) : Type 0 where
  pub kept : Passed s.bytes s.attached s.faults s.reads src0 src
  pub cached : IsCacheOf (s.bytes src) geo cache
  pub full : HasAll cache0 → HasAll cache × (src ≡ src0)
  pub len : length marks ≡ geo.pages
  pub read : IfSome (s.bytes src0) (λ all. IsWhole all geo → s.reads src + length (to_read all geo u i) ≤ s.reads src0 + length (orphan_pages (file_of all geo) u))
  pub marked : IfSome (s.bytes src0) (λ all. with_marks (to_mark all geo u i) marks
      ≡ with_marks (orphan_children (file_of all geo) u) (replicate geo.pages false))

pub marking_start : {S : Type 0} (s : source.Ghosts S) (geo : Geometry) (u : List ℕ) (src : S) (cache : Cache) (marks : List Bool) → marks ≡ replicate geo.pages false
    → IsCacheOf (s.bytes src) geo cache → Marking s geo u src src cache cache marks 0
marking_start s geo u src cache marks none cached =
    let whole : geo.pages - 0 ≡ geo.pages = omega arith in record {
      kept = passed_none s.bytes s.attached s.faults s.reads src;
      cached = cached;
      full = λ all. (all, refl);
      len = ap (λ (ms : List Bool). length ms) none ∙ length-replicate geo.pages false;
      read = always_told (λ all. IsWhole all geo → s.reads src + length (to_read all geo u 0) ≤ s.reads src + length (orphan_pages (file_of all geo) u)) (s.bytes src)
          (λ all w. omega (arith, ap (λ (n : ℕ). length (filter (is_orphan (file_of all geo) u) (range_with_len 1 n))) whole));
      marked = always_told (λ all. with_marks (to_mark all geo u 0) marks ≡ with_marks (orphan_children (file_of all geo) u) (replicate geo.pages false)) (s.bytes src)
          (λ all. ap (λ (n : ℕ). with_marks (flat_map (children_at (file_of all geo) u) (range_with_len 1 n)) marks) whole
          ∙ ap (λ (qs : List ℕ). with_marks qs marks) (children_all (file_of all geo) u (range_with_len 1 geo.pages))
          ∙ ap (with_marks (orphan_children (file_of all geo) u)) none);
    }

one_kept : (b : Bool) (p : ℕ) (ps : List ℕ) → length (if b then p ∷ ps else ps) ≡ (if b then 1 else 0) + length ps
one_kept true p ps = omega arith
one_kept false p ps = omega arith

read_next : (all : List ℕ) (geo : Geometry) (u : List ℕ) (i : ℕ) → i < geo.pages
    → length (to_read all geo u i) ≡ (if is_orphan (file_of all geo) u (i + 1) then 1 else 0) + length (to_read all geo u (i + 1))
read_next all geo u i lt =
    ap (λ (ps : List ℕ). length (filter (is_orphan (file_of all geo) u) ps)) (range_next i geo.pages lt)
    ∙ one_kept (is_orphan (file_of all geo) u (i + 1)) (i + 1) (to_read all geo u (i + 1))

-- the reads at an exit
pub marking_reads : {S : Type 0} {s : source.Ghosts S} {geo : Geometry} {u : List ℕ} {src0 src : S} {cache0 cache : Cache} {marks : List Bool} {i : ℕ}
    (now : ℕ) → Marking s geo u src0 src cache0 cache marks i → i < geo.pages
    → IfSome (s.bytes src) (λ all. IsWhole all geo → now ≤ s.reads src + (if is_orphan (file_of all geo) u (i + 1) then 1 else 0))
    → IfSome (s.bytes src0) (λ all. IsWhole all geo → now + length (to_read all geo u (i + 1)) ≤ s.reads src0 + length (orphan_pages (file_of all geo) u))
marking_reads {s = s} {geo} {u} {src0} {src} {i = i} now was lt read =
    both_told (λ all. IsWhole all geo → s.reads src + length (to_read all geo u i) ≤ s.reads src0 + length (orphan_pages (file_of all geo) u))
    (λ all. IsWhole all geo → now ≤ s.reads src + (if is_orphan (file_of all geo) u (i + 1) then 1 else 0))
    (λ all. IsWhole all geo → now + length (to_read all geo u (i + 1)) ≤ s.reads src0 + length (orphan_pages (file_of all geo) u))
    (s.bytes src0) (s.bytes src) was.kept.told
    (λ all p q whole. omega (arith, p whole, q whole, read_next all geo u i lt)) was.read read

pub fewer_reads : (o : Option (List ℕ)) (geo : Geometry) (u : List ℕ) (before now i : ℕ)
    → IfSome o (λ all. IsWhole all geo → now + length (to_read all geo u i) ≤ before + length (orphan_pages (file_of all geo) u))
    → IfSome o (λ all. IsWhole all geo → now ≤ before + length (orphan_pages (file_of all geo) u))
fewer_reads o geo u before now i read =
    IfSome_then o
    {P = λ all. IsWhole all geo → now + length (to_read all geo u i) ≤ before + length (orphan_pages (file_of all geo) u)}
    {Q = λ all. IsWhole all geo → now ≤ before + length (orphan_pages (file_of all geo) u)}
    read (λ all p whole. omega (arith, p whole))

pub marking_more : {S : Type 0} {s : source.Ghosts S} {geo : Geometry} {u : List ℕ} {src0 src : S} {cache0 cache : Cache} {marks : List Bool} {i : ℕ}
    (src' : S) (cache' : Cache) (marks' : List Bool) → Marking s geo u src0 src cache0 cache marks i → i < geo.pages
    → KeepsSource s.bytes s.attached s.faults s.reads src src' → s.faults src' ≡ s.faults src → IsCacheOf (s.bytes src) geo cache'
    → (HasAll cache → HasAll cache' × (src' ≡ src)) → length marks' ≡ length marks
    → IfSome (s.bytes src) (λ all. IsWhole all geo → s.reads src' ≤ s.reads src + (if is_orphan (file_of all geo) u (i + 1) then 1 else 0))
    → IfSome (s.bytes src) (λ all. marks' ≡ with_marks (children_at (file_of all geo) u (i + 1)) marks)
    → Marking s geo u src0 src' cache0 cache' marks' (i + 1)
marking_more {s = s} {geo} {u} {src0} {src} {marks = marks} {i} src' cache' marks' was lt kept steady cached full len read marked = record {
  kept = passed_more was.kept kept steady;
  cached = cached_at kept.told cached;
  full = λ all. let before = was.full all in let after = full before.0 in (after.0, after.1 ∙ before.1);
  len = len ∙ was.len;
  read = marking_reads (s.reads src') was lt read;
  marked = both_told (λ all. with_marks (to_mark all geo u i) marks ≡ with_marks (orphan_children (file_of all geo) u) (replicate geo.pages false))
      (λ all. marks' ≡ with_marks (children_at (file_of all geo) u (i + 1)) marks)
      (λ all. with_marks (to_mark all geo u (i + 1)) marks' ≡ with_marks (orphan_children (file_of all geo) u) (replicate geo.pages false))
      (s.bytes src0) (s.bytes src) was.kept.told
      (λ all p q.
      let here : List ℕ = children_at (file_of all geo) u (i + 1) in
      ap (with_marks (to_mark all geo u (i + 1))) q ∙ sym (marks-append here (to_mark all geo u (i + 1)) marks)
      ∙ ap (λ (ps : List ℕ). with_marks (flat_map (children_at (file_of all geo) u) ps) marks) (sym (range_next i geo.pages lt)) ∙ p)
      was.marked marked;
}

-- all pages are passed
pub marking_end : {S : Type 0} {s : source.Ghosts S} {geo : Geometry} {u : List ℕ} {src0 src : S} {cache0 cache : Cache} {marks : List Bool} {i : ℕ}
    → Marking s geo u src0 src cache0 cache marks i → geo.pages ≤ i
    → IfSome (s.bytes src0) (λ all. marks ≡ with_marks (orphan_children (file_of all geo) u) (replicate geo.pages false))
marking_end {s = s} {geo} {u} {src0} {marks = marks} {i} was end =
    IfSome_then (s.bytes src0)
    {P = λ all. with_marks (to_mark all geo u i) marks ≡ with_marks (orphan_children (file_of all geo) u) (replicate geo.pages false)}
    {Q = λ all. marks ≡ with_marks (orphan_children (file_of all geo) u) (replicate geo.pages false)}
    was.marked
    (λ all p. sym (ap (λ (n : ℕ). with_marks (flat_map (children_at (file_of all geo) u) (range_with_len (i + 1) n)) marks) none) ∙ p)
  where
    none : ◌≡◌ {A = ℕ} (geo.pages - i) 0
    none = omega (arith, end)
