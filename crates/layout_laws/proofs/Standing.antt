-- The pages of a layout stand at their numbers, and so each of its trees stands in the file.
use Rattle.std.proofs.Common.{◌≡◌, ◌<◌, ◌≤◌, ℕ, zero, suc, ◌+◌, ◌-◌, ◌*◌, ◌^◌, List, [], ◌∷◌, ◌++◌, length, get_or, drop, refl, sym, ap, ◌∙◌, inl, inr, true, subst, arith}
use Rattle.std.specs.Prelude.{None}
use Rattle.std.specs.List.{AllByRecursion, flat_map}
use Rattle.std.proofs.lemmas.Bool.{cases_lt}
use Rattle.std.proofs.lemmas.List.{length-append}
use Rattle.std.proofs.lemmas.List.Sums.{sum_by-cons}
use Rattle.page_access.specs.Pages.{File, is_page_size, page_at}
use Rattle.cell_reader.specs.declared.shapes.Kind.TheVariants.{Table}
use Rattle.tree_writer.specs.Cells.{chains_from}
use Rattle.tree_writer.specs.Entry.{AreEntries, Entry, RowidsRise}
use Rattle.tree_writer.specs.Layout.{pages_from, tree_pages}
use Rattle.tree_writer.specs.Levels.{pages_in, schema_sheets, schema_top, tree_sheets}
use Rattle.tree_writer.specs.Numbers.{number_of}
use Rattle.tree_writer.specs.Trees.{schema_count, tree_count}
use Rattle.tree_writer.proofs.Raising.{all_append}
use Rattle.tree_writer.proofs.Writing.{length-chains, length-pages}
use Rattle.written_trees.specs.Trees.{ArePageNumbers, CanHold, HasPagesAt, HasRowid, IsTreeOf, first_then, numbers}
use Rattle.written_trees.proofs.Numbers.{Stand, stand_apart}
use Rattle.written_trees.proofs.Serving.{numbers_serve}
use Rattle.written_trees.proofs.Sized.{schema_full, tree_full}
use Rattle.written_trees.proofs.Whole.{schema_is, tree_is}
use Rattle.db_builder.specs.declared.databases.OutDb.{OutDb}
use Rattle.db_builder.specs.Layout.{Placed, header_of, last_page, layout, lock_of, number_in, page_total, paged, pages_of_schema, pages_of_trees, placed, root_of, schema_entries, start_of, tree_bytes}
use Rattle.db_builder.specs.Trees.{Tree, trees_of}
use Rattle.layout_laws.proofs.Heads.{header_len}
use Rattle.layout_laws.proofs.Numbering.{high, last_none, last_of, low, number_more, within_last}
use Rattle.layout_laws.proofs.Paging.{StandAll, page_there, paged-append, paged_moved, pages_stand}
use Rattle.layout_laws.proofs.Sizes.{lock_late, size_least, size_most}

-- the file that is written
abbrev pub file_of : ℕ → OutDb → File
file_of size db = record {
  bytes = layout size db;
  size = size;
  usable = size;
  pages = last_page size (trees_of db.tables.items);
}

-- a tree behind so many pages
abbrev pub at_tree : ℕ → ℕ → Tree → Placed
at_tree size before t = record { start = start_of size before; tree = t }

-- the number of its pages
abbrev pub count_in : ℕ → Tree → ℕ
count_in size t = tree_count size t.kind t.entries

-- ---- the pages of all trees

-- the pages of a tree behind so many others, and those of trees one after another
abbrev pub pages_at : ℕ → ℕ → Tree → List (List ℕ)
pages_at size before t = tree_pages size t.kind (number_in size (at_tree size before t)) t.entries

abbrev pub trees_pages : ℕ → ℕ → List Tree → List (List ℕ)
trees_pages size before [] = []
trees_pages size before (t ∷ ts) = pages_at size before t ++ trees_pages size (before + count_in size t) ts

tree_len : (size before : ℕ) (t : Tree) → length (pages_at size before t) ≡ count_in size t
tree_len size before t = length-pages size t.kind (number_in size (at_tree size before t)) 0 (tree_sheets size t.kind 0 t.entries)

trees_len : (size before : ℕ) (ts : List Tree) → length (trees_pages size before ts) ≡ pages_of_trees size ts
trees_len size before [] = refl
trees_len size before (t ∷ ts) = omega (
  arith,
  length-append (pages_at size before t) (trees_pages size (before + count_in size t) ts),
  tree_len size before t,
  trees_len size (before + count_in size t) ts,
  sum_by-cons (count_in size) t ts,
)

-- the numbers of a tree's pages among those of all
pub number_same : (size before : ℕ) (t : Tree) → 2 < lock_of size → (j : ℕ) → number_in size (at_tree size before t) j ≡ number_of 2 (lock_of size) (before + j)
number_same size before t late j = number_more (lock_of size) before j (omega arith)

-- the bytes of the trees are those of all pages
trees_bytes : (size before : ℕ) (ts : List Tree) → 2 < lock_of size
    → flat_map (tree_bytes size) (placed size before ts) ≡ paged size (number_of 2 (lock_of size)) before (trees_pages size before ts)
trees_bytes size before [] late = refl
trees_bytes size before (t ∷ ts) late =
    let number = number_of 2 (lock_of size) in
    let more = before + count_in size t in
    let here : tree_bytes size (at_tree size before t) ≡ paged size number before (pages_at size before t) =
    paged_moved size (number_in size (at_tree size before t)) number before 0 (pages_at size before t) (number_same size before t late)
    ∙ ap (λ n. paged size number n (pages_at size before t)) (let e : before + 0 ≡ before = omega arith in e) in
    ap (λ (b : List ℕ). b ++ flat_map (tree_bytes size) (placed size more ts)) here
    ∙ ap (λ (b : List ℕ). paged size number before (pages_at size before t) ++ b) (trees_bytes size more ts late
    ∙ ap (λ n. paged size number n (trees_pages size more ts)) (let e : more ≡ before + length (pages_at size before t) = omega (arith, tree_len size before t) in e))
    ∙ sym (paged-append size number before (pages_at size before t) (trees_pages size more ts))

trees_full : (size before : ℕ) (ts : List Tree) → 512 ≤ size → size ≤ 65536 → AllByRecursion (λ (page : List ℕ). length page ≡ size) (trees_pages size before ts)
trees_full size before [] least most = tt
trees_full size before (t ∷ ts) least most =
    all_append (λ (page : List ℕ). length page ≡ size) (pages_at size before t) (trees_pages size (before + count_in size t) ts)
    (tree_full size t.kind (number_in size (at_tree size before t)) t.entries (omega arith) most)
    (trees_full size (before + count_in size t) ts least most)

-- ---- the pages of the schema

-- the numbers of the schema's pages but the first
abbrev pub number_schema : ℕ → List Tree → ℕ → ℕ
number_schema size trees = number_of (start_of size (pages_of_trees size trees)) (lock_of size)

-- its first page, and the others
abbrev pub schema_first : ℕ → OutDb → List ℕ
schema_first size db = get_or (pages_of_schema size db) 0 []

abbrev pub schema_rest : ℕ → OutDb → List (List ℕ)
schema_rest size db = drop 1 (pages_of_schema size db)

pub rest_len : (size : ℕ) (db : OutDb) → length (schema_rest size db) + 1 ≡ schema_count size (schema_entries size (trees_of db.tables.items))
rest_len size db =
    let trees = trees_of db.tables.items in
    let es = schema_entries size trees in
    let number = number_schema size trees in
    omega (
      arith,
      length-append (pages_from size Table number 0 (schema_sheets size es)) (chains_from size Table number (pages_in size Table (schema_sheets size es)) (schema_top size es).items),
      length-pages size Table number 0 (schema_sheets size es),
      length-chains size Table number (pages_in size Table (schema_sheets size es)) (schema_top size es).items,
    )

-- ---- all pages of the file

-- all pages but the first
abbrev pub other_pages : ℕ → OutDb → List (List ℕ)
other_pages size db = trees_pages size 0 (trees_of db.tables.items) ++ schema_rest size db

pub others_len : (size : ℕ) (db : OutDb) → length (other_pages size db) ≡ page_total size (trees_of db.tables.items) - 1
others_len size db = omega (
  arith,
  length-append (trees_pages size 0 (trees_of db.tables.items)) (schema_rest size db),
  trees_len size 0 (trees_of db.tables.items),
  rest_len size db,
)

pub bytes_are : (size : ℕ) (db : OutDb) → 2 < lock_of size → layout size db ≡ schema_first size db ++ paged size (number_of 2 (lock_of size)) 0 (other_pages size db)
unfolding layout
bytes_are size db late =
    let trees = trees_of db.tables.items in
    let total = pages_of_trees size trees in
    let number = number_of 2 (lock_of size) in
    let rest : paged size (number_schema size trees) 0 (schema_rest size db) ≡ paged size number (0 + length (trees_pages size 0 trees)) (schema_rest size db) =
    paged_moved size (number_schema size trees) number total 0 (schema_rest size db) (λ j. number_more (lock_of size) total j (omega arith))
    ∙ ap (λ n. paged size number n (schema_rest size db)) (let e : total + 0 ≡ 0 + length (trees_pages size 0 trees) = omega (arith, trees_len size 0 trees) in e) in
    ap (λ (b : List ℕ). schema_first size db ++ b)
    (ap (λ (b : List ℕ). b ++ paged size (number_schema size trees) 0 (schema_rest size db)) (trees_bytes size 0 trees late)
    ∙ ap (λ (b : List ℕ). paged size number 0 (trees_pages size 0 trees) ++ b) rest
    ∙ sym (paged-append size number 0 (trees_pages size 0 trees) (schema_rest size db)))

-- each page but the first stands at its number, and the file ends behind the last
pub all_stand : (size : ℕ) (db : OutDb) → is_page_size size ≡ true → StandAll (file_of size db) (lock_of size) 0 (other_pages size db)
all_stand size db valid =
    let trees = trees_of db.tables.items in
    let late = lock_late size valid in
    let least = size_least size valid in
    let most = size_most size valid in
    let full = schema_full (header_of size db) size (number_schema size trees) (schema_entries size trees) (header_len _) (omega arith) most in
    pages_stand (file_of size db) (lock_of size) 0 (schema_first size db) (other_pages size db) late refl (bytes_are size db late)
    (omega (arith, full.0, ap (λ n. n * size) (last_none (lock_of size) (omega arith))))
    (all_append (λ (page : List ℕ). length page ≡ size) (trees_pages size 0 trees) (schema_rest size db) (trees_full size 0 trees least most) full.1)

-- ---- each tree

-- what a tree is that is read back: few entries, in order, with rowids as their kind has them
pub record CanStand (t : Tree) : Type 0 where
  pub entries_are : AreEntries t.entries
  pub rowids : AllByRecursion (λ (e : Entry). HasRowid t.kind e.rowid) t.entries
  pub rise : t.kind ≡ Table → RowidsRise None t.entries

-- trees one after another stand in the file, the first behind so many pages of others
abbrev pub TreesStand : File → ℕ → List Tree → Type 0
TreesStand f before [] = Unit {0}
TreesStand f before (t ∷ ts) = IsTreeOf f t.kind (root_of f.size (at_tree f.size before t)) t.entries (numbers (number_of 2 (lock_of f.size)) before (count_in f.size t))
    × TreesStand f (before + count_in f.size t) ts

-- pages of one part of the file, by the numbers of that part
has_pages : (f : File) (number whole : ℕ → ℕ) (before : ℕ) (pages : List (List ℕ)) → ((j : ℕ) → number j ≡ whole (before + j))
    → Stand f whole before pages → HasPagesAt f number pages
has_pages f number whole before [] same s k lt = absurd (omega arith)
has_pages f number whole before (page ∷ pages) same s zero lt =
    ap (page_at f) (same 0 ∙ ap whole (let e : before + 0 ≡ before = omega arith in e)) ∙ s.0
has_pages f number whole before (page ∷ pages) same s (suc k) lt =
    has_pages f (λ j. number (suc j)) whole (before + 1) pages (λ j. same (suc j) ∙ ap whole (let e : before + suc j ≡ before + 1 + j = omega arith in e)) s.1 k (omega arith)

numbers_moved : (number whole : ℕ → ℕ) (before k n : ℕ) → ((j : ℕ) → number j ≡ whole (before + j)) → numbers number k n ≡ numbers whole (before + k) n
numbers_moved number whole before k zero same = refl
numbers_moved number whole before k (suc n) same =
    ap (λ p. p ∷ numbers number (k + 1) n) (same k)
    ∙ ap (λ (ps : List ℕ). whole (before + k) ∷ ps) (numbers_moved number whole before (k + 1) n same
    ∙ ap (λ i. numbers whole i n) (let e : before + (k + 1) ≡ before + k + 1 = omega arith in e))

run_moved : (number whole : ℕ → ℕ) (before n : ℕ) → ((j : ℕ) → number j ≡ whole (before + j)) → numbers number 0 n ≡ numbers whole before n
run_moved number whole before n same =
    numbers_moved number whole before 0 n same ∙ ap (λ i. numbers whole i n) (let e : before + 0 ≡ before = omega arith in e)

start_most : (lock before : ℕ) → 2 ≤ lock → number_of 2 lock before ≤ before + 3
start_most lock before two = elim (cases_lt (2 + before) lock) [
  | inl lt ↦ omega (arith, low 2 lock before lt)
  | inr le ↦ omega (arith, high 2 lock before two le)
]

start_least : (lock before : ℕ) → 2 ≤ lock → 2 ≤ number_of 2 lock before
start_least lock before two = elim (cases_lt (2 + before) lock) [
  | inl lt ↦ omega (arith, low 2 lock before lt)
  | inr le ↦ omega (arith, high 2 lock before two le)
]

-- page numbers of one part of the file serve
numbers_in : (size : ℕ) (db : OutDb) (before n : ℕ) → is_page_size size ≡ true → page_total size (trees_of db.tables.items) < 2 ^ 31
    → before + n ≤ page_total size (trees_of db.tables.items) - 1 → ArePageNumbers (file_of size db) (number_of (start_of size before) (lock_of size)) n
numbers_in size db before n valid few within =
    let lock = lock_of size in
    let two : 2 ≤ lock = omega (arith, lock_late size valid) in
    (numbers_serve (file_of size db) (start_of size before) lock n (start_least lock before two)
    (omega (arith, start_most lock before two, few, within))
    (λ k lt. omega (
      arith,
      number_more lock before k two,
      within_last lock (before + k) (page_total size (trees_of db.tables.items) - 1) two (omega (arith, lt, within)),
    ))).0

one_stands : (size : ℕ) (db : OutDb) (before : ℕ) (t : Tree) → is_page_size size ≡ true → page_total size (trees_of db.tables.items) < 2 ^ 31
    → before + count_in size t ≤ page_total size (trees_of db.tables.items) - 1 → CanStand t → Stand (file_of size db) (number_of 2 (lock_of size)) before (pages_at size before t)
    → IsTreeOf (file_of size db) t.kind (root_of size (at_tree size before t)) t.entries (numbers (number_of 2 (lock_of size)) before (count_in size t))
one_stands size db before t valid few within can s =
    let f = file_of size db in
    let number = number_in size (at_tree size before t) in
    let whole = number_of 2 (lock_of size) in
    let same = number_same size before t (lock_late size valid) in
    let holds : CanHold f t.kind number (count_in size t) t.entries = record {
      least = omega (arith, size_least size valid);
      most = size_most size valid;
      numbers_are = numbers_in size db before (count_in size t) valid few within;
      entries_are = can.entries_are;
      rowids = can.rowids;
      rise = can.rise;
    } in
    subst (IsTreeOf f t.kind (root_of size (at_tree size before t)) t.entries) (run_moved number whole before (count_in size t) same)
    (tree_is f t.kind number t.entries holds (has_pages f number whole before (pages_at size before t) same s))

trees_stand : (size : ℕ) (db : OutDb) (before : ℕ) (ts : List Tree) → is_page_size size ≡ true → page_total size (trees_of db.tables.items) < 2 ^ 31
    → before + pages_of_trees size ts ≤ page_total size (trees_of db.tables.items) - 1 → AllByRecursion CanStand ts
    → Stand (file_of size db) (number_of 2 (lock_of size)) before (trees_pages size before ts) → TreesStand (file_of size db) before ts
trees_stand size db before [] valid few within can s = tt
trees_stand size db before (t ∷ ts) valid few within can s =
    let f = file_of size db in
    let whole = number_of 2 (lock_of size) in
    let more = before + count_in size t in
    let sums = sum_by-cons (count_in size) t ts in
    let parts = stand_apart f whole before (pages_at size before t) (trees_pages size more ts) s in
    let place : before + length (pages_at size before t) ≡ more = omega (arith, tree_len size before t) in (
      one_stands size db before t valid few (omega (arith, sums, within)) can.0 parts.0,
      trees_stand size db more ts valid few (omega (arith, sums, within)) can.1 (subst (λ n. Stand f whole n (trees_pages size more ts)) place parts.1),
    )

-- ---- the schema's tree

-- entries of the schema that are read back
pub record CanStandFirst (es : List Entry) : Type 0 where
  pub entries_are : AreEntries es
  pub rowids : AllByRecursion (λ (e : Entry). HasRowid Table e.rowid) es
  pub rise : RowidsRise None es

-- page 1 stands at the front
first_stands : (size : ℕ) (db : OutDb) → is_page_size size ≡ true → page_at (file_of size db) 1 ≡ schema_first size db
first_stands size db valid =
    let trees = trees_of db.tables.items in
    let full = schema_full (header_of size db) size (number_schema size trees) (schema_entries size trees) (header_len _) (omega (arith, size_least size valid)) (size_most size valid) in
    page_there (layout size db) [] (schema_first size db) (paged size (number_of 2 (lock_of size)) 0 (other_pages size db)) size 1
    (bytes_are size db (lock_late size valid)) (omega arith) full.0

schema_stands : (size : ℕ) (db : OutDb) → is_page_size size ≡ true → page_total size (trees_of db.tables.items) < 2 ^ 31
    → CanStandFirst (schema_entries size (trees_of db.tables.items))
    → Stand (file_of size db) (number_of 2 (lock_of size)) (pages_of_trees size (trees_of db.tables.items)) (schema_rest size db)
    → IsTreeOf (file_of size db) Table 1 (schema_entries size (trees_of db.tables.items))
    (1 ∷ numbers (number_of 2 (lock_of size)) (pages_of_trees size (trees_of db.tables.items)) (schema_count size (schema_entries size (trees_of db.tables.items)) - 1))
schema_stands size db valid few can s =
    let f = file_of size db in
    let trees = trees_of db.tables.items in
    let es = schema_entries size trees in
    let total = pages_of_trees size trees in
    let number = number_schema size trees in
    let whole = number_of 2 (lock_of size) in
    let n = schema_count size es - 1 in
    let two : 2 ≤ lock_of size = omega (arith, lock_late size valid) in
    let same : (j : ℕ) → number j ≡ whole (total + j) = λ j. number_more (lock_of size) total j two in
    let holds : CanHold f Table number n es = record {
      least = omega (arith, size_least size valid);
      most = size_most size valid;
      numbers_are = numbers_in size db total n valid few (omega (arith, rest_len size db));
      entries_are = can.entries_are;
      rowids = can.rowids;
      rise = λ table. can.rise;
    } in
    let some : 1 ≤ f.pages = last_some (lock_of size) (page_total size trees - 1) two in
    subst (λ (ps : List ℕ). IsTreeOf f Table 1 es (1 ∷ ps)) (run_moved number whole total n same)
    (schema_is f (header_of size db) number es (header_len _) some holds (both (first_stands size db valid) (has_pages f number whole total (schema_rest size db) same s)))
  where
    last_some : (lock k : ℕ) → 2 ≤ lock → 1 ≤ last_of lock k
    last_some lock k two = elim (cases_lt (1 + k) lock) [
      | inl lt ↦ omega (arith, low 1 lock k lt)
      | inr le ↦ omega (arith, high 1 lock k (omega arith) le)
    ]

    both : page_at (file_of size db) 1 ≡ schema_first size db → HasPagesAt (file_of size db) (number_schema size (trees_of db.tables.items)) (schema_rest size db)
        → HasPagesAt (file_of size db) (first_then (number_schema size (trees_of db.tables.items))) (pages_of_schema size db)
    both first rest zero lt = first
    both first rest (suc k) lt = rest k (omega arith)

-- ---- the whole file

-- each tree stands in the file, and the file ends behind its last page
pub record Stands (size : ℕ) (db : OutDb) : Type 0 where
  pub trees : TreesStand (file_of size db) 0 (trees_of db.tables.items)
  pub schema : IsTreeOf (file_of size db) Table 1 (schema_entries size (trees_of db.tables.items))
      (1 ∷ numbers (number_of 2 (lock_of size)) (pages_of_trees size (trees_of db.tables.items)) (schema_count size (schema_entries size (trees_of db.tables.items)) - 1))
  pub long : length (layout size db) ≡ last_page size (trees_of db.tables.items) * size

pub stands : (size : ℕ) (db : OutDb) → is_page_size size ≡ true → page_total size (trees_of db.tables.items) < 2 ^ 31
    → AllByRecursion CanStand (trees_of db.tables.items) → CanStandFirst (schema_entries size (trees_of db.tables.items)) → Stands size db
stands size db valid few can first =
    let f = file_of size db in
    let trees = trees_of db.tables.items in
    let whole = number_of 2 (lock_of size) in
    let all = all_stand size db valid in
    let parts = stand_apart f whole 0 (trees_pages size 0 trees) (schema_rest size db) all.stand in
    let place : 0 + length (trees_pages size 0 trees) ≡ pages_of_trees size trees = omega (arith, trees_len size 0 trees) in
    record {
      trees = trees_stand size db 0 trees valid few (omega (arith, rest_len size db)) can parts.0;
      schema = schema_stands size db valid few first (subst (λ n. Stand f whole n (schema_rest size db)) place parts.1);
      long = all.long ∙ ap (λ n. last_of (lock_of size) n * size) (let e : 0 + length (other_pages size db) ≡ page_total size trees - 1 = omega (arith, others_len size db) in e);
    }
