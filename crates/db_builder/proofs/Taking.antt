-- Trees that are planned one behind another.
use Rattle.std.proofs.Common.{◌≡◌, ◌≤◌, ◌<◌, ◌+◌, ◌++◌, ℕ, zero, suc, List, [], ◌∷◌, length, map, take, get_or, pos, sum_by, sym, ap, ◌∙◌, refl, subst, arith, append_assoc}
use Rattle.std.specs.Prelude.{Some, None, Option, ℤ, ◌<ℤ◌}
use Rattle.std.specs.List.{AllByRecursion, AllZip, flat_map}
use Rattle.std.proofs.lemmas.List.{append-nil}
use Rattle.std.proofs.lemmas.Int.{ints}
use Rattle.std.proofs.lemmas.List.Sums.{sum_by-append, sum_by-cons, sum_by_more, sum_by_more_le}
use Rattle.table_shape.specs.declared.rows.OutTable.{OutTable}
use Rattle.tree_writer.specs.Entry.{RowidsRise}
use Rattle.tree_writer.specs.Trees.{tree_count}
use Rattle.db_builder.specs.declared.plans.MadeTree.{MadeTree}
use Rattle.db_builder.specs.declared.plans.PlannedTree.{PlannedTree}
use Rattle.db_builder.specs.declared.planners.Planner.{Planner}
use Rattle.db_builder.specs.Layout.{Placed, numbered, pages_of_trees, placed, start_of}
use Rattle.db_builder.specs.Prepared.{IsPlanned, rows_at}
use Rattle.db_builder.specs.SoFar.{IsMade, IsSoFar, next_placed}
use Rattle.db_builder.specs.Trees.{Tree, table_trees, trees_of}
use Rattle.db_builder.proofs.Sums.{sum_by-map}

abbrev pub Below : Option ℤ → ℕ → Type 0
Below None k = Unit {0}
Below (Some l) k = l <ℤ pos k

longer : (size longest more : ℕ) (tables : List OutTable) (p : Placed) (t : PlannedTree) → longest ≤ more → IsPlanned size tables longest p t → IsPlanned size tables more p t
longer size longest more tables p t le is = record {
  there = is.there;
  can = is.can;
  entries = is.entries;
  short = λ i lt. let h = is.short i lt in omega (arith, h);
  plan = is.plan;
  start = is.start;
  least = is.least;
  most = is.most;
  row = is.row;
}

pub all_longer : (size longest more : ℕ) (tables : List OutTable) (ps : List Placed) (ts : List PlannedTree) → longest ≤ more
    → AllZip (IsPlanned size tables longest) ps ts → AllZip (IsPlanned size tables more) ps ts
all_longer size longest more tables [] [] le all = tt
all_longer size longest more tables [] (t ∷ ts) le all = absurd all
all_longer size longest more tables (p ∷ ps) [] le all = absurd all
all_longer size longest more tables (p ∷ ps) (t ∷ ts) le all = (longer size longest more tables p t le all.0, all_longer size longest more tables ps ts le all.1)

zip-append : {A B : Type 0} (R : A → B → Type 0) (xs : List A) (ys : List B) (x : A) (y : B) → AllZip R xs ys → R x y → AllZip R (xs ++ x ∷ []) (ys ++ y ∷ [])
zip-append R [] [] x y all h = (h, tt)
zip-append R [] (z ∷ ys) x y all h = absurd all
zip-append R (w ∷ xs) [] x y all h = absurd all
zip-append R (w ∷ xs) (z ∷ ys) x y all h = (all.0, zip-append R xs ys x y all.1 h)

-- one more tree stands behind the pages of the others
placed-append : (size before : ℕ) (ts : List Tree) (t : Tree)
    → placed size before (ts ++ t ∷ []) ≡ placed size before ts ++ record { start = start_of size (before + pages_of_trees size ts); tree = t } ∷ []
placed-append size before [] t = ap (λ (n : ℕ). record { start = start_of size n; tree = t } ∷ []) (let e : before ≡ before + 0 = omega arith in e)
placed-append size before (u ∷ ts) t =
    ap (λ ps. record { start = start_of size before; tree = u } ∷ ps)
    (placed-append size (before + tree_count size u.kind u.entries) ts t
    ∙ ap (λ (n : ℕ). placed size (before + tree_count size u.kind u.entries) ts ++ record { start = start_of size n; tree = t } ∷ [])
    (let e : before + tree_count size u.kind u.entries + pages_of_trees size ts ≡ before + pages_of_trees size (u ∷ ts) =
    omega (arith, sum_by-cons (λ (x : Tree). tree_count size x.kind x.entries) u ts) in e))

pub placed_len : (size before : ℕ) (ts : List Tree) → length (placed size before ts) ≡ length ts
placed_len size before [] = refl
placed_len size before (t ∷ ts) = ap suc (placed_len size (before + tree_count size t.kind t.entries) ts)

-- a tree that is planned behind the others is taken in
pub taken : (tables : List OutTable) (done : List Tree) (number : ℕ) (tree : Tree) (old new : Planner) (made : MadeTree)
    → number < length tables → IsMade old number (rows_at tables number) tree made → IsSoFar tables done old
    → new.page_size ≡ old.page_size → new.trees.items ≡ old.trees.items ++ made.tree ∷ [] → new.before ≡ old.before + made.tree.plan.count
    → old.longest ≤ new.longest → made.longest ≤ new.longest → IsSoFar tables (done ++ tree ∷ []) new
taken tables done number tree old new made lt is so size trees before more longest =
    let n = old.page_size in
    let planned = is.planned tables lt refl in
    let next : next_placed old tree ≡ record { start = start_of n (0 + pages_of_trees n done); tree = tree } =
    ap (λ (k : ℕ). record { start = start_of n k; tree = tree }) (let e : old.before ≡ 0 + pages_of_trees n done = omega (arith, so.before) in e) in
    let both = zip-append (IsPlanned n tables new.longest) (placed n 0 done) old.trees.items (next_placed old tree) made.tree
    (all_longer n old.longest new.longest tables (placed n 0 done) old.trees.items more so.planned)
    (longer n made.longest new.longest tables (next_placed old tree) made.tree longest planned) in
    let all = subst (λ (ps : List Placed). AllZip (IsPlanned n tables new.longest) ps (old.trees.items ++ made.tree ∷ []))
    (ap (λ p. placed n 0 done ++ p ∷ []) next ∙ sym (placed-append n 0 done tree)) both in
    let sums : pages_of_trees n (done ++ tree ∷ []) ≡ pages_of_trees n done + pages_of_trees n (tree ∷ []) = sum_by-append (λ (x : Tree). tree_count n x.kind x.entries) done (tree ∷ []) in
    let last : pages_of_trees n (tree ∷ []) ≡ tree_count n tree.kind tree.entries = omega (arith, sum_by-cons (λ (x : Tree). tree_count n x.kind x.entries) tree []) in
    record {
      planned = subst (λ (k : ℕ). AllZip (IsPlanned k tables new.longest) (placed k 0 (done ++ tree ∷ [])) new.trees.items) (sym size)
          (subst (AllZip (IsPlanned n tables new.longest) (placed n 0 (done ++ tree ∷ []))) (sym trees) all);
      before = before ∙ (let e : old.before + made.tree.plan.count ≡ pages_of_trees n (done ++ tree ∷ []) = omega (arith, so.before, planned.plan.count, sums, last) in e)
          ∙ ap (λ (k : ℕ). pages_of_trees k (done ++ tree ∷ [])) (sym size);
    }

pub all_at : {A B : Type 0} (P : B → Type 0) (f : A → B) (xs : List A) (i : ℕ) (y : A) → AllByRecursion P (map f xs) → i < length xs → y ≡ get_or xs i y → P (f y)
all_at P f [] i y all lt is = absurd (omega arith)
all_at P f (x ∷ xs) zero y all lt is = subst (λ z. P (f z)) (sym is) all.0
all_at P f (x ∷ xs) (suc i) y all lt is = all_at P f xs i y all.1 (omega arith) is

pub flat_more : {A B : Type 0} (f : A → List B) (xs : List A) (i : ℕ) (x : A) → i < length xs → x ≡ get_or xs i x → flat_map f (take (suc i) xs) ≡ flat_map f (take i xs) ++ f x
flat_more f [] i x lt is = absurd (omega arith)
flat_more f (y ∷ xs) zero x lt is = append-nil (f y) ∙ ap f (sym is)
flat_more f (y ∷ xs) (suc i) x lt is = ap (λ l. f y ++ l) (flat_more f xs i x (omega arith) is) ∙ sym (append_assoc (f y) (flat_map f (take i xs)) (f x))

-- records of the schema have rising rowids
pub numbered_rise : (low : Option ℤ) (k : ℕ) (xs : List (List ℕ)) → Below low k → RowidsRise low (numbered k xs)
numbered_rise low k [] b = tt
numbered_rise None k (x ∷ xs) b = (pos k, refl, tt, numbered_rise (Some (pos k)) (k + 1) xs (omega (arith, ints)))
numbered_rise (Some l) k (x ∷ xs) b = (pos k, refl, b, numbered_rise (Some (pos k)) (k + 1) xs (omega (arith, ints)))

-- ---- pages

-- the pages of the trees of all tables
pages_by : (size : ℕ) (ts : List OutTable) → pages_of_trees size (trees_of ts) ≡ sum_by (λ (t : OutTable). pages_of_trees size (table_trees t)) ts
pages_by size [] = refl
pages_by size (t ∷ ts) = omega (
  arith,
  sum_by-append (λ (x : Tree). tree_count size x.kind x.entries) (table_trees t) (trees_of ts),
  sum_by-cons (λ (x : OutTable). pages_of_trees size (table_trees x)) t ts,
  pages_by size ts,
)

-- those of the tables so far and of the next one are no more
pub tables_pages : (size : ℕ) (ts : List OutTable) (i : ℕ) (t : OutTable) → i < length ts → t ≡ get_or ts i t
    → pages_of_trees size (trees_of (take i ts)) + pages_of_trees size (table_trees t) ≤ pages_of_trees size (trees_of ts)
tables_pages size ts i t lt is =
    let pages : OutTable → ℕ = λ x. pages_of_trees size (table_trees x) in
    omega (arith, pages_by size (take i ts), pages_by size ts, sum_by_more_le pages ts i t lt, ap pages is)

-- the trees of keys, one after another
pub keys_more : {X : Type 0} (size : ℕ) (first : Tree) (f : X → Tree) (items : List X) (i : ℕ) (x : X) → i < length items → x ≡ get_or items i x
    → pages_of_trees size (first ∷ map f (take (i + 1) items)) ≡ pages_of_trees size (first ∷ map f (take i items)) + tree_count size (f x).kind (f x).entries
keys_more size first f items i x lt is =
    let count : Tree → ℕ = λ t. tree_count size t.kind t.entries in
    omega (
      arith,
      sum_by-cons count first (map f (take (i + 1) items)),
      sum_by-cons count first (map f (take i items)),
      sum_by-map count f (take (i + 1) items),
      sum_by-map count f (take i items),
      sum_by_more (λ y. count (f y)) items i x lt,
      ap (λ y. count (f y)) is,
    )

pub keys_pages : {X : Type 0} (size : ℕ) (first : Tree) (f : X → Tree) (items : List X) (i : ℕ) (x : X) → i < length items → x ≡ get_or items i x
    → pages_of_trees size (first ∷ map f (take i items)) + tree_count size (f x).kind (f x).entries ≤ pages_of_trees size (first ∷ map f items)
keys_pages size first f items i x lt is =
    let count : Tree → ℕ = λ t. tree_count size t.kind t.entries in
    omega (
      arith,
      sum_by-cons count first (map f items),
      sum_by-cons count first (map f (take i items)),
      sum_by-map count f items,
      sum_by-map count f (take i items),
      sum_by_more_le (λ y. count (f y)) items i x lt,
      ap (λ y. count (f y)) is,
    )
