-- Sums over lists, and over what a map holds by its keys.
use Rattle.std.proofs.Common.{◌≡◌, ◌≤◌, ◌+◌, ◌*◌, ℕ, List, [], ◌∷◌, length, map, sum_by, sym, ap, ◌∙◌, refl, arith}
use Rattle.std.specs.List.{AllByRecursion}
use Rattle.std.proofs.lemmas.List.Sums.{sum_by-cons}
use Rattle.std.specs.Cmp.Lexicographic.{slice_cmp}
use Rattle.std.specs.BTreeMap.{insert_entry}
use Rattle.std.specs.Ordering.{match_ordering}
use Rattle.std.specs.declared.cmp.Ordering.{Ordering}
use Rattle.std.specs.declared.cmp.Ordering.TheVariants.{Less, Equal, Greater}
use Rattle.key_order.specs.Order.{value_cmp}
use Rattle.record_core.specs.declared.values.Value.{Value}
use Rattle.table_shape.specs.Entries.{in_order}

pub sum_by-map : {X Y : Type 0} (f : Y → ℕ) (g : X → Y) (xs : List X) → sum_by f (map g xs) ≡ sum_by (λ x. f (g x)) xs
sum_by-map f g [] = refl
sum_by-map f g (x ∷ xs) =
    sum_by-cons f (g x) (map g xs) ∙ ap (λ n. f (g x) + n) (sum_by-map f g xs) ∙ sym (sum_by-cons (λ y. f (g y)) x xs)

-- each term is at most the sum
pub each_within : {X : Type 0} (f : X → ℕ) (most : ℕ) (xs : List X) → sum_by f xs ≤ most → AllByRecursion (λ x. f x ≤ most) xs
each_within f most [] le = tt
each_within f most (x ∷ xs) le =
    let sum = sum_by-cons f x xs in (omega (arith, sum, le), each_within f most xs (omega (arith, sum, le)))

-- so many terms that are no less than n
pub sum_least : {X : Type 0} (f : X → ℕ) (n : ℕ) (xs : List X) → ((x : X) → n ≤ f x) → length xs * n ≤ sum_by f xs
sum_least f n [] each = omega arith
sum_least f n (x ∷ xs) each = omega (arith, sum_by-cons f x xs, each x, sum_least f n xs each)

-- what is inserted adds its own term at most
insert_within : {K V : Type 0} (cmp : K → K → Ordering) (f : V → ℕ) (es : List (K × V)) (k : K) (v : V)
    → sum_by (λ e. f e.1) (insert_entry cmp es k v) ≤ f v + sum_by (λ e. f e.1) es
insert_within {K} {V} cmp f [] k v = omega arith
insert_within {K} {V} cmp f (e ∷ es) k v = by (cmp k e.0) (insert_within cmp f es k v)
  where
    g : K × V → ℕ
    g = λ x. f x.1

    by : (o : Ordering) → sum_by (λ x. f x.1) (insert_entry cmp es k v) ≤ f v + sum_by (λ x. f x.1) es
        → sum_by (λ x. f x.1) (match_ordering o ((k, v) ∷ e ∷ es) ((e.0, v) ∷ es) (e ∷ insert_entry cmp es k v)) ≤ f v + sum_by (λ x. f x.1) (e ∷ es)
    by Less h = omega (arith, sum_by-cons (λ (x : K × V). f x.1) (k, v) (e ∷ es))
    by Equal h = omega (arith, sum_by-cons (λ (x : K × V). f x.1) (e.0, v) es, sum_by-cons (λ (x : K × V). f x.1) e es)
    by Greater h = omega (arith, h, sum_by-cons (λ (x : K × V). f x.1) e (insert_entry cmp es k v), sum_by-cons (λ (x : K × V). f x.1) e es)

-- a map has no more than the rows that it is made of
pub ordered_within : {R : Type 0} (key : R → List Value) (f : R → ℕ) (rows : List R) → sum_by (λ e. f e.1) (in_order key rows) ≤ sum_by f rows
ordered_within {R} key f [] = omega arith
ordered_within {R} key f (r ∷ rows) =
    omega (arith, insert_within (slice_cmp value_cmp) f (in_order key rows) (key r) r, ordered_within key f rows, sum_by-cons f r rows)
