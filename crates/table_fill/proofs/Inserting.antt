-- A key that is not there comes to its place among ordered ones.
use Rattle.std.proofs.Common.{◌≡◌, refl, ap, ◌∙◌, false, List, [], ◌∷◌, map}
use Rattle.std.specs.BTreeMap.{insert_entry}
use Rattle.std.specs.Cmp.{IsTotalOrder}
use Rattle.std.specs.List.{AllByRecursion}
use Rattle.std.specs.List.Sorted.{IsPermutation, IsStrictlySortedBy}
use Rattle.std.specs.Ordering.{is_eq, match_ordering, ordering_reverse}
use Rattle.std.specs.declared.cmp.Ordering.{Ordering}
use Rattle.std.specs.declared.cmp.Ordering.TheVariants.{Less, Equal, Greater}
use Rattle.std.proofs.lemmas.Bool.{true≢false}
use Rattle.std.proofs.lemmas.List.Elements.{All-from_recursion, recursion_from_All}
use Rattle.std.proofs.lemmas.List.Sorted.{All-permutation, IsPermutation-cons, IsPermutation-middle, IsPermutation-refl, IsPermutation-sym, IsPermutation-trans}

-- what holds of all elements holds of them in another order
pub all_moved : {X : Type 0} (P : X → Type 0) (xs ys : List X) → IsPermutation xs ys → AllByRecursion P xs → AllByRecursion P ys
all_moved P xs ys moved all = recursion_from_All P ys (All-permutation P xs ys moved (All-from_recursion P xs all))

pub all_of_map : {X Y : Type 0} (P : Y → Type 0) (f : X → Y) (xs : List X) → AllByRecursion (λ x. P (f x)) xs → AllByRecursion P (map f xs)
all_of_map P f [] all = tt
all_of_map P f (x ∷ xs) all = (all.0, all_of_map P f xs all.1)

pub all_from_map : {X Y : Type 0} (P : Y → Type 0) (f : X → Y) (xs : List X) → AllByRecursion P (map f xs) → AllByRecursion (λ x. P (f x)) xs
all_from_map P f [] all = tt
all_from_map P f (x ∷ xs) all = (all.0, all_from_map P f xs all.1)

pub all_map : {X : Type 0} (P Q : X → Type 0) → ((x : X) → P x → Q x) → (xs : List X) → AllByRecursion P xs → AllByRecursion Q xs
all_map P Q f [] all = tt
all_map P Q f (x ∷ xs) all = (f x all.0, all_map P Q f xs all.1)

pub all_both : {X : Type 0} (P Q R : X → Type 0) → ((x : X) → P x → Q x → R x) → (xs : List X) → AllByRecursion P xs → AllByRecursion Q xs → AllByRecursion R xs
all_both P Q R f [] all both = tt
all_both P Q R f (x ∷ xs) all both = (f x all.0 both.0, all_both P Q R f xs all.1 both.1)

module _ {K X : Type 0} {R : K → K → Ordering} (o : IsTotalOrder R) where
  -- no entry has a key equal to this
  abbrev pub IsNew : K → List (K × X) → Type 0
  IsNew k es = AllByRecursion (λ e. is_eq (R k e.0) ≡ false) es

  all_at : (P : K × X → Type 0) (e : K × X) (es rest : List (K × X)) (k : K) (v : X) (r : Ordering) → is_eq r ≡ false
      → AllByRecursion P (e ∷ es) → P (k, v) → AllByRecursion P rest
      → AllByRecursion P (match_ordering r ((k, v) ∷ e ∷ es) ((e.0, v) ∷ es) (e ∷ rest))
  all_at P e es rest k v Less h all one more = (one, all)
  all_at P e es rest k v Equal h all one more = absurd (true≢false h)
  all_at P e es rest k v Greater h all one more = (all.0, more)

  pub insert_all : (P : K × X → Type 0) (es : List (K × X)) (k : K) (v : X) → IsNew k es → AllByRecursion P es → P (k, v)
      → AllByRecursion P (insert_entry R es k v)
  insert_all P [] k v new all one = (one, tt)
  insert_all P (e ∷ es) k v new all one =
      all_at P e es (insert_entry R es k v) k v (R k e.0) new.0 all one (insert_all P es k v new.1 all.1 one)

  moves_at : (e : K × X) (es rest : List (K × X)) (k : K) (v : X) (r : Ordering) → is_eq r ≡ false
      → IsPermutation ((k, v) ∷ es) rest
      → IsPermutation ((k, v) ∷ e ∷ es) (match_ordering r ((k, v) ∷ e ∷ es) ((e.0, v) ∷ es) (e ∷ rest))
  moves_at e es rest k v Less h more = IsPermutation-refl _
  moves_at e es rest k v Equal h more = absurd (true≢false h)
  moves_at e es rest k v Greater h more =
      IsPermutation-trans ((k, v) ∷ e ∷ es) (e ∷ (k, v) ∷ es) (e ∷ rest)
      (IsPermutation-sym (e ∷ (k, v) ∷ es) ((k, v) ∷ e ∷ es) (IsPermutation-middle (e ∷ []) (k, v) es))
      (IsPermutation-cons e ((k, v) ∷ es) rest more)

  pub insert_moves : (es : List (K × X)) (k : K) (v : X) → IsNew k es → IsPermutation ((k, v) ∷ es) (insert_entry R es k v)
  insert_moves [] k v new = IsPermutation-refl _
  insert_moves (e ∷ es) k v new =
      moves_at e es (insert_entry R es k v) k v (R k e.0) new.0 (insert_moves es k v new.1)

  sorted_at : (e : K × X) (es rest : List (K × X)) (k : K) (v : X) (r : Ordering) → R k e.0 ≡ r → is_eq r ≡ false
      → IsStrictlySortedBy R (map (λ e. e.0) (e ∷ es))
      → (R e.0 k ≡ Less → AllByRecursion (λ e'. R e.0 e'.0 ≡ Less) rest) → IsStrictlySortedBy R (map (λ e. e.0) rest)
      → IsStrictlySortedBy R (map (λ e. e.0) (match_ordering r ((k, v) ∷ e ∷ es) ((e.0, v) ∷ es) (e ∷ rest)))
  unfolding IsStrictlySortedBy
  sorted_at e es rest k v Less lt h sorted below more =
      ((lt, all_map (λ y. R e.0 y ≡ Less) (λ y. R k y ≡ Less) (λ y b. o.trans k e.0 y lt b) (map (λ e. e.0) es) sorted.0), sorted)
  sorted_at e es rest k v Equal lt h sorted below more = absurd (true≢false h)
  sorted_at e es rest k v Greater lt h sorted below more =
      (all_of_map (λ y. R e.0 y ≡ Less) (λ e. e.0) rest (below (o.antisymm e.0 k ∙ ap ordering_reverse lt)), more)

  pub insert_sorted : (es : List (K × X)) (k : K) (v : X) → IsNew k es → IsStrictlySortedBy R (map (λ e. e.0) es)
      → IsStrictlySortedBy R (map (λ e. e.0) (insert_entry R es k v))
  unfolding IsStrictlySortedBy
  insert_sorted [] k v new sorted = (tt, tt)
  insert_sorted (e ∷ es) k v new sorted =
      sorted_at e es (insert_entry R es k v) k v (R k e.0) refl new.0 sorted
      (λ lt. insert_all (λ e'. R e.0 e'.0 ≡ Less) es k v new.1 (all_from_map (λ y. R e.0 y ≡ Less) (λ e. e.0) es sorted.0) lt)
      (insert_sorted es k v new.1 sorted.1)
