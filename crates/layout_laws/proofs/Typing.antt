-- What holds of each item of a list, item after item.
use Rattle.std.proofs.Common.{◌≡◌, ◌<◌, ◌≤◌, ℕ, ◌+◌, List, [], ◌∷◌, length, map, take, get_or, sym, subst}
use Rattle.std.specs.List.{AllByRecursion}
use Rattle.std.proofs.lemmas.List.{take_all, take_more}
use Rattle.tree_writer.proofs.Raising.{all_append}

pub all_more : {X : Type 0} (P : X → Type 0) (xs : List X) (i : ℕ) (x : X) → i < length xs → x ≡ get_or xs i x → P x → AllByRecursion P (take i xs)
    → AllByRecursion P (take (i + 1) xs)
all_more P xs i x lt is p all =
    subst (AllByRecursion P) (sym (take_more xs i x lt)) (all_append P (take i xs) (get_or xs i x ∷ []) all (subst P is p, tt))

pub all_end : {X : Type 0} (P : X → Type 0) (xs : List X) (i : ℕ) → length xs ≤ i → AllByRecursion P (take i xs) → AllByRecursion P xs
all_end P xs i le all = subst (AllByRecursion P) (take_all i xs le) all

pub all_seen : {X Y : Type 0} (P : Y → Type 0) (f : X → Y) (xs : List X) → AllByRecursion (λ x. P (f x)) xs → AllByRecursion P (map f xs)
all_seen P f [] all = tt
all_seen P f (x ∷ xs) all = (all.0, all_seen P f xs all.1)
