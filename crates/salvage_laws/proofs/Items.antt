-- What holds of each item of a list.
use Rattle.std.proofs.Common.{List, [], ◌∷◌, ◌++◌}
use Rattle.std.specs.List.{AllByRecursion}
use Rattle.std.specs.List.Sorted.{IsPermutation}
use Rattle.std.proofs.lemmas.List.Elements.{All-from_recursion, recursion_from_All}
use Rattle.std.proofs.lemmas.List.Sorted.{All-permutation}

pub all_front : {X : Type 0} (P : X → Type 0) (xs ys : List X) → AllByRecursion P (xs ++ ys) → AllByRecursion P xs × AllByRecursion P ys
all_front P [] ys all = (tt, all)
all_front P (x ∷ xs) ys all =
    let rest : AllByRecursion P xs × AllByRecursion P ys = all_front P xs ys all.1 in ((all.0, rest.0), rest.1)

-- what holds of each, holds of each of the first of two lists that these are
pub all_part : {X : Type 0} (P : X → Type 0) (all xs ys : List X) → IsPermutation all (xs ++ ys) → AllByRecursion P all → AllByRecursion P xs
all_part P all xs ys moved holds =
    (all_front P xs ys (recursion_from_All P (xs ++ ys) (All-permutation P all (xs ++ ys) moved (All-from_recursion P all holds)))).0

-- what follows from two that hold of each
pub all_both : {X : Type 0} (P Q R : X → Type 0) (xs : List X) → ((x : X) → P x → Q x → R x) → AllByRecursion P xs → AllByRecursion Q xs
    → AllByRecursion R xs
all_both P Q R [] so first second = tt
all_both P Q R (x ∷ xs) so first second = (so x first.0 second.0, all_both P Q R xs so first.1 second.1)
