-- Lists by their first items.
use Rattle.std.proofs.Common.{◌≡◌, Some, List, [], ◌∷◌}

pub front : {X : Type 0} (a b : X) (xs ys : List X) → a ∷ xs ≡ b ∷ ys → (a ≡ b) × (xs ≡ ys)
front a b xs ys same = (cc, cc)

pub nothing : {X : Type 0} (a : X) (xs : List X) → a ∷ xs ≡ [] → ⊥
nothing a xs same = cc

pub some_same : {X : Type 0} (a b : X) → Some a ≡ Some b → a ≡ b
some_same a b same = cc
