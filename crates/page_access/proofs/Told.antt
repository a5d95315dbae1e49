-- Facts of the bytes that a source tells, where it tells them.
use Rattle.std.proofs.Common.{◌≡◌, ℕ, Option, Some, None, IfSome, List, subst}

-- a fact of all bytes
pub always_told : (R : List ℕ → Type 0) (o : Option (List ℕ)) → ((all : List ℕ) → R all) → IfSome o R
always_told R None f = tt
always_told R (Some all) f = f all

-- two facts of told bytes make a third
pub both_told : (P Q R : List ℕ → Type 0) (o o' : Option (List ℕ)) → o' ≡ o → ((all : List ℕ) → P all → Q all → R all)
    → IfSome o P → IfSome o' Q → IfSome o R
both_told P Q R None o' e f p q = tt
both_told P Q R (Some all) o' e f p q = f all p (subst (λ (x : Option (List ℕ)). IfSome x Q) e q)
