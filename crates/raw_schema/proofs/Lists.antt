-- Lists that a loop gathers: what is there already and what is to come are all.
use Rattle.std.proofs.Common.{◌≡◌, ◌∙◌, List, ◌++◌, ap, append_assoc}

-- one more piece is there
pub gathered : {X : Type 0} (now next piece rest all : List X) → next ≡ now ++ piece → now ++ (piece ++ rest) ≡ all → next ++ rest ≡ all
gathered now next piece rest all e h = ap (λ (xs : List _). xs ++ rest) e ∙ append_assoc now piece rest ∙ h
