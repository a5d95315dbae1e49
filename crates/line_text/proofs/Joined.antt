-- Texts as pieces, one behind the other.
use Rattle.std.proofs.Common.{◌≡◌, ◌∙◌, ℕ, List, [], ◌∷◌, ◌++◌, take, drop, ap, sym, refl}
use Rattle.std.proofs.lemmas.List.{take-append-drop}
use Rattle.hex.specs.Hex.{encode_with}

-- the digits of two lists of bytes are those of the one and then those of the other
pub hex-append : (t xs ys : List ℕ) → encode_with t (xs ++ ys) ≡ encode_with t xs ++ encode_with t ys
unfolding encode_with
hex-append t [] ys = refl
hex-append t (x ∷ xs) ys = rw (hex-append t xs ys) refl

-- the text of a list, where that of two lists is that of the one and then that of the other
pub split_text : (f : List ℕ → List ℕ) → ((xs ys : List ℕ) → f (xs ++ ys) ≡ f xs ++ f ys) → (n : ℕ) (xs front back : List ℕ)
    → front ≡ take n xs → back ≡ drop n xs → f xs ≡ f front ++ f back
split_text f joined n xs front back is_front is_back =
    rw (is_front, is_back) (ap f (sym (take-append-drop n xs)) ∙ joined (take n xs) (drop n xs))
