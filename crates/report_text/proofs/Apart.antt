-- Names that are written alike are the same.
use Rattle.std.proofs.Common.{◌≡◌, ◌<◌, ℕ, zero, suc, Bool, true, false, List, [], ◌∷◌, ◌++◌, Ok, refl, sym, ap, ◌∙◌, codes, arith}
use Rattle.std.specs.Prelude.{if◌then◌else◌}
use Rattle.std.specs.List.{flat_map}
use Rattle.std.proofs.lemmas.Bool.Decides.{nat_tests}
use Rattle.hex.specs.Hex.{IsBytes, decode_of, encode_lower, encode_with}
use Rattle.hex.proofs.HexLemmas.{decode_of-encode_lower}
use Rattle.report_text.specs.Names.{NamesAreToldApart, esc_byte, is_plain}

-- one byte alone is a list of bytes
one_byte : (x : ℕ) → x < 256 → IsBytes (x ∷ [])
one_byte x fits zero = fits
one_byte x fits (suc k) = omega arith

-- bytes with the same two digits are the same
same_digits : (x y : ℕ) → x < 256 → y < 256 → encode_lower (x ∷ []) ≡ encode_lower (y ∷ []) → x ≡ y
same_digits x y fits fits' same =
    let one : decode_of (encode_lower (x ∷ [])) ≡ Ok (x ∷ []) = decode_of-encode_lower (x ∷ []) (one_byte x fits) in
    let two : decode_of (encode_lower (y ∷ [])) ≡ Ok (y ∷ []) = decode_of-encode_lower (y ∷ []) (one_byte y fits') in
    let both : Ok (x ∷ []) ≡ Ok (y ∷ []) = sym one ∙ ap decode_of same ∙ two in
    cc

-- how a byte is written, by whether it stands as it is
abbrev written : ℕ → Bool → List ℕ
written x plain = if plain then x ∷ [] else codes "\\" ++ encode_lower (x ∷ [])

-- the first bytes of two names are the same where these are written alike, and so is what is behind them
by_tests : (x y : ℕ) (p q : Bool) (xs ys : List ℕ) → is_plain x ≡ p → is_plain y ≡ q → x < 256 → y < 256
    → written x p ++ xs ≡ written y q ++ ys → (x ≡ y) × (xs ≡ ys)
unfolding encode_with
by_tests x y true true xs ys e f fits fits' same = (cc, cc)
by_tests x y true false xs ys e f fits fits' same = let mark : x ≡ 92 = cc in absurd (grind (arith, nat_tests))
by_tests x y false true xs ys e f fits fits' same = let mark : y ≡ 92 = cc in absurd (grind (arith, nat_tests))
by_tests x y false false xs ys e f fits fits' same =
    let digits : encode_lower (x ∷ []) ≡ encode_lower (y ∷ []) = cc in
    (same_digits x y fits fits' digits, cc)

first_same : (x y : ℕ) (xs ys : List ℕ) → x < 256 → y < 256 → esc_byte x ++ xs ≡ esc_byte y ++ ys → (x ≡ y) × (xs ≡ ys)
first_same x y xs ys = by_tests x y (is_plain x) (is_plain y) xs ys refl refl

-- a byte is written as some bytes, and not as a backslash alone
not_nothing : (x : ℕ) (p : Bool) (xs : List ℕ) → written x p ++ xs ≡ [] → ⊥
unfolding encode_with
not_nothing x true xs e = cc
not_nothing x false xs e = cc

not_empty_name : (x : ℕ) (p : Bool) (xs : List ℕ) → is_plain x ≡ p → written x p ++ xs ≡ codes "\\" → ⊥
unfolding encode_with
not_empty_name x true xs e same = let mark : x ≡ 92 = cc in grind (arith, nat_tests)
not_empty_name x false xs e same = cc

-- bytes that are written alike are the same
bytes_same : (a b : List ℕ) → IsBytes a → IsBytes b → flat_map esc_byte a ≡ flat_map esc_byte b → a ≡ b
bytes_same [] [] h k same = refl
bytes_same [] (y ∷ ys) h k same = absurd (not_nothing y (is_plain y) (flat_map esc_byte ys) (sym same))
bytes_same (x ∷ xs) [] h k same = absurd (not_nothing x (is_plain x) (flat_map esc_byte xs) same)
bytes_same (x ∷ xs) (y ∷ ys) h k same =
    let first = first_same x y (flat_map esc_byte xs) (flat_map esc_byte ys) (h 0) (k 0) same in
    let rest : xs ≡ ys = bytes_same xs ys (λ i. h (suc i)) (λ i. k (suc i)) first.1 in
    let head : x ≡ y = first.0 in
    cc

pub names_are_told_apart : NamesAreToldApart
names_are_told_apart [] [] h k same = refl
names_are_told_apart [] (y ∷ ys) h k same = absurd (not_empty_name y (is_plain y) (flat_map esc_byte ys) refl (sym same))
names_are_told_apart (x ∷ xs) [] h k same = absurd (not_empty_name x (is_plain x) (flat_map esc_byte xs) refl same)
names_are_told_apart (x ∷ xs) (y ∷ ys) h k same = bytes_same (x ∷ xs) (y ∷ ys) h k same
