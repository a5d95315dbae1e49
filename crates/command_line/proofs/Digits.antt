-- A text of digits, as `parse` reads it and as the command line does.
use Rattle.std.proofs.Common.{◌≡◌, ◌<◌, ◌^◌, ℕ, ◌==◌, true, false, List, length, Some, Result, Ok, Err, rules, arith, ap, refl}
use Rattle.std.specs.Prelude.{nat_lt}
use Rattle.std.specs.List.{list_all}
use Rattle.std.specs.Char.{is_ascii_digit}
use Rattle.std.specs.Result.{OkIff, result_ok}
use Rattle.std.specs.Str.Parse.{ParsesUnsigned}
use Rattle.std.proofs.lemmas.Str.Parse.{IsNumeralModel, numerals_by_fold, parse_digits}
use Rattle.std.proofs.lemmas.Bool.Decides.{nat_tests}
use Rattle.command_line.specs.Numbers.{digits_value, has_leading_zero, number_of, where_true}

own : IsNumeralModel (λ ds. list_all is_ascii_digit ds ≡ true) (digits_value 0)
own = numerals_by_fold _ (search rules) digits_value (search rules)

-- an answer that comes exactly where the number fits
fits : {E : Type 0} (n : ℕ) (r : Result ℕ E) → OkIff r (n < 2 ^ 32) n → result_ok r ≡ where_true (λ n. nat_lt n (2 ^ 32)) (Some n)
fits n (Ok x) h = let t : nat_lt n (2 ^ 32) ≡ true = grind (arith, nat_tests) in rw t (ap Some h.1)
fits n (Err e) h = let t : nat_lt n (2 ^ 32) ≡ false = grind (arith, nat_tests) in rw t refl

-- the same where one of two conditions holds
narrowed : {E : Type 0} (P Q : Type 0) (n : ℕ) (r : Result ℕ E) → OkIff r (P × Q) n → P → OkIff r Q n
narrowed P Q n (Ok x) h p = (h.0.1, h.1)
narrowed P Q n (Err e) h p = λ q. h (p, q)

-- what `parse` reads of digits without a leading zero
pub digits_read : {E : Type 0} (text : List ℕ) (r : Result ℕ E) → ParsesUnsigned 32 10 text r → (length text == 0) ≡ false
    → list_all is_ascii_digit text ≡ true → has_leading_zero text ≡ false
    → result_ok r ≡ where_true (λ n. nat_lt n (2 ^ 32)) (number_of text)
unfolding number_of
digits_read text r h some digits zero =
    let longer : 0 < length text = grind (arith, nat_tests) in
    rw (some, digits, zero) (fits _ r (narrowed _ _ _ r (parse_digits own 32 text r h digits) longer))
