-- Numbers on the command line (docs/TEXTS.md, "Command line").
use Rattle.std.specs.Prelude.{ℕ, ◌+◌, ◌-◌, ◌*◌, ◌==◌, ◌&&◌, nat_le, nat_lt, not, Bool, false, if◌then◌else◌, List, [], ◌∷◌, length, Option, Some, None}
use Rattle.std.specs.List.{list_all}
use Rattle.std.specs.Char.{is_ascii_digit}
use Rattle.page_access.specs.Pages.{is_page_size}

-- the number that a text of digits writes, behind the digits that gave `high`
abbrev pub digits_value : ℕ → List ℕ → ℕ
digits_value high [] = high
digits_value high (digit ∷ digits) = digits_value (10 * high + (digit - 48)) digits

-- a zero that other digits follow
abbrev pub has_leading_zero : List ℕ → Bool
has_leading_zero [] = false
has_leading_zero (digit ∷ digits) = digit == 48 && nat_lt 0 (length digits)

-- the number of a text of decimal digits without sign and without a leading zero, 0 itself apart
unfoldable pub number_of : List ℕ → Option ℕ
number_of text =
    if length text == 0 then None
    else (if not (list_all is_ascii_digit text) then None
    else (if has_leading_zero text then None else Some (digits_value 0 text)))

-- the number where it passes a test
abbrev pub where_true : (ℕ → Bool) → Option ℕ → Option ℕ
where_true test None = None
where_true test (Some n) = if test n then Some n else None

-- one of the eight page sizes
abbrev pub page_size_of : List ℕ → Option ℕ
page_size_of text = where_true is_page_size (number_of text)

-- a number of rows of a trial: 0 to 100000
abbrev pub rows_of : List ℕ → Option ℕ
rows_of text = where_true (λ n. nat_le n 100000) (number_of text)

-- a number of 0 to 255
abbrev pub reserved_of : List ℕ → Option ℕ
reserved_of text = where_true (λ n. nat_lt n 256) (number_of text)
