-- The words of a text (docs/CREATE_TABLE.md, "Words"; tokenize.c of SQLite, lang_keywords.html).
use Rattle.std.specs.Prelude.{ℕ, zero, suc, ◌+◌, Bool, false, not, ◌&&◌, ◌||◌, ◌==◌, nat_le, if◌then◌else◌, Option, Some, None, option_map, List, [], ◌∷◌, length, drop}
use Rattle.std.specs.Char.{is_ascii_alphabetic, is_ascii_digit}
use Rattle.create_grammar.specs.declared.spans.FrontWord.{FrontWord}
use Rattle.create_grammar.specs.declared.spans.Word.{Word}
use Rattle.create_grammar.specs.declared.spans.WordKind.{WordKind}
use Rattle.create_grammar.specs.declared.spans.WordKind.TheVariants.{Bare, Quoted, Text, Number, Blob, Mark, Bad}

-- ---- bytes

abbrev pub is_space : ℕ → Bool
is_space b = b == 9 || (b == 10 || (b == 12 || (b == 13 || b == 32)))

-- a letter of ASCII, `_` or a byte from 80 on
abbrev pub begins_bare : ℕ → Bool
begins_bare b = is_ascii_alphabetic b || (b == 95 || nat_le 128 b)

-- one of these, a digit or `$`
abbrev pub goes_on_bare : ℕ → Bool
goes_on_bare b = begins_bare b || (is_ascii_digit b || b == 36)

-- a letter, a digit, `_`, `.`, or a sign behind `e` or `E`
abbrev pub goes_on_number : ℕ → ℕ → Bool
goes_on_number before b = is_ascii_alphabetic b || (is_ascii_digit b || (b == 95 || (b == 46
    || ((b == 43 || b == 45) && (before == 101 || before == 69)))))

-- the bytes begin with this one
abbrev pub begins_with : ℕ → List ℕ → Bool
begins_with b [] = false
begins_with b (c ∷ bytes) = c == b

-- a digit stands at the front
abbrev pub begins_with_digit : List ℕ → Bool
begins_with_digit [] = false
begins_with_digit (b ∷ bytes) = is_ascii_digit b

-- ---- lengths

-- up to the end of the line, or of the text
abbrev pub line_len : List ℕ → ℕ
line_len [] = 0
line_len (b ∷ bytes) = if b == 10 then 0 else 1 + line_len bytes

-- up to `*/` and with it, or up to the end of the text; `star` tells that the byte before was `*`
abbrev pub comment_from : Bool → List ℕ → ℕ
comment_from star [] = 0
comment_from star (b ∷ bytes) = if star && b == 47 then 1 else 1 + comment_from (b == 42) bytes

abbrev pub comment_len : List ℕ → ℕ
comment_len bytes = comment_from false bytes

abbrev pub bare_len : List ℕ → ℕ
bare_len [] = 0
bare_len (b ∷ bytes) = if goes_on_bare b then 1 + bare_len bytes else 0

-- the rest of a number, behind a byte of it
abbrev pub number_len : ℕ → List ℕ → ℕ
number_len before [] = 0
number_len before (b ∷ bytes) = if goes_on_number before b then 1 + number_len b bytes else 0

abbrev pub more : ℕ → Option ℕ → Option ℕ
more n len = option_map (λ k. n + k) len

-- up to the next closing byte and with it
abbrev pub closed_len : ℕ → List ℕ → Option ℕ
closed_len close [] = None
closed_len close (b ∷ bytes) = if b == close then Some 1 else more 1 (closed_len close bytes)

-- up to the next quote that is not doubled, and with it; `second` tells that the byte before was a quote that
-- may be doubled
abbrev pub quoted_from : ℕ → Bool → List ℕ → Option ℕ
quoted_from quote second [] = if second then Some 0 else None
quoted_from quote second (b ∷ bytes) = if b == quote then more 1 (quoted_from quote (not second) bytes)
    else (if second then Some 0 else more 1 (quoted_from quote false bytes))

abbrev pub quoted_len : ℕ → List ℕ → Option ℕ
quoted_len quote bytes = quoted_from quote false bytes

-- ---- what stands at the front

-- a blank byte or a comment: its length, or 0
abbrev pub gap_len : List ℕ → ℕ
gap_len [] = 0
gap_len (b ∷ bytes) = if is_space b then 1
    else (if b == 45 && begins_with 45 bytes then 2 + line_len (drop 1 bytes)
    else (if b == 47 && begins_with 42 bytes then 2 + comment_len (drop 1 bytes) else 0))

-- a word: its kind and its length
pub record Front : Type 0 where
  pub kind : WordKind
  pub len : ℕ

-- a word between quotes, or an opening quote without its end, up to the end of the text
abbrev pub closed_word : WordKind → List ℕ → Option ℕ → Front
closed_word kind bytes None = record { kind = Bad; len = 1 + length bytes }
closed_word kind bytes (Some k) = record { kind = kind; len = 1 + k }

-- the length of a blob behind its letter
abbrev pub blob_len : ℕ → List ℕ → Option ℕ
blob_len b bytes = if (b == 120 || b == 88) && begins_with 39 bytes then more 1 (closed_len 39 (drop 1 bytes)) else None

abbrev pub bare_word : List ℕ → Option ℕ → Front
bare_word bytes None = record { kind = Bare; len = 1 + bare_len bytes }
bare_word bytes (Some k) = record { kind = Blob; len = 1 + k }

-- any word but a bare one or a blob
abbrev pub other_word : ℕ → List ℕ → Front
other_word b bytes = if b == 34 || b == 96 then closed_word Quoted bytes (quoted_len b bytes)
    else (if b == 91 then closed_word Quoted bytes (closed_len 93 bytes)
    else (if b == 39 then closed_word Text bytes (quoted_len 39 bytes)
    else (if is_ascii_digit b || (b == 46 && begins_with_digit bytes)
    then record { kind = Number; len = 1 + number_len b bytes }
    else record { kind = Mark b; len = 1 })))

abbrev pub word_at : ℕ → List ℕ → Front
word_at b bytes = if begins_bare b then bare_word bytes (blob_len b bytes) else other_word b bytes

-- ---- all words

-- the word at the front of bytes
abbrev pub front_word : List ℕ → Front
front_word [] = record { kind = Bad; len = 0 }
front_word (b ∷ bytes) = word_at b bytes

abbrev pub word_from : ℕ → Front → Word
word_from at w = record { kind = w.kind; start = at; end = at + w.len }

-- the words of bytes that begin at a place of the text, at most n of words and gaps
abbrev pub words_from : ℕ → ℕ → List ℕ → List Word
words_from zero at bytes = []
words_from (suc n) at [] = []
words_from (suc n) at (b ∷ bytes) = if gap_len (b ∷ bytes) == 0
    then word_from at (front_word (b ∷ bytes)) ∷ words_from n (at + (front_word (b ∷ bytes)).len)
    (drop (front_word (b ∷ bytes)).len (b ∷ bytes))
    else words_from n (at + gap_len (b ∷ bytes)) (drop (gap_len (b ∷ bytes)) (b ∷ bytes))

abbrev pub words_of : List ℕ → List Word
words_of sql = words_from (length sql) 0 sql

-- a word of the program as definitions see it
abbrev pub seen : FrontWord → Front
seen w = record { kind = w.kind; len = w.len }
