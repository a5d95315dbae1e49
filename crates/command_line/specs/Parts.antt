-- What a command asks for (docs/TEXTS.md, "Command line").
use Rattle.std.specs.Prelude.{ℕ, ◌-◌, nat_le, Bool, not, true, false, ◌&&◌, ◌||◌, if◌then◌else◌, List, [], ◌∷◌, codes, Option, Some, None, is_none, is_some, option_and_then, option_map}
use Rattle.std.specs.Option.{option_map_or}
use Rattle.std.specs.Str.{bytes_eq}
use Rattle.command_line.specs.Names.{is_lost_name}
use Rattle.command_line.specs.Numbers.{page_size_of, reserved_of, rows_of}
use Rattle.command_line.specs.declared.request.Listing.{Listing}
use Rattle.command_line.specs.declared.request.Listing.TheVariants.{Dbdata, Dbptr, Schema}

-- a word, as its bytes
abbrev pub Word : Type 0
Word = List ℕ

-- an input, and the options for its pages that were given
pub record FileAsked : Type 0 where
  pub name : Word
  -- bytes of a page
  pub page_size : Option ℕ
  -- reserved bytes at the end of each page
  pub reserved : Option ℕ

-- an input, the names of what is made of it, and the options that were given
pub record RecoveryAsked : Type 0 where
  pub input : FileAsked
  pub output : Word
  pub script : Word
  -- free pages are recovered like any other page
  pub freelist_corrupt : Bool
  -- the name of the table of lost rows
  pub lost : Option Word

-- what a command asks for: an input is listed, or it is recovered, or there is a trial of so many rows
pub data Asked : Type 0 where
  Lists : Listing → FileAsked → Asked
  Recovers : RecoveryAsked → Asked
  Tries : ℕ → Asked

-- the values of the options, as words
pub record Values : Type 0 where
  pub page_size : Option Word
  pub reserved : Option Word
  pub freelist_corrupt : Bool
  pub lost : Option Word

-- a flag is given: its value is `true`, and else `false`
abbrev pub is_given : Option Word → Bool
is_given None = false
is_given (Some word) = bytes_eq word (codes "true")

-- the listing that a word names
unfoldable pub listing_of : Word → Option Listing
listing_of word =
    if bytes_eq word (codes "dbdata") then Some Dbdata
    else (if bytes_eq word (codes "dbptr") then Some Dbptr
    else (if bytes_eq word (codes "schema") then Some Schema else None))

-- the one further word
abbrev pub only_word : Option (List Word) → Option Word
only_word (Some (word ∷ [])) = Some word
only_word words = None

-- the three further words
abbrev pub three_words : Option (List Word) → Option (Word × (Word × Word))
three_words (Some (a ∷ b ∷ c ∷ [])) = Some (a, (b, c))
three_words words = None

-- an option's value, read, where the option is given
abbrev pub read_option : {X : Type 0} → (Word → Option X) → Option Word → Option (Option X)
read_option read None = Some None
read_option read (Some word) = option_map Some (read word)

-- where both are given, at least 480 bytes are left
abbrev pub leaves_enough : Option ℕ → Option ℕ → Bool
leaves_enough (Some size) (Some reserved) = nat_le 480 (size - reserved)
leaves_enough size reserved = true

-- an input of this name, where the options for its pages are in order
unfoldable pub file_of : Word → Values → Option FileAsked
file_of name values =
    option_and_then (λ size. option_and_then (λ r.
    if leaves_enough size r then Some (record { name = name; page_size = size; reserved = r }) else None)
    (read_option reserved_of values.reserved)) (read_option page_size_of values.page_size)

-- no option is given that is for a recovery alone
abbrev pub is_for_pages : Values → Bool
is_for_pages values = not (values.freelist_corrupt || is_some values.lost)

-- no option is given
abbrev pub is_plain : Values → Bool
is_plain values = is_none values.page_size && (is_none values.reserved && is_for_pages values)

-- a trial of so many rows
unfoldable pub trial_of : Option (List Word) → Values → Option Asked
trial_of words values =
    if is_plain values then option_and_then (λ text. option_map Tries (rows_of text)) (only_word words) else None

-- a listing of one input
unfoldable pub list_of : Listing → Option (List Word) → Values → Option Asked
list_of listing words values =
    if is_for_pages values then option_and_then (λ name. option_map (λ file. Lists listing file) (file_of name values)) (only_word words)
    else None

-- the name for the lost rows is in order, where it is given
abbrev pub has_lost_name : Option Word → Bool
has_lost_name lost = option_map_or is_lost_name lost true

-- a recovery of an input to two new files
unfoldable pub recovery_of : Option (List Word) → Values → Option RecoveryAsked
recovery_of words values =
    if has_lost_name values.lost then option_and_then (λ names. option_map (λ file. record {
      input = file;
      output = names.1.0;
      script = names.1.1;
      freelist_corrupt = values.freelist_corrupt;
      lost = values.lost;
    }) (file_of names.0 values)) (three_words words) else None

-- the parts of a command: a mode, further words, and the options' values
unfoldable pub asked_of : Option Word → Option (List Word) → Values → Option Asked
asked_of mode words values = option_and_then (λ m.
    if bytes_eq m (codes "recover") then option_map Recovers (recovery_of words values)
    else (if bytes_eq m (codes "trial") then trial_of words values
    else option_and_then (λ listing. list_of listing words values) (listing_of m))) mode
