-- Names in a text (docs/CREATE_TABLE.md, "Names").
use Rattle.std.specs.Prelude.{ℕ, ◌-◌, Bool, true, false, ◌&&◌, ◌==◌, if◌then◌else◌, List, [], ◌∷◌, length, take, drop}
use Rattle.create_grammar.specs.declared.spans.Word.{Word}
use Rattle.create_grammar.specs.declared.spans.WordKind.{WordKind}
use Rattle.create_grammar.specs.declared.spans.WordKind.TheVariants.{Bare, Quoted, Text, Number, Blob, Mark, Bad}
use Rattle.create_grammar.specs.Sorts.{word_bytes}

-- the quote that closes: `[` is closed by `]`, and the others by themselves
abbrev pub closing : List ℕ → ℕ
closing [] = 0
closing (b ∷ bytes) = if b == 91 then 93 else b

-- what stands between the first byte and the last one
abbrev pub inner : List ℕ → List ℕ
inner bytes = take (length bytes - 2) (drop 1 bytes)

-- doubled quotes made single: of two quotes the second is left out
abbrev pub unquoted : ℕ → Bool → List ℕ → List ℕ
unquoted quote second [] = []
unquoted quote second (b ∷ bytes) = if (b == quote) && second then unquoted quote false bytes
    else b ∷ unquoted quote (b == quote) bytes

abbrev pub is_bare : WordKind → Bool
is_bare Bare = true
is_bare Quoted = false
is_bare Text = false
is_bare Number = false
is_bare Blob = false
is_bare (Mark b) = false
is_bare Bad = false

-- a bare word is its bytes; another name is what stands between its quotes
abbrev pub name_of : List ℕ → Word → List ℕ
name_of sql w = if is_bare w.kind then word_bytes sql w
    else unquoted (closing (word_bytes sql w)) false (inner (word_bytes sql w))
