-- How the words of a text lie in it (docs/CREATE_TABLE.md, "Words").
use Rattle.std.specs.Prelude.{◌≡◌, ◌⊎◌, ℕ, ◌+◌, ◌<◌, ◌≤◌, Bool, true, false, ◌&&◌, ◌||◌, ◌==◌, List, [], ◌∷◌, ◌++◌, length}
use Rattle.std.specs.List.{list_any}
use Rattle.create_grammar.specs.declared.spans.Word.{Word}
use Rattle.create_grammar.specs.Words.{begins_with, is_space, words_of}

-- ---- what stands between words

-- a blank byte
abbrev pub IsBlank : List ℕ → Type 0
IsBlank part = (b : ℕ) × (part ≡ b ∷ []) × (is_space b ≡ true)

-- `--`, and no end of a line behind it, up to the end of the line or of the text
pub record IsLineComment (part after : List ℕ) : Type 0 where
  pub inner : List ℕ
  pub is : part ≡ 45 ∷ (45 ∷ inner)
  pub one_line : list_any (λ b. b == 10) inner ≡ false
  pub ends : (after ≡ []) ⊎ (begins_with 10 after ≡ true)

-- `*/` stands somewhere in the bytes
abbrev pub has_end : List ℕ → Bool
has_end [] = false
has_end (b ∷ bytes) = (b == 42 && begins_with 47 bytes) || has_end bytes

-- bytes up to the first `*/` and with it, or all bytes up to the end of the text
pub record EndsComment (bytes after : List ℕ) : Type 0 where
  pub inner : List ℕ
  pub first : has_end inner ≡ false
  pub ends : (bytes ≡ inner ++ 42 ∷ (47 ∷ [])) ⊎ ((bytes ≡ inner) × (after ≡ []))

-- `/*`, and what stands behind it
pub record IsBlockComment (part after : List ℕ) : Type 0 where
  pub behind : List ℕ
  pub is : part ≡ 47 ∷ (42 ∷ behind)
  pub ends : EndsComment behind after

abbrev pub IsSpace : List ℕ → List ℕ → Type 0
IsSpace part after = IsBlank part ⊎ (IsLineComment part after ⊎ IsBlockComment part after)

-- blank bytes and comments one after another, in front of other bytes
pub data AreSpaces : List ℕ → List ℕ → Type 0 where
  none : (after : List ℕ) → AreSpaces [] after
  more : (part spaces after : List ℕ) → IsSpace part (spaces ++ after) → AreSpaces spaces after → AreSpaces (part ++ spaces) after

-- ---- the words of a text

-- of the bytes from a place on, spaces stand first, then a word, and then the rest
pub record Cut (at : ℕ) (bytes : List ℕ) (w : Word) : Type 0 where
  pub spaces : List ℕ
  pub word : List ℕ
  pub rest : List ℕ
  pub bytes_are : bytes ≡ spaces ++ (word ++ rest)
  pub between : AreSpaces spaces (word ++ rest)
  pub some : 0 < length word
  pub start : w.start ≡ at + length spaces
  pub end : w.end ≡ w.start + length word

-- the bytes from a place on are these words, with spaces before each of them and behind the last: each byte is in
-- one word, or in the spaces between two
abbrev pub AreCut : ℕ → List ℕ → List Word → Type 0
AreCut at bytes [] = AreSpaces bytes []
AreCut at bytes (w ∷ ws) = (cut : Cut at bytes w) × AreCut w.end cut.rest ws

-- no word is empty, and each begins at the end of the word before it, or later
abbrev pub AreInOrder : ℕ → ℕ → List Word → Type 0
AreInOrder at end [] = at ≤ end
AreInOrder at end (w ∷ ws) = (at ≤ w.start) × (w.start < w.end) × AreInOrder w.end end ws

pub record AreWordsOf (sql : List ℕ) (ws : List Word) : Type 0 where
  pub cut : AreCut 0 sql ws
  pub in_order : AreInOrder 0 (length sql) ws

-- the words of every text lie so
abbrev pub WordsCover : Type 0
WordsCover = (sql : List ℕ) → AreWordsOf sql (words_of sql)
