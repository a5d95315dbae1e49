-- What the reading by one word of sight says of the words (docs/CREATE_TABLE.md, "One word of sight").
use Rattle.std.specs.Prelude.{◌≡◌, ℕ, true, List, [], ◌∷◌, length}
use Rattle.word_grammar.specs.Form.{Form, IsText, IsFormAt}
use Rattle.word_grammar.specs.Reading.{Reading, took, fails, reads, is_plain}

-- all was read: the words are a text in this one way. Else they are none, and the place is known
abbrev pub Verdict : Form → List ℕ → Reading → Type 0
Verdict f ws (took ls []) = IsText f ws ls
Verdict f ws (took ls (w ∷ rest)) = IsFormAt f ws (length ls)
Verdict f ws (fails n) = IsFormAt f ws n

-- where one word of sight is enough, the reading tells the texts and the places of errors
abbrev pub IsVerdict : Type 0
IsVerdict = (f : Form) (ws : List ℕ) → is_plain f [] ≡ true → Verdict f ws (reads f ws)
