-- The lines of a report (docs/TEXTS.md, "The report").
use Rattle.std.specs.Prelude.{ℕ, List, [], ◌∷◌, ◌++◌, codes, decimal}
use Rattle.line_text.specs.Text.{cause_text, newline}
use Rattle.page_size.specs.declared.finds.Origin.{Origin}
use Rattle.page_size.specs.declared.finds.Origin.TheVariants.{Header, Pages, Chosen, Empty}
use Rattle.report_text.specs.declared.causes.UnreadCause.{UnreadCause}
use Rattle.report_text.specs.declared.causes.UnreadCause.TheVariants as causes
use Rattle.report_text.specs.Names.{esc}

-- numbers, each behind a space
abbrev pub numbers_text : List ℕ → List ℕ
numbers_text [] = []
numbers_text (n ∷ ns) = codes " " ++ (decimal n ++ numbers_text ns)

-- a word and numbers
unfoldable pub counted_text : List ℕ → List ℕ → List ℕ
counted_text word numbers = word ++ (numbers_text numbers ++ newline)

-- a word, numbers and a word
unfoldable pub ended_text : List ℕ → List ℕ → List ℕ → List ℕ
ended_text word numbers end = word ++ (numbers_text numbers ++ (codes " " ++ (end ++ newline)))

-- a word, a name and what follows it
unfoldable pub named_text : List ℕ → List ℕ → List ℕ → List ℕ
named_text word name rest = (word ++ codes " ") ++ (esc name ++ rest)

-- numbers and the end of the line
abbrev pub counts_text : List ℕ → List ℕ
counts_text numbers = numbers_text numbers ++ newline

-- where the page size comes from
abbrev pub origin_text : Origin → List ℕ
origin_text Header = codes "header"
origin_text Pages = codes "pages"
origin_text Chosen = codes "option"
origin_text Empty = codes "empty"

-- why a table is not built
abbrev pub unread_text : UnreadCause → List ℕ
unread_text causes.Text = codes "text"
unread_text causes.Virtual = codes "virtual"
unread_text (causes.Form at) = codes "form" ++ numbers_text (at ∷ [])
unread_text causes.Generated = codes "generated"
unread_text causes.Limit = codes "limit"
unread_text causes.Key = codes "key"
unread_text causes.Real = codes "real"
unread_text causes.Name = codes "name"
unread_text causes.Reserved = codes "reserved"
unread_text causes.Double = codes "double"
unread_text (causes.Unordered place) = codes "unordered" ++ numbers_text (place.page ∷ place.cell ∷ [])

-- the numbers of a table that is not built, and why
unfoldable pub reason_text : ℕ → ℕ → UnreadCause → List ℕ
reason_text rows pages cause = numbers_text (rows ∷ pages ∷ []) ++ (codes " " ++ (unread_text cause ++ newline))
