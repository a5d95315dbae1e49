-- The line of a row as pieces, one behind the other.
use Rattle.std.proofs.Common.{◌≡◌, ◌∙◌, ℕ, ℤ, List, ◌++◌, Option, Result, append_assoc, ap}
use Rattle.std.specs.Prelude.{codes}
use Rattle.std.specs.Fmt.{signed_decimal}
use Rattle.page_access.specs.Outside.{Writes}
use Rattle.page_access.proofs.Gains.{WroteFront, front_as, front_start, writes_same}
use Rattle.line_text.specs.Text.{newline, place_text, value_text}
use Rattle.raw_schema.specs.declared.rows.SchemaKind.{SchemaKind}
use Rattle.raw_schema.specs.Spelling.{kind_text}
use Rattle.report_text.specs.Lines.{line_text, sql_value}
use Rattle.report_text.specs.Names.{esc}
use Rattle.report_text.specs.declared.ReportLine.{ReportLine}
use Rattle.report_text.specs.declared.ReportLine.TheVariants.{Row}

-- a row's line from its root on, from its table on and from its name on
abbrev pub from_root : ℤ → Option (List ℕ) → List ℕ
from_root root sql = signed_decimal root ++ (codes " " ++ (value_text (sql_value sql) ++ newline))

abbrev pub from_tbl : List ℕ → ℤ → Option (List ℕ) → List ℕ
from_tbl tbl root sql = (esc tbl ++ codes " ") ++ from_root root sql

abbrev pub from_name : List ℕ → List ℕ → ℤ → Option (List ℕ) → List ℕ
from_name name tbl root sql = (esc name ++ codes " ") ++ from_tbl tbl root sql

-- a beginning, two names, each with a gap behind it, and an end
parts : (place kind gap name tbl end : List ℕ) →
    place ++ (kind ++ (gap ++ (name ++ (gap ++ (tbl ++ (gap ++ end)))))) ≡ (place ++ (kind ++ gap)) ++ ((name ++ gap) ++ ((tbl ++ gap) ++ end))
parts place kind gap name tbl end = simp append_assoc

-- nothing of a row's line is written yet
pub row_start : {o : Option (List ℕ)} {f : ℕ} {line : ReportLine} {page cell : ℕ} {kind : SchemaKind} {name tbl : List ℕ} {root : ℤ} {sql : Option (List ℕ)} → line ≡ Row page cell kind name tbl root sql →
    WroteFront o o f f ((place_text page cell ++ (kind_text kind ++ codes " ")) ++ from_name name tbl root sql) (line_text line)
unfolding line_text
row_start {o} {f} {line} {page} {cell} {kind} {name} {tbl} {root} {sql} is =
    front_as (ap line_text is ∙ parts (place_text page cell) (kind_text kind) (codes " ") (esc name) (esc tbl) (from_root root sql)) (front_start o f (line_text line))

-- the text of a name that a call put, in the name's own terms
pub name_put : {T E : Type 0} {r : Result T E} {o p : Option (List ℕ)} {f g : ℕ} {put name : List ℕ} → put ≡ name
    → Writes o p f g (esc put ++ codes " ") r → Writes o p f g (esc name ++ codes " ") r
name_put is w = writes_same (ap (λ n. esc n ++ codes " ") is) w
