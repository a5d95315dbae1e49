-- Lines of the schema listing and of a report (docs/TEXTS.md, "Listings" and "The report").
use Rattle.std.specs.Prelude.{ℕ, Option, Some, None, List, [], ◌∷◌, ◌++◌, codes}
use Rattle.std.specs.Fmt.{signed_decimal}
use Rattle.record_core.specs.declared.values.Value.{Value}
use Rattle.record_core.specs.declared.values.Value.TheVariants as values
use Rattle.line_text.specs.Text.{cause_text, newline, place_text, value_text}
use Rattle.raw_schema.specs.Spelling.{kind_text}
use Rattle.report_text.specs.declared.ReportLine.{ReportLine}
use Rattle.report_text.specs.declared.ReportLine.TheVariants.{Row, BadRow, Geometry, Left, BadSchema, Cells, Table, Unread, Clash, Misfit, Orphans, Lost, Written}
use Rattle.report_text.specs.Names.{esc}
use Rattle.report_text.specs.Report.{counted_text, counts_text, ended_text, named_text, origin_text, reason_text}

-- the statement of a row as a value
abbrev pub sql_value : Option (List ℕ) → Value
sql_value None = values.Null
sql_value (Some text) = values.Text text

-- a line
unfoldable pub line_text : ReportLine → List ℕ
line_text (Row page cell kind name tbl root sql) = place_text page cell ++ (kind_text kind ++ (codes " " ++ (esc name
    ++ (codes " " ++ (esc tbl ++ (codes " " ++ (signed_decimal root ++ (codes " " ++ (value_text (sql_value sql) ++ newline)))))))))
line_text (BadRow page cell) = place_text page cell ++ (codes "bad" ++ newline)
line_text (Geometry size reserved pages origin) = ended_text (codes "geometry") (size ∷ reserved ∷ pages ∷ []) (origin_text origin)
line_text (Left bytes) = counted_text (codes "left") (bytes ∷ [])
line_text (BadSchema page cell) = counted_text (codes "badschema") (page ∷ cell ∷ [])
line_text (Cells page count first cause) = ended_text (codes "cells") (page ∷ count ∷ first ∷ []) (cause_text cause)
line_text (Table name rows clashes misfits pages) = named_text (codes "table") name (counts_text (rows ∷ clashes ∷ misfits ∷ pages ∷ []))
line_text (Unread name rows pages cause) = named_text (codes "unread") name (reason_text rows pages cause)
line_text (Clash name page cell earlier_page earlier_cell key) =
    named_text (codes "clash") name (counts_text (page ∷ cell ∷ earlier_page ∷ earlier_cell ∷ key ∷ []))
line_text (Misfit name page cell) = named_text (codes "misfit") name (counts_text (page ∷ cell ∷ []))
line_text (Orphans trees pages) = counted_text (codes "orphans") (trees ∷ pages ∷ [])
line_text (Lost name rows) = named_text (codes "lost") name (counts_text (rows ∷ []))
line_text (Written pages) = counted_text (codes "result") (pages ∷ [])

-- a text of the script: its bytes, and `;` on a line of its own behind it
unfoldable pub script_text : List ℕ → List ℕ
script_text text = text ++ codes "\n;\n"
