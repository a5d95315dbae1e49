use Rattle.std.proofs.Common.{◌∙◌, ◌++◌, ℕ, List, ap}
use Rattle.std.specs.List.{flat_map}
use Rattle.report_text.specs.Lines.{line_text}
use Rattle.report_text.specs.declared.ReportLine.{ReportLine}
use Rattle.report_text.specs.declared.ReportLine.TheVariants as lines
use Rattle.db_builder.specs.Layout.{last_page, layout}
use Rattle.db_builder.specs.Trees.{trees_of}
use Rattle.salvage_files.specs.Files.{text_part}
use Rattle.salvage_core.proofs.Ending.{cut_of, made_of, unmade_of}
use Rattle.salvage_core.proofs.recovers.write_all.Goals as goal

pub returns-in_default-clause-ends : goal.returns-in_default-clause-ends
returns-in_default-clause-ends g c =
    unmade_of (ap (λ (size : ℕ). layout size c.args.gathered.now.db) c.requires.size) c.in_default.ensures.makes

pub returns-in_default-write_script-clause-ends : goal.returns-in_default-write_script-clause-ends
returns-in_default-write_script-clause-ends g c = (
  made_of (ap (λ (size : ℕ). layout size c.args.gathered.now.db) c.requires.size) c.in-Ok.ensures.makes,
  unmade_of (ap (flat_map text_part) c.deref.ensures.value) c.in_default-write_script.ensures.makes,
)

pub returns-in_default-write_report-clause-ends : goal.returns-in_default-write_report-clause-ends
returns-in_default-write_report-clause-ends g c =
    let db = c.args.gathered.now.db in (
      made_of (ap (λ (size : ℕ). layout size db) c.requires.size) c.in-Ok.ensures.makes,
      (
        made_of (ap (flat_map text_part) c.deref.ensures.value) c.in-Ok-write_script.ensures.makes,
        cut_of
            (ap (λ (ls : List ReportLine). flat_map line_text ls ++ line_text (lines.Written c.in-Ok.pages_out)) c.deref-2.ensures.value
            ∙ ap (λ (p : ℕ). flat_map line_text c.args.gathered.now.lines.items ++ line_text (lines.Written p))
            (c.in-Ok.ensures.pages ∙ ap (λ (size : ℕ). last_page size (trees_of db.tables.items)) c.requires.size))
            c.in_default-write_report.ensures.finishes,
      ),
    )
