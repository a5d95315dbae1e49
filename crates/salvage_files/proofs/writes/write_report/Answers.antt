use Rattle.std.proofs.Common.{[], ◌∙◌, sym}
use Rattle.std.proofs.lemmas.List.{append-nil}
use Rattle.page_access.proofs.Gains.{front_as, front_out, front_start, front_step}
use Rattle.page_access.proofs.Keeps.{KeepsSink-trans}
use Rattle.report_text.specs.Lines.{line_text}
use Rattle.report_text.specs.declared.ReportLine.TheVariants as lines
use Rattle.salvage_files.proofs.Making.{finished_cut, finished_last}
use Rattle.salvage_files.proofs.writes.write_report.Goals as goal

pub returns-in_err-put_lines : goal.returns-in_err-put_lines
returns-in_err-put_lines g c = record {
  finishes = finished_cut c.from_residual.ensures.0
      (front_out (line_text (lines.Written c.args.pages)) c.from_residual.ensures.0 (front_start _ _ _) c.in_err-put_lines.ensures.writes)
      c.in_err-put_lines.ensures.kept.name c.in_err-put_lines.ensures.kept.unfinished;
}

pub returns-in_err-put_pages : goal.returns-in_err-put_pages
returns-in_err-put_pages g c =
    let kept = KeepsSink-trans c.in_ok-put_lines.ensures.kept c.in_err-put_pages.ensures.kept in record {
      finishes = finished_cut c.from_residual-in_err-put_pages.ensures.0
          (front_out [] c.from_residual-in_err-put_pages.ensures.0
          (front_as (sym (append-nil (line_text (lines.Written c.args.pages))))
          (front_step (line_text (lines.Written c.args.pages)) (front_start _ _ _) c.in_ok-put_lines.ensures.writes))
          c.in_err-put_pages.ensures.writes)
          kept.name kept.unfinished;
    }

pub returns : goal.returns
returns g c = record {
  finishes = finished_last
      (front_step [] (front_as (sym (append-nil (line_text (lines.Written c.args.pages))))
      (front_step (line_text (lines.Written c.args.pages)) (front_start _ _ _) c.in_ok-put_lines.ensures.writes))
      c.in_ok-put_pages.ensures.writes)
      c.finish.ensures.bytes c.finish.ensures.cause
      (c.finish.ensures.created ∙ (c.in_ok-put_pages.ensures.kept.name ∙ c.in_ok-put_lines.ensures.kept.name))
      c.finish.ensures.finished c.finish.ensures.err;
}
