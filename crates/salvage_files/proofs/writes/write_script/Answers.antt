use Rattle.std.proofs.Common.{[], ◌∙◌, sym}
use Rattle.std.specs.List.{flat_map}
use Rattle.std.proofs.lemmas.List.{append-nil}
use Rattle.page_access.proofs.Gains.{front_as, front_start, front_step}
use Rattle.salvage_files.specs.Files.{text_part}
use Rattle.salvage_files.proofs.Making.{made_last, quiet}
use Rattle.salvage_files.proofs.writes.write_script.Goals as goal

pub returns : goal.returns
returns g c = record {
  makes = made_last
      (front_step [] (front_as (sym (append-nil (flat_map text_part c.args.texts.now)))
      (front_step (flat_map text_part c.args.texts.now) (front_start _ _ _)
      (quiet c.in_ok-create.ensures.bytes c.in_ok-create.ensures.cause))) c.in_ok-put_texts.ensures.writes)
      c.finish.ensures.bytes c.finish.ensures.cause
      (c.finish.ensures.created ∙ (c.in_ok-put_texts.ensures.kept.name ∙ c.in_ok-create.ensures.created))
      c.finish.ensures.finished c.finish.ensures.err;
}
