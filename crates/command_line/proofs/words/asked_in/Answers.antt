use Rattle.std.proofs.Common.{◌∙◌, sym, codes}
use Rattle.clap.specs.Words.{found_of}
use Rattle.command_line.specs.Command.{asked_in}
use Rattle.command_line.proofs.Asked.{first_by_row, all_by_row}
use Rattle.command_line.proofs.words.asked_in.Goals as goal

pub returns : goal.returns
unfolding asked_in
returns c =
    let f = found_of c.args.matches.now in
    rw (
      first_by_row f (codes "MODE") ∙ sym c.get_str-mode.ensures,
      all_by_row f (codes "WORD") ∙ sym c.get_strs-words.ensures,
      first_by_row f (codes "page-size") ∙ sym c.get_str-page_size.ensures,
      first_by_row f (codes "reserved") ∙ sym c.get_str-reserved.ensures,
      first_by_row f (codes "freelist-corrupt") ∙ sym c.get_str-flag.ensures,
      first_by_row f (codes "lost") ∙ sym c.get_str-lost.ensures,
      sym c.is_given.ensures,
    ) c.asked_of.ensures
