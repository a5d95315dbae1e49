use Rattle.std.proofs.Common.{◌≡◌, true, false, ◌∙◌, ◌==◌, length, rules}
use Rattle.std.specs.List.{list_all}
use Rattle.std.specs.Char.{is_ascii_digit}
use Rattle.command_line.specs.Numbers.{has_leading_zero}
use Rattle.command_line.proofs.Digits.{digits_read}
use Rattle.command_line.proofs.numbers.number_in.Goals as goal

pub returns : goal.returns
returns c =
    let some : (length c.args.text.now == 0) ≡ false = search rules in
    let digits : list_all is_ascii_digit c.args.text.now ≡ true = search rules in
    let plain : has_leading_zero c.args.text.now ≡ false = search rules in
    c.ok.ensures.value ∙ digits_read c.args.text.now c.parse.result c.parse.ensures.value.0 some digits plain
