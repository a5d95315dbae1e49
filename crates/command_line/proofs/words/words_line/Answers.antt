-- What the builder's calls make of the words is what the definitions say.
use Rattle.std.proofs.Common.{rules, ap, ap₂, Option, Some, None, IsSomeAnd, ◌≡◌, ◌∙◌}
use Rattle.std.proofs.lemmas.Result.{IfOk-weaker}
use Rattle.clap.specs.Words.{Rule, app_of, rule_of, with_rule}
use Rattle.clap.specs.Lexer.{usize_max}
use Rattle.clap.specs.declared.builder.range.ValueRange.{ValueRange}
use Rattle.command_line.specs.Command.{bare_app, mode_rule, word_rule}
use Rattle.command_line.proofs.words.words_line.Goals as goal

abbrev any_number : ValueRange
any_number = record { start_inclusive = 0; end_inclusive = usize_max }

some_range : (o : Option ValueRange) → IsSomeAnd o (λ v. v ≡ any_number) → o ≡ Some any_number
some_range (Some v) h = ap Some h
some_range None h = absurd h

pub returns : goal.returns
returns c =
    let mode_is : rule_of c.required-mode.result ≡ mode_rule = search rules in
    let any : c.num_args-word.result.num_vals ≡ Some any_number = some_range _ c.num_args-word.ensures.1 in
    let word_is : rule_of c.num_args-word.result ≡ word_rule = ap rule_of c.num_args-word.ensures.0
    ∙ ap₂ (λ (q : Rule) (n : Option ValueRange). record q { range = n }) c.new-2.ensures.rule any in
    let bare_is : app_of c.disable_version_flag.result ≡ bare_app = search rules in
    IfOk-weaker c.arg-2.result _ _ (λ r h. h.shape (search rules) ∙ ap₂ with_rule
    (c.in_ok-arg.ensures.shape (search rules) ∙ ap₂ with_rule bare_is mode_is) word_is) c.arg-2.ensures
