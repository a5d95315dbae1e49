-- What the builder's calls make is the command line of the definitions.
use Rattle.std.proofs.Common.{rules, ap₂, ◌≡◌, ◌∙◌}
use Rattle.std.proofs.lemmas.Result.{IfOk-weaker}
use Rattle.clap.specs.Words.{rule_of, with_rule}
use Rattle.command_line.specs.Command.{app, freelist_rule, lost_rule, page_size_rule, reserved_rule}
use Rattle.command_line.proofs.words.command_line.Goals as goal

pub returns : goal.returns
unfolding app
returns c =
    let page_size_is : rule_of c.long-page_size.result ≡ page_size_rule = search rules in
    let reserved_is : rule_of c.long-reserved.result ≡ reserved_rule = search rules in
    let freelist_is : rule_of c.action-freelist.result ≡ freelist_rule = search rules in
    let lost_is : rule_of c.long-lost.result ≡ lost_rule = search rules in
    IfOk-weaker c.arg-4.result _ _ (λ r h. h.shape (search rules) ∙ ap₂ with_rule
    (c.in_ok-arg-3.ensures.shape (search rules) ∙ ap₂ with_rule
    (c.in_ok-arg-2.ensures.shape (search rules) ∙ ap₂ with_rule
    (c.in_ok-arg.ensures.shape (search rules) ∙ ap₂ with_rule c.in_ok-words_line.ensures page_size_is) reserved_is) freelist_is) lost_is) c.arg-4.ensures
