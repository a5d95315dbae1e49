use Rattle.std.proofs.Common.{◌≡◌, sym, ◌∙◌, arith, suc, ◌-◌, false, get_or, nat_eq}
use Rattle.std.proofs.lemmas.Bool.{ne_eqb}
use Rattle.create_grammar.specs.declared.sorts.Sort.TheVariants.{Open}
use Rattle.create_grammar.specs.Sorts.{code}
use Rattle.word_grammar.specs.Form.{bad}
use Rattle.create_grammar.proofs.Steps.{goes_on, next_sort}
use Rattle.create_grammar.proofs.pass.Pass.one_inside.Goals as goal

pub returns-in-Ok-clause-goes : goal.returns-in-Ok-clause-goes
returns-in-Ok-clause-goes c =
    let sorts = c.args.self.now.sorts.now in
    let at = c.args.self.now.at in
    let w = code (get_or sorts at Open) in
    let words = next_sort sorts at Open c.requires.more in
    let fine : nat_eq w bad ≡ false = ne_eqb w bad (λ e. c.if-code.false (c.code.ensures ∙ (e ∙ sym c.code-2.ensures))) in
    let above : c.args.depth ≡ suc (c.args.depth - 1) = omega (arith, c.requires.some) in
    goes_on c.args.self.now _ c.args.depth (c.args.depth - 1) c.depth_behind.result w _ words fine
    (c.in-Ok.ensures.took w _ words) above c.depth_behind.ensures.value
