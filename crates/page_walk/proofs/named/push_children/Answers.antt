use Rattle.std.proofs.Common.{ap, ◌∙◌, ℕ, false, replicate}
use Rattle.page_walk.specs.Pointers.{child_by}
use Rattle.page_walk.proofs.Names.{naming_start, naming_more, naming_end}
use Rattle.page_walk.proofs.named.push_children.Goals as goal

pub loop-i-init : goal.loop-i-init
loop-i-init c = naming_start _ _ _ _ _ _ (c.clear.ensures ∙ ap (λ (n : ℕ). replicate n false) c.requires.marks)

pub loop-i-preserved : goal.loop-i-preserved
loop-i-preserved c =
    naming_more _ _ _ _ _ _ _ _ _ _ c.accepted_child-child.result c.loop-i.invariant c.loop-i-test.true
    c.screen.ensures.marked (c.screen.ensures.len ∙ c.loop-i.invariant.len)
    (c.accepted_child-child.ensures ∙ ap child_by c.screen.ensures.verdict)
    c.in_ok-push_some.ensures.items

pub returns-clause-value : goal.returns-clause-value
returns-clause-value c = naming_end _ _ _ _ _ _ _ _ c.loop-i.invariant c.loop-i-test.false
