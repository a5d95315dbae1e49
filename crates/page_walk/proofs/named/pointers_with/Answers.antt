use Rattle.std.proofs.Common.{◌≡◌, List, ℕ, ◌++◌, sym, ◌∙◌, subst}
use Rattle.std.specs.Prelude.{IfSome}
use Rattle.page_access.specs.Files.{file_of}
use Rattle.page_walk.specs.Pointers.{pointers_on}
use Rattle.page_walk.proofs.Names.{told_leaf, told_interior}
use Rattle.page_walk.proofs.named.pointers_with.Goals as goal

pub returns-in_default-right_child-clause-value : goal.returns-in_default-right_child-clause-value
returns-in_default-right_child-clause-value g c =
    told_leaf _ c.args.geo.now c.args.page c.in-Some.shape c.read_page.new.to _ c.in_ok-read_page.ensures.page
    (sym c.in-Some.ensures.exact) (sym c.right_child.ensures.exact ∙ c.in_default-right_child.is)

pub returns-clause-value : goal.returns-clause-value
returns-clause-value g c =
    subst (λ (now : List ℕ). IfSome (g.S.Source.bytes c.args.src.now)
    (λ all. now ≡ c.args.to.now.items ++ pointers_on (file_of all c.args.geo.now) c.args.page))
    (sym c.in_ok-push.ensures.items)
    (told_interior _ c.args.geo.now c.args.page c.in-Some.shape c.read_page.new.to c.args.to.now.items
    c.push_children.new.to.items c.in-Some-right_child.right c.in_ok-read_page.ensures.page
    (sym c.in-Some.ensures.exact) (sym c.in-Some-right_child.ensures.exact)
    c.in_ok-push_children.ensures.value)
