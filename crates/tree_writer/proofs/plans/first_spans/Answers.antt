use Rattle.std.proofs.Common.{◌≡◌, ◌-◌, List, [], ap, sym, subst, ◌∙◌}
use Rattle.std.specs.Prelude.{IfOk}
use Rattle.tree_writer.specs.declared.groups.Span.{Span}
use Rattle.tree_writer.specs.Plan.{AreSizes}
use Rattle.tree_writer.proofs.Raising.{first_same, leaf_sizes_fit}
use Rattle.tree_writer.proofs.plans.first_spans.Goals as goal

pub leaf_spans-requires : goal.leaf_spans-requires
leaf_spans-requires g c =
    subst (AreSizes (c.args.usable - 8)) (sym c.requires.sizes) (leaf_sizes_fit c.args.usable c.args.kind (g.N.Entries.entries c.args.entries.now) c.requires.least c.requires.entries)

pub cut_spans-requires : goal.cut_spans-requires
cut_spans-requires g c =
    subst (AreSizes (c.args.usable - 8)) (sym c.requires.sizes) (leaf_sizes_fit c.args.usable c.args.kind (g.N.Entries.entries c.args.entries.now) c.requires.least c.requires.entries)

pub returns-in-Table : goal.returns-in-Table
returns-in-Table g c =
    subst (λ (t : List Span). IfOk c.leaf_spans.result (λ v. v.items ≡ t))
    ((first_same c.args.usable c.args.kind (g.N.Entries.entries c.args.entries.now) c.args.sizes.now c.requires.sizes).0 c.in-Table.is) c.leaf_spans.ensures

pub returns-in-Index : goal.returns-in-Index
returns-in-Index g c =
    subst (λ (t : List Span). IfOk c.cut_spans.result (λ v. v.items ≡ t))
    ((first_same c.args.usable c.args.kind (g.N.Entries.entries c.args.entries.now) c.args.sizes.now c.requires.sizes).1 c.in-Index.is) c.cut_spans.ensures
