use Rattle.std.proofs.Common.{◌≡◌, ◌++◌, sym, ◌∙◌}
use Rattle.std.proofs.lemmas.Option.{IfSome_then}
use Rattle.page_access.specs.Files.{file_of}
use Rattle.page_walk.specs.Pointers.{pointers_on}
use Rattle.page_lists.specs.Table.{unused}
use Rattle.orphan_trees.proofs.Surveyed.{marked_told, read_told, unmarked_told}
use Rattle.orphan_trees.proofs.marks.mark_page.Goals as goal

pub returns-in_default-clause-value : goal.returns-in_default-clause-value
returns-in_default-clause-value g c =
    unmarked_told (g.S.Source.bytes c.args.src.now) c.args.geo.now c.args.survey.now (unused c.args.table.now) c.args.page c.args.marks.now
    c.requires.low c.requires.high c.requires.kinds (sym c.kind_unused.ensures ∙ c.in_default.is)

pub returns-in_err-pointers_with-clause-reads : goal.returns-in_err-pointers_with-clause-reads
returns-in_err-pointers_with-clause-reads g c =
    read_told (g.S.Source.bytes c.args.src.now) c.args.geo.now c.args.survey.now (unused c.args.table.now) c.args.page c.in-Some.kind _ _
    c.requires.low c.requires.high c.requires.kinds (sym c.kind_unused.ensures ∙ c.in-Some.is) c.pointers_with.ensures.reads

pub returns-clause-value : goal.returns-clause-value
returns-clause-value g c =
    marked_told (g.S.Source.bytes c.args.src.now) c.args.geo.now c.args.survey.now (unused c.args.table.now) c.args.page c.in-Some.kind
    c.clear.new.self.items c.deref.result.now c.args.marks.now c.mark_all.new.marks c.requires.low c.requires.high c.requires.kinds
    (sym c.kind_unused.ensures ∙ c.in-Some.is) c.clear.ensures.items
    (IfSome_then (g.S.Source.bytes c.args.src.now)
    {P = λ all. c.pointers_with.new.to.items ≡ c.clear.new.self.items ++ pointers_on (file_of all c.args.geo.now) c.args.page}
    {Q = λ all. c.deref.result.now ≡ c.clear.new.self.items ++ pointers_on (file_of all c.args.geo.now) c.args.page}
    c.in_ok-pointers_with.ensures.value
    (λ all p. c.deref.ensures.value ∙ p))
    c.mark_all.ensures.value

pub returns-clause-reads : goal.returns-clause-reads
returns-clause-reads g c =
    read_told (g.S.Source.bytes c.args.src.now) c.args.geo.now c.args.survey.now (unused c.args.table.now) c.args.page c.in-Some.kind _ _
    c.requires.low c.requires.high c.requires.kinds (sym c.kind_unused.ensures ∙ c.in-Some.is) c.pointers_with.ensures.reads
