use Rattle.std.proofs.Common.{ℕ, List, map, take, true, length, ◌≡◌, ap, sym, ◌∙◌, arith}
use Rattle.std.proofs.lemmas.List.{take_all}
use Rattle.tree_writer.specs.Entry.{Entry, leaf_item, no_entry, entry_at}
use Rattle.tree_writer.specs.declared.sizes.Size.{Size}
use Rattle.tree_writer.specs.Plan.{size_item}
use Rattle.tree_writer.proofs.Adding.{front_more, leaf_size, map_map}
use Rattle.tree_writer.proofs.plans.leaf_sizes.Goals as goal

pub loop-i-preserved : goal.loop-i-preserved
loop-i-preserved g c =
    let es = g.N.Entries.entries c.args.entries.now in
    let f : Entry → Size = λ e. size_item c.args.usable c.args.kind true (leaf_item e) in
    c.in_ok-push.ensures.items ∙ front_more f es c.loop-i.i no_entry c.loop-i.sizes.items c.size_of.result (omega (arith, c.loop-i-test.true, c.count-i-end.ensures)) c.loop-i.invariant
    (leaf_size c.args.usable c.args.kind (entry_at es c.loop-i.i) c.size_of.result c.size_of.ensures)

pub returns : goal.returns
returns g c =
    let es = g.N.Entries.entries c.args.entries.now in
    let f : Entry → Size = λ e. size_item c.args.usable c.args.kind true (leaf_item e) in
    let all : take c.loop-i.i es ≡ es = take_all c.loop-i.i es (omega (arith, c.loop-i-test.false, c.count-i-end.ensures)) in
    c.loop-i.invariant ∙ ap (map f) all ∙ sym (map_map (size_item c.args.usable c.args.kind true) leaf_item es)
