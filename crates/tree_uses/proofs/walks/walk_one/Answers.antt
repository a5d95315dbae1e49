use Rattle.std.proofs.Common.{ℕ, ap, subst, sym}
use Rattle.page_walk.specs.Turns.{ReadsEach}
use Rattle.page_walk.proofs.Walking.{no_reads}
use Rattle.tree_uses.proofs.walks.walk_one.Goals as goal

pub returns-in_err-pages-in-Some-clause-full : goal.returns-in_err-pages-in-Some-clause-full
returns-in_err-pages-in-Some-clause-full g c all =
    let same = c.walk_tree.ensures.full all in (
      same.0,
      subst (λ (n : ℕ). ReadsEach (g.S.Source.bytes c.args.src.now) c.args.geo.now c.args.table.now c.walk_tree.new.table
          (g.S.Source.reads c.args.src.now) n 0) (sym (ap g.S.Source.reads same.1))
          (no_reads (g.S.Source.bytes c.args.src.now) c.args.geo.now c.args.list c.args.table.now c.walk_tree.new.table
          (g.S.Source.reads c.args.src.now) 0 c.requires.list_least c.walk_tree.ensures.moves),
    )
