use Rattle.std.proofs.Common.{ℕ, ◌%◌, ◌<◌, sym, ap, ◌∙◌, arith, length}
use Rattle.std.specs.Prelude.{replicate}
use Rattle.tree_writer.proofs.Alike.{bytes-alike, len-alike, length-alike}
use Rattle.tree_writer.proofs.tests.AlikeEntries.payload.Goals as goal

pub returns : goal.returns
returns c =
    let s = c.args.self.now in
    let lt : c.args.i < s.count = omega (arith, c.requires.there, length-alike s.rowids s.len 0 s.count) in
    c.fill.ensures.after (λ y e. e) ∙ ap (λ n. replicate n (c.args.i % 256)) (c.requires.room ∙ len-alike s.rowids s.len s.count c.args.i lt) ∙ sym (bytes-alike s.rowids s.len s.count c.args.i lt)
