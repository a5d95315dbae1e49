use Rattle.std.proofs.Common.{sym, arith}
use Rattle.tree_writer.proofs.Alike.{len-alike, length-alike}
use Rattle.tree_writer.proofs.tests.AlikeEntries.payload_len.Goals as goal

pub returns : goal.returns
returns c = let s = c.args.self.now in sym (len-alike s.rowids s.len s.count c.args._i (omega (arith, c.requires, length-alike s.rowids s.len 0 s.count)))
