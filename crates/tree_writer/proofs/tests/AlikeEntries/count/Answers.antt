use Rattle.std.proofs.Common.{sym}
use Rattle.tree_writer.proofs.Alike.{length-alike}
use Rattle.tree_writer.proofs.tests.AlikeEntries.count.Goals as goal

pub returns : goal.returns
returns c = sym (length-alike _ _ _ _)
