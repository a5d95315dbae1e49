use Rattle.std.proofs.Common.{sym, false}
use Rattle.create_reader.specs.Views.{seen}
use Rattle.create_reader.proofs.Alike.{lists_bad}
use Rattle.create_reader.proofs.causes.has_bad_list.Goals as goal

pub returns : goal.returns
returns c = lists_bad (seen c.args.table.now) false c.in_ok-bad.bad (sym c.requires.good) c.in_ok-bad.ensures
