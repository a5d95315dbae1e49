use Rattle.std.proofs.Common.{◌∙◌, sym, ap, is_none}
use Rattle.std.specs.List.{list_any}
use Rattle.create_reader.specs.Faults.{bad_list}
use Rattle.create_reader.specs.Views.{seen}
use Rattle.create_reader.proofs.Lookup.{bad_fault}
use Rattle.create_reader.proofs.causes.key_lists.Goals as goal

pub returns-in-None-clause-fault : goal.returns-in-None-clause-fault
returns-in-None-clause-fault c = sym (bad_fault (seen c.args.table.now)
    (ap (list_any (bad_list c.args.table.now.columns.items)) (sym c.requires.taken) ∙ sym c.in_ok-lists.ensures.bad ∙ ap is_none c.in-None.is))
