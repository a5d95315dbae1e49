use Rattle.create_reader.proofs.One.{only, only_fault}
use Rattle.create_reader.proofs.reading.read_create.Goals as goal

pub returns-clause-only : goal.returns-clause-only
returns-clause-only c = only c.args.sql.now c.read.result c.read.ensures

pub returns-clause-fault : goal.returns-clause-fault
returns-clause-fault c = only_fault c.args.sql.now c.read.result c.read.ensures
