use Rattle.std.proofs.Common.{sym}
use Rattle.db_builder.proofs.Viewing.{schema_len}
use Rattle.db_builder.proofs.schema.SchemaEntriesEntries.count.Goals as goal

pub returns : goal.returns
returns c = sym (schema_len c.args.self.now.trees.now)
