use Rattle.schema_texts.specs.Known.{AreRead}
use Rattle.schema_texts.proofs.rows.read_tables.Given as goal

abbrev pub invariant-loop-number : goal.invariant-loop-number
invariant-loop-number l = AreRead l.survey l.pages l.rows l.number l.names l.readings.items
