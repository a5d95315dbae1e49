use Rattle.std.proofs.Common.{arith}
use Rattle.record_core.proofs.Written.{type_small}
use Rattle.record_core.proofs.writing.put_type.Goals as goal

pub overflow_cast-serial_type : goal.overflow_cast-serial_type
overflow_cast-serial_type c = omega (arith, type_small c.args.value.now c.requires.short)
