use Rattle.std.proofs.Common.{length, arith}
use Rattle.freelist_core.proofs.Steps.{of_trunks, some_trunks}
use Rattle.freelist_core.proofs.laws.free_pages_are_trunks.Goals as goal

pub returns : goal.returns
returns c = λ f unused q. (some_trunks f (length unused) unused q (omega arith), of_trunks f unused q)
