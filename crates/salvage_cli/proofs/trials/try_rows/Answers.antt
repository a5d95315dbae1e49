use Rattle.std.proofs.Common.{Ok, Err, ap, refl}
use Rattle.salvage_cli.proofs.trials.try_rows.Goals as goal

pub returns-in-Ok-clause-ends : goal.returns-in-Ok-clause-ends
returns-in-Ok-clause-ends g c = record {
  end = Ok c.in-Ok.field-0;
  answer_is = refl;
  ends = c.in-Ok.ensures.ends;
}

pub returns-in-Err-clause-ends : goal.returns-in-Err-clause-ends
returns-in-Err-clause-ends g c = record {
  end = Err c.in-Err.fault;
  answer_is = ap (λ f. Err f) c.from.ensures;
  ends = c.in-Err.ensures.ends;
}
