use Rattle.std.proofs.Common.{arith}
use Rattle.salvage_trial.proofs.Zeros.{blanked}
use Rattle.salvage_trial.proofs.files.blank.Goals as goal

pub returns : goal.returns
returns c =
    let most = c.requires.most in
    let least = c.requires.least in
    blanked c.args.page _ c.args.bytes.now c.fill.new.self c.requires.least (c.fill.ensures.after (λ y e. e)) (omega (arith, least, most))
