use Rattle.std.proofs.Common.{◌≡◌, ◌∙◌}
use Rattle.command_line.specs.declared.words.WordsFault.TheVariants.{Usage}
use Rattle.command_line.proofs.Asked.{taken, refused, answer_found, answer_usage, own_kind}
use Rattle.command_line.proofs.words.read_words.Goals as goal

pub returns-in-Ok-try_get_matches_from-clause-found : goal.returns-in-Ok-try_get_matches_from-clause-found
returns-in-Ok-try_get_matches_from-clause-found c =
    let m = c.in-Ok-try_get_matches_from.ensures in
    rw c.ok_or.ensures.value (answer_found c.asked_in.result _ (c.asked_in.ensures ∙ taken _ _ _ c.in-Ok.ensures (λ h. (m.matches h).0) m.kinds))

pub returns-in-Ok-try_get_matches_from-clause-usage : goal.returns-in-Ok-try_get_matches_from-clause-usage
returns-in-Ok-try_get_matches_from-clause-usage c =
    let m = c.in-Ok-try_get_matches_from.ensures in
    rw c.ok_or.ensures.value (answer_usage c.asked_in.result _ (c.asked_in.ensures ∙ taken _ _ _ c.in-Ok.ensures (λ h. (m.matches h).0) m.kinds))

pub returns-in-Err-clause-usage : goal.returns-in-Err-clause-usage
returns-in-Err-clause-usage c = λ e.
    let usage : c.fault_of.result ≡ Usage = cc in
    refused _ _ _ c.in-Ok.ensures (λ h. own_kind _ _ (c.in-Err.ensures.kinds h) (c.fault_of.ensures.0 usage))
