use Rattle.std.proofs.Common.{List, ℕ, subst, sym}
use Rattle.create_reader.specs.Outcome.{IsCreate}
use Rattle.trial_file.specs.Trial.{table_shape}
use Rattle.trial_file.proofs.tables.shape_of.Goals as goal

pub returns-in-Ok : goal.returns-in-Ok
returns-in-Ok c =
    c.in-Ok.ensures.only table_shape
    (subst (λ (text : List ℕ). IsCreate text table_shape) (sym c.requires) c.the_text_of_a_trial_has_no_fault.ensures.means)
