use Rattle.std.proofs.Common.{ap, length}
use Rattle.salvage_core.proofs.Assembling.{nothing_is_sound}
use Rattle.salvage_core.proofs.gathers.gather_nothing.Goals as goal

pub returns-clause-sound : goal.returns-clause-sound
returns-clause-sound c =
    nothing_is_sound _ c.empty_size-page_size.ensures.valid c.empty_size-page_size.ensures.least c.empty_size-page_size.ensures.most
    (ap (λ t. t.pages) c.in_ok-new.ensures.value) (ap (λ t. length t.lists) c.in_ok-new.ensures.value)
    c.new-5.ensures.items c.new-3.ensures.items c.new-4.ensures.items c.new-6.ensures.items c.new-7.ensures.items
