use Rattle.cell_reader.proofs.Marks.{covers_more, covers_none, free_apart}
use Rattle.cell_reader.proofs.laws.offers_tell_ranges.Goals as goal

pub returns : goal.returns
returns c = record { free = free_apart; held = covers_more; none = covers_none }
