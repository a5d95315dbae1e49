use Rattle.page_room.proofs.Sizes.{page_room}
use Rattle.page_room.proofs.laws.a_page_has_room_for_its_cells.Goals as goal

pub returns : goal.returns
returns c = page_room
