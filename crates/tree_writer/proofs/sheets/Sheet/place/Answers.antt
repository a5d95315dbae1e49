use Rattle.tree_writer.proofs.Items.{place_leaf, place_inner}
use Rattle.tree_writer.proofs.sheets.Sheet.place.Goals as goal

pub returns-then-self-clause-item : goal.returns-then-self-clause-item
returns-then-self-clause-item g c = place_leaf _ _ _ _ _ _ c.if-self.true c.requires.some c.requires.there

pub returns-else-self-clause-item : goal.returns-else-self-clause-item
returns-else-self-clause-item g c = place_inner _ _ _ _ _ _ c.if-self.false c.requires.some c.requires.there
