use Rattle.lost_found.proofs.Loops.{text_made}
use Rattle.lost_found.proofs.texts.lost_text.Goals as goal

pub returns : goal.returns
returns c =
    text_made c.in_ok-text.text.items c.add_quoted.new.to.items c.extend_from_slice.new.self.items c.add_fields.new.to.items c.extend_from_slice-2.new.self.items
    c.args.name.now c.args.fields c.in_ok-text.ensures.items c.in_ok-add_quoted.ensures c.in_ok-extend_from_slice.ensures.items
    c.in_ok-add_fields.ensures c.in_ok-extend_from_slice-2.ensures.items
