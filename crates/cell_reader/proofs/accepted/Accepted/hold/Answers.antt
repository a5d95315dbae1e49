use Rattle.std.proofs.Common.{◌≡◌, ◌≤◌, length, ◌+◌, ◌-◌, ◌/◌, Bool, false, List, arith, get_or, sym, subst, ap, ◌∙◌}
use Rattle.std.specs.Vec.{with_items}
use Rattle.std.proofs.lemmas.List.{with_items_is}
use Rattle.cell_reader.specs.Cover.{IsBlocked, with_range}
use Rattle.cell_reader.proofs.Blocks.{below_more, blocked_more}
use Rattle.cell_reader.proofs.accepted.Accepted.hold.Goals as goal

pub invariant_of-self : goal.invariant_of-self
invariant_of-self c =
    let marks = c.self.inside.marks in
    let blocks = c.self.inside.blocks in
    let s = c.args.start in
    let e = c.args.end in
    let le = subst (λ (m : List Bool). e ≤ length m) (sym c.self.view_is) c.requires.within in
    let many = blocked_more marks.items blocks.items s e c.self.invariant.blocked c.requires.some le in
    let m = c.set_range.ensures ∙ ap (λ (xs : List Bool). with_range xs s e) c.as_mut_slice.ensures.value in
    let b = c.set_range-2.ensures ∙ ap (λ (xs : List Bool). with_range xs (s / 256) ((e - 1) / 256 + 1)) c.as_mut_slice-2.ensures.value in
    let one = with_items_is marks c.set_range.new.marks (omega (arith, c.set_range.auto.marks, c.as_mut_slice.ensures.len)) in
    let two = with_items_is blocks c.set_range-2.new.marks (omega (arith, c.set_range-2.auto.marks, c.as_mut_slice-2.ensures.len)) in
    record {
      blocked = subst (λ (xs : List Bool). IsBlocked xs (with_items blocks c.set_range-2.new.marks).items) (sym (one ∙ m)) (subst (λ (xs : List Bool). IsBlocked (with_range marks.items s e) xs) (sym (two ∙ b)) many);
      below = λ k lt. subst (λ (xs : List Bool). get_or xs k false ≡ false) (sym (one ∙ m))
          (below_more marks.items s e c.self.inside.low c.requires.some le c.self.invariant.below k (omega (arith, c.min-self-inside.ensures, lt)));
    }
