use Rattle.std.proofs.Common.{◌≡◌, ◌<◌, ◌≤◌, ◌/◌, ℕ, Bool, true, false, not, List, arith, get_or, sym, subst, ap, ◌∙◌}
use Rattle.std.specs.List.{list_all, slice_range}
use Rattle.std.proofs.lemmas.Bool.Decides.{nat_tests}
use Rattle.cell_reader.specs.Cover.{is_free}
use Rattle.cell_reader.proofs.Blocks.{block_unset, part_marked, unset_more}
use Rattle.cell_reader.proofs.Marks.{free_unset, unset_free}
use Rattle.cell_reader.proofs.accepted.Accepted.is_free.Goals as goal
use Rattle.cell_reader.proofs.accepted.Accepted.is_free.Goals.{else-index-via-then-index+else-not-is_clear, else-index-via-else-index}

pub returns-then-end-self : goal.returns-then-end-self
returns-then-end-self c = sym (unset_free c.args.self.now c.args.start c.args.end (λ k a b.
    subst (λ (m : List Bool). get_or m k false ≡ false) c.self.view_is
    (c.self.invariant.below k (grind (arith, nat_tests, c.if-end-self.true)))))

pub returns : goal.returns
returns c = sym (unset_free c.args.self.now c.args.start c.args.end (λ k a b. c.loop-at.invariant.unset k a (omega arith)))

pub returns-then-not-is_clear : goal.returns-then-not-is_clear
returns-then-not-is_clear c =
    part_marked c.args.self.now c.args.start c.args.end c.loop-at.at c.min-stop.result c.loop-at.invariant.from
    (omega (arith, c.min-stop.ensures)) c.requires.within
    (subst (λ (m : List Bool). list_all not (slice_range m c.loop-at.at c.min-stop.result) ≡ false)
    (c.deref.ensures.value ∙ c.self.view_is) (sym c.is_clear.ensures ∙ c.if-not-is_clear.true))

pub loop-at-preserved : goal.loop-at-preserved
loop-at-preserved c = record {
  from = omega (arith, c.min-stop.ensures);
  to = omega (arith, c.min-stop.ensures);
  unset = unset_more c.args.self.now c.args.start c.loop-at.at c.min-stop.result c.loop-at.invariant.unset
      (elim c.else-index.branch [
        | else-index-via-then-index+else-not-is_clear w ↦ free_unset c.args.self.now c.loop-at.at c.min-stop.result (omega (arith, c.min-stop.ensures))
            (subst (λ (m : List Bool). is_free m c.loop-at.at c.min-stop.result ≡ true)
            (w.deref.ensures.value ∙ c.self.view_is) (sym w.is_clear.ensures ∙ w.if-not-is_clear.false))
        | else-index-via-else-index w ↦ subst (λ (m : List Bool). (k : ℕ) → c.loop-at.at ≤ k → k < c.min-stop.result → get_or m k false ≡ false)
            c.self.view_is
            (block_unset c.self.inside.marks.items c.self.inside.blocks.items c.loop-at.at c.min-stop.result c.self.invariant.blocked
            (omega (arith, c.min-stop.ensures))
            (sym (subst (λ (b : Bool). b ≡ get_or c.self.inside.blocks.items (c.loop-at.at / 256) b) w.if-index.false c.index.ensures)))
      ]);
}
