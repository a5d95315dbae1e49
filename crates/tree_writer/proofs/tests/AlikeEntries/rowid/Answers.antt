use Rattle.std.proofs.Common.{ℕ, Bool, pos, sym, ap, ◌∙◌, arith}
use Rattle.std.proofs.Common.{rules}
use Rattle.std.proofs.lemmas.Int.{to_z-of_z}
use Rattle.std.specs.Int.{w64}
use Rattle.std.specs.Prelude.{if◌then◌else◌, Option, Some, None}
use Rattle.tree_writer.proofs.Alike.{rowid-alike, length-alike}
use Rattle.tree_writer.proofs.tests.AlikeEntries.rowid.Goals as goal

pub returns-then-self : goal.returns-then-self
returns-then-self c =
    let s = c.args.self.now in
    ap Some (to_z-of_z w64 c.from.result (search rules)) ∙ ap Some c.from.ensures ∙ sym (rowid-alike s.rowids s.len s.count c.args.i (omega (arith, c.requires, length-alike s.rowids s.len 0 s.count))
    ∙ ap (λ b. if b then Some (pos c.args.i) else None) c.if-self.true)

pub returns-else-self : goal.returns-else-self
returns-else-self c =
    let s = c.args.self.now in
    sym (rowid-alike s.rowids s.len s.count c.args.i (omega (arith, c.requires, length-alike s.rowids s.len 0 s.count))
    ∙ ap (λ b. if b then Some (pos c.args.i) else None) c.if-self.false)
