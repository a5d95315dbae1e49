use Rattle.std.proofs.Common.{◌∙◌, Some, ap, sym, refl, arith, rules}
use Rattle.std.proofs.lemmas.Int.{to_z-of_z}
use Rattle.std.specs.Int.{w64}
use Rattle.tree_writer.specs.Entry.{Entry}
use Rattle.db_builder.proofs.Viewing.{schema_at, schema_len}
use Rattle.db_builder.proofs.schema.SchemaEntriesEntries.rowid.Goals as goal

pub overflow_add-i : goal.overflow_add-i
overflow_add-i c = omega (arith, schema_len c.args.self.now.trees.now, c.args.self.now.few)

pub returns : goal.returns
returns c =
    let ts = c.args.self.now.trees.now in
    ap Some (to_z-of_z w64 c.from.result (search rules)) ∙ ap Some c.from.ensures
    ∙ sym (ap (λ (e : Entry). e.rowid) (schema_at ts c.args.i _ (omega (arith, schema_len ts)) refl))
