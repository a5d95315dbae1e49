use Rattle.std.proofs.Common.{◌∙◌, List, ℕ, ap, sym, refl, arith, length}
use Rattle.tree_writer.specs.Entry.{Entry}
use Rattle.db_builder.proofs.Viewing.{schema_at, schema_len}
use Rattle.db_builder.proofs.schema.SchemaEntriesEntries.payload.Goals as goal

pub record-requires : goal.record-requires
record-requires c = omega (arith, schema_len c.args.self.now.trees.now)

pub copy_from_slice-requires : goal.copy_from_slice-requires
copy_from_slice-requires c =
    let ts = c.args.self.now.trees.now in
    c.requires.room ∙ sym (ap (λ (b : List ℕ). length b) (c.record.ensures ∙ sym (ap (λ (e : Entry). e.bytes) (schema_at ts c.args.i _ (omega (arith, schema_len ts)) refl))))

pub returns : goal.returns
returns c =
    let ts = c.args.self.now.trees.now in
    c.copy_from_slice.ensures.after ∙ (c.record.ensures ∙ sym (ap (λ (e : Entry). e.bytes) (schema_at ts c.args.i _ (omega (arith, schema_len ts)) refl)))
