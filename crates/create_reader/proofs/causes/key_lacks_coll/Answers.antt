use Rattle.std.proofs.Common.{◌∙◌, ap, List, map, slice_get}
use Rattle.std.specs.List.{list_any}
use Rattle.create_reader.specs.declared.texts.ColumnText.{ColumnText}
use Rattle.create_reader.specs.Faults.{lacks_coll}
use Rattle.create_reader.specs.Numbers.{numbered_of}
use Rattle.create_reader.specs.Views.{seen}
use Rattle.create_reader.proofs.Lookup.{colls_all}
use Rattle.create_reader.proofs.causes.key_lacks_coll.Goals as goal

pub returns : goal.returns
returns c = c.lists_lack_coll.ensures
    ∙ ap (λ (cs : List ColumnText). list_any (list_any (λ k. lacks_coll (slice_get cs k))) (map (λ v. v.items) c.args.lists.now)) c.as_slice.ensures.value
    ∙ ap (list_any (list_any (λ k. lacks_coll (slice_get c.args.table.now.columns.items k)))) c.requires
    ∙ colls_all c.args.table.now.columns.items (numbered_of (seen c.args.table.now))
