use Rattle.std.proofs.Common.{◌≡◌, ◌∙◌, ap, sym, arith, length, take, get_or}
use Rattle.std.specs.Prelude.{[]}
use Rattle.page_access.proofs.Gains.{writes_same}
use Rattle.tree_writer.specs.Layout.{schema_pages}
use Rattle.tree_writer.specs.Numbers.{number_of}
use Rattle.tree_writer.specs.Trees.{OfSchema}
use Rattle.db_builder.specs.Facts.{said}
use Rattle.db_builder.specs.Header.{header_bytes}
use Rattle.db_builder.proofs.writes.put_first.Goals as goal

pub write_page-requires-clause-plan : goal.write_page-requires-clause-plan
write_page-requires-clause-plan g c = OfSchema c.args.facts.size c.requires.plan

pub returns-clause-writes : goal.returns-clause-writes
returns-clause-writes g c =
    let size = c.args.facts.size in
    let es = g.N.Entries.entries c.args.entries.now in
    let number = number_of c.args.numbers.now.start c.args.numbers.now.lock in
    let len : length c.as_slice.result.now ≡ 100 = omega (arith, c.header.ensures.len, ap length c.as_slice.ensures.value, c.as_slice.ensures.fits) in
    let front : take 100 c.put_front.new.page ≡ header_bytes (said c.args.facts) =
    ap (λ n. take n c.put_front.new.page) (sym len) ∙ c.put_front.ensures ∙ c.as_slice.ensures.value ∙ c.header.ensures.bytes in
    writes_same (c.write_page.ensures.schema size c.requires.plan ∙ ap (λ f. get_or (schema_pages f size number es) 0 []) front) c.put.ensures.writes
