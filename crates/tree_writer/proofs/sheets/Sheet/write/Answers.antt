use Rattle.std.proofs.Common.{◌≡◌, ◌≤◌, ◌+◌, ◌-◌, ◌*◌, arith, ap, sym, ◌∙◌, refl, length, take, length-take, map}
use Rattle.tree_writer.specs.Layout.{cells_for, right_part}
use Rattle.tree_writer.specs.Numbers.{number_of}
use Rattle.tree_writer.specs.Page.{type_byte}
use Rattle.tree_writer.specs.Plan.{slot_for}
use Rattle.tree_writer.specs.Planned.{items_of, right_index}
use Rattle.tree_writer.proofs.Items.{ready_len}
use Rattle.tree_writer.proofs.Laying.{Stands, page_stands, page_done, slots_of, length-cells}
use Rattle.tree_writer.proofs.sheets.Sheet.write.Goals as goal

pub overflow_mul-content : goal.overflow_mul-content
overflow_mul-content g c =
    let self = c.args.self.now in
    let items = items_of self.kind (g.N.Entries.entries self.entries.now) self.pages.now self.leaf self.page in
    let st = page_stands self.usable self.kind self.leaf (number_of c.args.numbers.now.start c.args.numbers.now.lock) c.args.first items c.args.front c.sizes-sizes.result.need c.requires.ready.least c.requires.ready.most c.sizes-sizes.ensures.need c.requires.fits in
    omega (arith, st.few, ready_len c.requires.ready)

pub overflow_add-content : goal.overflow_add-content
overflow_add-content g c =
    let self = c.args.self.now in
    let items = items_of self.kind (g.N.Entries.entries self.entries.now) self.pages.now self.leaf self.page in
    let st = page_stands self.usable self.kind self.leaf (number_of c.args.numbers.now.start c.args.numbers.now.lock) c.args.first items c.args.front c.sizes-sizes.result.need c.requires.ready.least c.requires.ready.most c.sizes-sizes.ensures.need c.requires.fits in
    omega (arith, st.few, ready_len c.requires.ready, c.requires.ready.most)

pub overflow_sub-content : goal.overflow_sub-content
overflow_sub-content g c =
    let self = c.args.self.now in
    let items = items_of self.kind (g.N.Entries.entries self.entries.now) self.pages.now self.leaf self.page in
    let st = page_stands self.usable self.kind self.leaf (number_of c.args.numbers.now.start c.args.numbers.now.lock) c.args.first items c.args.front c.sizes-sizes.result.need c.requires.ready.least c.requires.ready.most c.sizes-sizes.ensures.need c.requires.fits in
    omega (arith, st.enough, ready_len c.requires.ready)

pub put_header-header-requires-clause-few : goal.put_header-header-requires-clause-few
put_header-header-requires-clause-few g c =
    let self = c.args.self.now in
    let items = items_of self.kind (g.N.Entries.entries self.entries.now) self.pages.now self.leaf self.page in
    let st = page_stands self.usable self.kind self.leaf (number_of c.args.numbers.now.start c.args.numbers.now.lock) c.args.first items c.args.front c.sizes-sizes.result.need c.requires.ready.least c.requires.ready.most c.sizes-sizes.ensures.need c.requires.fits in
    omega (arith, st.few, ready_len c.requires.ready)

pub put_pointers-top-requires-clause-room : goal.put_pointers-top-requires-clause-room
put_pointers-top-requires-clause-room g c =
    let self = c.args.self.now in
    let items = items_of self.kind (g.N.Entries.entries self.entries.now) self.pages.now self.leaf self.page in
    let st = page_stands self.usable self.kind self.leaf (number_of c.args.numbers.now.start c.args.numbers.now.lock) c.args.first items c.args.front c.sizes-sizes.result.need c.requires.ready.least c.requires.ready.most c.sizes-sizes.ensures.need c.requires.fits in
    omega (arith, st.gap, st.whole, ready_len c.requires.ready, c.put_header-header.ensures.end, c.put_header-header.auto.to, c.requires.size)

pub put_zeros-bottom-requires : goal.put_zeros-bottom-requires
put_zeros-bottom-requires g c =
    let self = c.args.self.now in
    let items = items_of self.kind (g.N.Entries.entries self.entries.now) self.pages.now self.leaf self.page in
    let st = page_stands self.usable self.kind self.leaf (number_of c.args.numbers.now.start c.args.numbers.now.lock) c.args.first items c.args.front c.sizes-sizes.result.need c.requires.ready.least c.requires.ready.most c.sizes-sizes.ensures.need c.requires.fits in
    omega (arith, st.gap, st.whole, ready_len c.requires.ready, c.put_header-header.ensures.end, c.put_header-header.auto.to, c.put_pointers-top.ensures.end, c.put_pointers-top.auto.to, c.requires.size)

pub put_cells-requires-clause-page : goal.put_cells-requires-clause-page
put_cells-requires-clause-page g c =
    let self = c.args.self.now in
    let items = items_of self.kind (g.N.Entries.entries self.entries.now) self.pages.now self.leaf self.page in
    let st = page_stands self.usable self.kind self.leaf (number_of c.args.numbers.now.start c.args.numbers.now.lock) c.args.first items c.args.front c.sizes-sizes.result.need c.requires.ready.least c.requires.ready.most c.sizes-sizes.ensures.need c.requires.fits in
    omega (
      arith,
      st.gap,
      st.whole,
      ready_len c.requires.ready,
      c.put_header-header.ensures.end,
      c.put_header-header.auto.to,
      c.put_pointers-top.ensures.end,
      c.put_pointers-top.auto.to,
      c.put_zeros-bottom.ensures.end,
      c.put_zeros-bottom.auto.to,
      c.requires.size,
    )

pub returns-clause-bytes : goal.returns-clause-bytes
returns-clause-bytes g c =
    let self = c.args.self.now in
    let number = number_of c.args.numbers.now.start c.args.numbers.now.lock in
    let items = items_of self.kind (g.N.Entries.entries self.entries.now) self.pages.now self.leaf self.page in
    let st = page_stands self.usable self.kind self.leaf number c.args.first items c.args.front c.sizes-sizes.result.need c.requires.ready.least c.requires.ready.most c.sizes-sizes.ensures.need c.requires.fits in
    let len = ready_len c.requires.ready in
    page_done (take c.args.front c.args.to.now) (type_byte self.kind self.leaf) self.usable (cells_for self.usable self.kind self.leaf number c.args.first items)
    (right_part self.leaf number (right_index self.pages.now self.leaf self.page)) self.page.cells (self.usable + 2 * self.page.cells - c.sizes-sizes.result.need)
    (self.usable + 2 * self.page.cells - c.sizes-sizes.result.need - c.put_pointers-top.result) (map (slot_for self.usable self.kind self.leaf) items)
    (take c.put_header-header.result c.put_header-header.new.to) (take c.put_pointers-top.result c.put_pointers-top.new.to) (take c.put_zeros-bottom.result c.put_zeros-bottom.new.to) c.put_cells.new.to
    c.put_header-header.ensures.front c.put_pointers-top.ensures.front c.put_zeros-bottom.ensures.front c.put_cells.ensures.bytes
    (sym (length-cells self.usable self.kind self.leaf number c.args.first items ∙ len))
    (ap (λ n. self.usable + 2 * n - c.sizes-sizes.result.need) (sym len) ∙ st.content_is)
    (sym (slots_of self.usable self.kind self.leaf number c.args.first items c.requires.ready.least))
    (ap (λ n. self.usable + 2 * self.page.cells - c.sizes-sizes.result.need - n)
    (omega (arith, length-take c.put_pointers-top.result c.put_pointers-top.new.to, st.gap, st.whole, len, c.put_header-header.ensures.end, c.put_header-header.auto.to, c.put_pointers-top.ensures.end, c.put_pointers-top.auto.to, c.requires.size)))
