use Rattle.std.proofs.Common.{◌≡◌, sym, ap, ◌∙◌, arith, length, map}
use Rattle.create_grammar.specs.Sorts.{code, sort_of, sorts_of}
use Rattle.create_grammar.specs.Said.{begins_virtual}
use Rattle.create_grammar.proofs.Told.{few_sorts, as_many, fault_said, is_said}
use Rattle.create_grammar.proofs.reading.read_words.Goals as goal

pub returns-then-begins_virtual : goal.returns-then-begins_virtual
returns-then-begins_virtual c =
    let same : map code c.in-Ok-all_sorts.sorts.items ≡ sorts_of c.args.sql.now = c.in-Ok-all_sorts.ensures
    ∙ ap (map (λ w. code (sort_of c.args.sql.now w))) (c.as_slice.ensures.value ∙ c.in-Ok.ensures) in
    ap begins_virtual (sym same) ∙ (ap (λ z. begins_virtual (map code z)) (sym c.as_slice-2.ensures.value)
    ∙ (sym c.begins_virtual.ensures ∙ c.if-begins_virtual.true))

pub roles-requires : goal.roles-requires
roles-requires c =
    let same : map code c.in-Ok-all_sorts.sorts.items ≡ sorts_of c.args.sql.now = c.in-Ok-all_sorts.ensures
    ∙ ap (map (λ w. code (sort_of c.args.sql.now w))) (c.as_slice.ensures.value ∙ c.in-Ok.ensures) in
    let few = few_sorts c.args.sql.now c.in-Ok-all_sorts.sorts.items same in
    let len : length c.as_slice-3.result.now ≡ length c.in-Ok-all_sorts.sorts.items = ap length c.as_slice-3.ensures.value in
    omega (arith, few, len, c.requires)

pub side_by_side-requires : goal.side_by_side-requires
side_by_side-requires c =
    let same : map code c.as_slice-3.result.now ≡ sorts_of c.args.sql.now = ap (map code) c.as_slice-3.ensures.value
    ∙ (c.in-Ok-all_sorts.ensures ∙ ap (map (λ w. code (sort_of c.args.sql.now w))) (c.as_slice.ensures.value ∙ c.in-Ok.ensures)) in
    let many = as_many c.args.sql.now c.in-Ok.words.items (map code c.as_slice-3.result.now) c.in-Ok-roles.roles.items
    c.in-Ok.ensures same c.in-Ok-roles.ensures in
    ap length c.as_slice-in-Ok-roles.ensures.value ∙ (many ∙ sym (ap length c.as_slice-in-Ok-roles-2.ensures.value))

pub returns-in-Ok-side_by_side : goal.returns-in-Ok-side_by_side
returns-in-Ok-side_by_side c =
    let same : map code c.as_slice-3.result.now ≡ sorts_of c.args.sql.now = ap (map code) c.as_slice-3.ensures.value
    ∙ (c.in-Ok-all_sorts.ensures ∙ ap (map (λ w. code (sort_of c.args.sql.now w))) (c.as_slice.ensures.value ∙ c.in-Ok.ensures)) in
    let plain = ap begins_virtual (sym same ∙ ap (map code) (c.as_slice-3.ensures.value ∙ sym c.as_slice-2.ensures.value))
    ∙ (sym c.begins_virtual.ensures ∙ c.if-begins_virtual.false) in (
      plain,
      is_said c.args.sql.now (map code c.as_slice-3.result.now) c.in-Ok-roles.roles.items c.in-Ok.words.items
          c.in-Ok-side_by_side.said.items c.in-Ok.ensures same c.in-Ok-roles.ensures
          (c.in-Ok-side_by_side.ensures.words ∙ c.as_slice-in-Ok-roles.ensures.value)
          (c.in-Ok-side_by_side.ensures.roles ∙ c.as_slice-in-Ok-roles-2.ensures.value),
    )

pub returns : goal.returns
returns c =
    let same : map code c.as_slice-3.result.now ≡ sorts_of c.args.sql.now = ap (map code) c.as_slice-3.ensures.value
    ∙ (c.in-Ok-all_sorts.ensures ∙ ap (map (λ w. code (sort_of c.args.sql.now w))) (c.as_slice.ensures.value ∙ c.in-Ok.ensures)) in
    let plain = ap begins_virtual (sym same ∙ ap (map code) (c.as_slice-3.ensures.value ∙ sym c.as_slice-2.ensures.value))
    ∙ (sym c.begins_virtual.ensures ∙ c.if-begins_virtual.false) in
    fault_said c.args.sql.now (map code c.as_slice-3.result.now) c.in-Err.fault same plain c.in-Err.ensures
