use Rattle.std.proofs.Common.{◌≡◌, ◌<◌, ◌≤◌, ◌+◌, ◌-◌, ◌^◌, ℕ, refl, ap, sym, ◌∙◌, arith, length, subst, take, get_or, [], inl, inr}
use Rattle.tree_writer.specs.Layout.{schema_pages}
use Rattle.tree_writer.specs.Numbers.{number_of}
use Rattle.tree_writer.proofs.Writing.{SchemaParts, not_schema, not_tree, schema_below, schema_of, schema_parts, tree_of, tree_part, tree_writable}
use Rattle.tree_writer.proofs.plans.TreePlan.write_next.Goals as goal

pub write_below-requires : goal.write_below-requires
write_below-requires g c =
    let self = c.args.self.now in
    let es = g.N.Entries.entries c.args.entries.now in
    let w = tree_writable es self (tree_of es self c.requires.plan c.in-None.is) in
    record {
      plan = w.0;
      there = omega (arith, w.1, c.requires.there);
      some = c.requires.some;
      numbers = omega (arith, w.1, c.requires.numbers);
      held = c.requires.held;
      room = c.requires.room;
      size = c.requires.size;
    }

pub returns-in-None : goal.returns-in-None
returns-in-None g c =
    let self = c.args.self.now in
    let es = g.N.Entries.entries c.args.entries.now in
    record {
      tree = λ usable kind t. tree_part usable kind (number_of c.args.numbers.now.start c.args.numbers.now.lock) es self c.args.k c.write_below.new.to t c.write_below.ensures.bytes;
      schema = λ usable s. absurd (not_schema usable es self s c.in-None.is);
      held = c.write_below.ensures.held;
    }

pub write_below-requires-then-k-page : goal.write_below-requires-then-k-page
write_below-requires-then-k-page g c =
    let self = c.args.self.now in
    let es = g.N.Entries.entries c.args.entries.now in
    let parts = schema_parts es self c.in-Some.page (schema_of es self c.in-Some.page c.requires.plan c.in-Some.is) c.in-Some.is in
    record {
      plan = parts.can;
      there = omega (arith, parts.below, c.if-k-gt0.true, c.if-k-page.true);
      some = c.requires.some;
      numbers = omega (arith, parts.below, parts.count, c.requires.numbers);
      held = c.requires.held;
      room = c.requires.room;
      size = c.requires.size;
    }

pub returns-then-k-page : goal.returns-then-k-page
returns-then-k-page g c =
    let self = c.args.self.now in
    let es = g.N.Entries.entries c.args.entries.now in
    let s = schema_of es self c.in-Some.page c.requires.plan c.in-Some.is in
    let parts = schema_parts es self c.in-Some.page s c.in-Some.is in
    let number = number_of c.args.numbers.now.start c.args.numbers.now.lock in
    let made = schema_below (take 100 c.args.to.now) number es self c.in-Some.page c.args.k c.write_below-then-k-page.new.to s parts c.if-k-gt0.true c.if-k-page.true c.write_below-then-k-page.ensures.bytes in
    record {
      tree = λ usable kind t. absurd (not_tree usable kind es self c.in-Some.page t c.in-Some.is);
      schema = λ usable h. subst (λ u. c.write_below-then-k-page.new.to ≡ get_or (schema_pages (take 100 c.args.to.now) u number es) c.args.k []) h.usable_is made;
      held = c.write_below-then-k-page.ensures.held;
    }

pub write_first-requires : goal.write_first-requires
write_first-requires g c =
    let self = c.args.self.now in
    let es = g.N.Entries.entries c.args.entries.now in
    record {
      plan = schema_of es self c.in-Some.page c.requires.plan c.in-Some.is;
      page = c.in-Some.is;
      there = c.requires.there;
      first = λ some. elim c.else-k-gt0.either [ inl past ↦ past.1 | inr none ↦ absurd (omega arith) ];
      some = c.requires.some;
      numbers = c.requires.numbers;
      held = c.requires.held;
      room = c.requires.room;
      size = c.requires.size;
    }

pub returns-else-k-gt0 : goal.returns-else-k-gt0
returns-else-k-gt0 g c =
    let self = c.args.self.now in
    let es = g.N.Entries.entries c.args.entries.now in
    let number = number_of c.args.numbers.now.start c.args.numbers.now.lock in
    record {
      tree = λ usable kind t. absurd (not_tree usable kind es self c.in-Some.page t c.in-Some.is);
      schema = λ usable h. subst (λ u. c.write_first.new.to ≡ get_or (schema_pages (take 100 c.args.to.now) u number es) c.args.k []) h.usable_is c.write_first.ensures.bytes;
      held = c.write_first.ensures.held;
    }
