use Rattle.std.proofs.Common.{◌≡◌, ◌<◌, ◌≤◌, ◌+◌, ◌-◌, ◌^◌, ℕ, nat_eq, refl, ap, sym, ◌∙◌, arith, length, subst, take}
use Rattle.tree_writer.specs.Levels.{schema_top}
use Rattle.tree_writer.specs.Numbers.{number_of}
use Rattle.tree_writer.proofs.Writing.{FirstAsks, SchemaParts, first_asks, schema_first, schema_over, schema_parts}
use Rattle.tree_writer.proofs.plans.TreePlan.write_first.Goals as goal

pub write-requires-clause-ready : goal.write-requires-clause-ready
write-requires-clause-ready g c =
    let self = c.args.self.now in
    let es = g.N.Entries.entries c.args.entries.now in
    let s = c.requires.plan in
    let parts = schema_parts es self c.args.page s c.requires.page in
    let leaf : nat_eq c.len.result 0 ≡ (schema_top self.usable es).leaf = ap (λ n. nat_eq n 0) (omega (arith, c.len.ensures, self.pages.ok.0)) ∙ sym s.leaf in
    let asks = first_asks self es c.args.page c.args.k c.args.numbers.now.start c.as_slice.result.now (nat_eq c.len.result 0) s parts c.as_slice.ensures.value leaf
    c.requires.there c.requires.some c.requires.numbers in
    asks.ready

pub write-requires-clause-numbers : goal.write-requires-clause-numbers
write-requires-clause-numbers g c =
    let self = c.args.self.now in
    let es = g.N.Entries.entries c.args.entries.now in
    let s = c.requires.plan in
    let parts = schema_parts es self c.args.page s c.requires.page in
    let leaf : nat_eq c.len.result 0 ≡ (schema_top self.usable es).leaf = ap (λ n. nat_eq n 0) (omega (arith, c.len.ensures, self.pages.ok.0)) ∙ sym s.leaf in
    let asks = first_asks self es c.args.page c.args.k c.args.numbers.now.start c.as_slice.result.now (nat_eq c.len.result 0) s parts c.as_slice.ensures.value leaf
    c.requires.there c.requires.some c.requires.numbers in
    asks.numbers

pub write-requires-clause-fits : goal.write-requires-clause-fits
write-requires-clause-fits g c =
    let self = c.args.self.now in
    let es = g.N.Entries.entries c.args.entries.now in
    let s = c.requires.plan in
    let parts = schema_parts es self c.args.page s c.requires.page in
    let leaf : nat_eq c.len.result 0 ≡ (schema_top self.usable es).leaf = ap (λ n. nat_eq n 0) (omega (arith, c.len.ensures, self.pages.ok.0)) ∙ sym s.leaf in
    let asks = first_asks self es c.args.page c.args.k c.args.numbers.now.start c.as_slice.result.now (nat_eq c.len.result 0) s parts c.as_slice.ensures.value leaf
    c.requires.there c.requires.some c.requires.numbers in
    asks.fits

pub write_over-requires-clause-ready : goal.write_over-requires-clause-ready
write_over-requires-clause-ready g c =
    let self = c.args.self.now in
    let es = g.N.Entries.entries c.args.entries.now in
    let s = c.requires.plan in
    let parts = schema_parts es self c.args.page s c.requires.page in
    let leaf : nat_eq c.len.result 0 ≡ (schema_top self.usable es).leaf = ap (λ n. nat_eq n 0) (omega (arith, c.len.ensures, self.pages.ok.0)) ∙ sym s.leaf in
    let asks = first_asks self es c.args.page c.args.k c.args.numbers.now.start c.as_slice.result.now (nat_eq c.len.result 0) s parts c.as_slice.ensures.value leaf
    c.requires.there c.requires.some c.requires.numbers in
    asks.ready

pub write_over-requires-clause-low : goal.write_over-requires-clause-low
write_over-requires-clause-low g c = omega (arith, c.requires.first (omega (arith, c.if-k-eq0.false)))

pub write_over-requires-clause-high : goal.write_over-requires-clause-high
write_over-requires-clause-high g c =
    let self = c.args.self.now in
    let es = g.N.Entries.entries c.args.entries.now in
    let s = c.requires.plan in
    let parts = schema_parts es self c.args.page s c.requires.page in
    let leaf : nat_eq c.len.result 0 ≡ (schema_top self.usable es).leaf = ap (λ n. nat_eq n 0) (omega (arith, c.len.ensures, self.pages.ok.0)) ∙ sym s.leaf in
    let asks = first_asks self es c.args.page c.args.k c.args.numbers.now.start c.as_slice.result.now (nat_eq c.len.result 0) s parts c.as_slice.ensures.value leaf
    c.requires.there c.requires.some c.requires.numbers in
    omega (arith, asks.high, c.if-k-eq0.false)

pub write_over-requires-clause-numbers : goal.write_over-requires-clause-numbers
write_over-requires-clause-numbers g c =
    let self = c.args.self.now in
    let es = g.N.Entries.entries c.args.entries.now in
    let s = c.requires.plan in
    let parts = schema_parts es self c.args.page s c.requires.page in
    let leaf : nat_eq c.len.result 0 ≡ (schema_top self.usable es).leaf = ap (λ n. nat_eq n 0) (omega (arith, c.len.ensures, self.pages.ok.0)) ∙ sym s.leaf in
    let asks = first_asks self es c.args.page c.args.k c.args.numbers.now.start c.as_slice.result.now (nat_eq c.len.result 0) s parts c.as_slice.ensures.value leaf
    c.requires.there c.requires.some c.requires.numbers in
    asks.end

pub returns-then-k-eq0-clause-bytes : goal.returns-then-k-eq0-clause-bytes
returns-then-k-eq0-clause-bytes g c =
    let self = c.args.self.now in
    let es = g.N.Entries.entries c.args.entries.now in
    let s = c.requires.plan in
    let parts = schema_parts es self c.args.page s c.requires.page in
    let leaf : nat_eq c.len.result 0 ≡ (schema_top self.usable es).leaf = ap (λ n. nat_eq n 0) (omega (arith, c.len.ensures, self.pages.ok.0)) ∙ sym s.leaf in
    let asks = first_asks self es c.args.page c.args.k c.args.numbers.now.start c.as_slice.result.now (nat_eq c.len.result 0) s parts c.as_slice.ensures.value leaf
    c.requires.there c.requires.some c.requires.numbers in
    schema_first (take 100 c.args.to.now) (number_of c.args.numbers.now.start c.args.numbers.now.lock) es self c.args.page c.args.k c.as_slice.result.now (nat_eq c.len.result 0) c.write.new.to s parts
    c.as_slice.ensures.value leaf c.if-k-eq0.true c.write.ensures.bytes

pub returns-else-k-eq0-clause-bytes : goal.returns-else-k-eq0-clause-bytes
returns-else-k-eq0-clause-bytes g c =
    let self = c.args.self.now in
    let es = g.N.Entries.entries c.args.entries.now in
    let s = c.requires.plan in
    let parts = schema_parts es self c.args.page s c.requires.page in
    let leaf : nat_eq c.len.result 0 ≡ (schema_top self.usable es).leaf = ap (λ n. nat_eq n 0) (omega (arith, c.len.ensures, self.pages.ok.0)) ∙ sym s.leaf in
    let asks = first_asks self es c.args.page c.args.k c.args.numbers.now.start c.as_slice.result.now (nat_eq c.len.result 0) s parts c.as_slice.ensures.value leaf
    c.requires.there c.requires.some c.requires.numbers in
    schema_over (take 100 c.args.to.now) (number_of c.args.numbers.now.start c.args.numbers.now.lock) es self c.args.page c.args.k c.as_slice.result.now (nat_eq c.len.result 0) c.write_over.new.to s parts
    c.as_slice.ensures.value leaf (c.requires.first (omega (arith, c.if-k-eq0.false))) c.write_over.ensures.bytes
