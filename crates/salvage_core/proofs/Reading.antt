-- The reads of a salvage, call after call.
use Rattle.std.proofs.Common.{◌≡◌, ◌≤◌, ℕ, ◌+◌, ◌-◌, ◌*◌, Bool, true, false, List, length, Option, Some, None, refl, ap, arith, ◌∙◌}
use Rattle.std.specs.Prelude.{if◌then◌else◌, IfSome, nat_le}
use Rattle.std.proofs.lemmas.Bool.Decides.{nat_tests}
use Rattle.std.proofs.lemmas.List.FromFn.{length-range_with_len}
use Rattle.page_access.specs.Files.{FewReads, IsWhole}
use Rattle.page_access.specs.declared.geometry.Geometry.{Geometry}
use Rattle.page_lists.specs.Table.{Table, fresh, unused}
use Rattle.page_walk.specs.Turns.{ReadsEach}
use Rattle.raw_schema.specs.Schema.{ReadsTwice}
use Rattle.use_order.specs.Order.{UsesMove}
use Rattle.use_order.proofs.Ordered.{at_told}
use Rattle.use_order.proofs.Reading.{fewer}
use Rattle.salvage_core.specs.Reads.{page_reads}

-- what is at most either bound is at most that of the pages
within : (n x : ℕ) → (n ≤ 64 → x ≤ 2 * n + 1) → x ≤ 4 * n + 1 → x ≤ page_reads n + 1
within n x small large = by (nat_le n 64) refl where
  by : (b : Bool) → nat_le n 64 ≡ b → x ≤ (if b then 2 * n else 4 * n) + 1
  by true e = small (grind (arith, nat_tests))
  by false e = large

begun_len : (n : ℕ) (t : Table) → t ≡ fresh n 6 → length (unused t) ≡ n
begun_len n t e = ap (λ (s : Table). length (unused s)) e ∙ length-range_with_len 1 n

-- the reads of the survey and of the uses of the pages
pub uses_read : (o o1 : Option (List ℕ)) (geo : Geometry) (t0 t1 : Table) (slots a b c m : ℕ) (Full Full' : Type 0)
    → t0 ≡ fresh geo.pages 6 → slots ≡ 64 → o1 ≡ o → m ≤ 1 → IfSome o (λ all. IsWhole all geo → b ≤ a + geo.pages) → (geo.pages ≤ slots → Full)
    → ReadsTwice o1 geo t0 t1 b c m → (Full → Full' × ReadsEach o1 geo t0 t1 b c m) → FewReads o geo a c (page_reads geo.pages + 1)
uses_read None o1 geo t0 t1 slots a b c m Full Full' begun many same one survey has twice each = tt
uses_read (Some all) o1 geo t0 t1 slots a b c m Full Full' begun many same one survey has twice each = λ whole.
    let here : b ≤ a + geo.pages = survey whole in
    let len : length (unused t0) ≡ geo.pages = begun_len geo.pages t0 begun in
    let two : c + 2 * length (unused t1) ≤ b + 2 * length (unused t0) + m
    = at_told (λ bytes. IsWhole bytes geo → c + 2 * length (unused t1) ≤ b + 2 * length (unused t0) + m) (Some all) o1 all same refl twice whole in
    let more = within geo.pages (c - a)
    (λ few.
    let once : c + length (unused t1) ≤ b + length (unused t0) + m
    = at_told (λ bytes. IsWhole bytes geo → c + length (unused t1) ≤ b + length (unused t0) + m) (Some all) o1 all same refl (each (has (omega (arith, few, many)))).1 whole in
    omega (arith, here, len, once, one))
    (omega (arith, here, len, two, one)) in omega (arith, more)

-- the same, and those of the pages that are left
pub orphans_read : (o o1 o2 : Option (List ℕ)) (geo : Geometry) (t0 t1 t2 : Table) (slots a b c d m : ℕ) (Full Full' Full'' : Type 0)
    → t0 ≡ fresh geo.pages 6 → slots ≡ 64 → o1 ≡ o → o2 ≡ o → m ≤ 1 → IfSome o (λ all. IsWhole all geo → b ≤ a + geo.pages) → (geo.pages ≤ slots → Full)
    → UsesMove t0 t1 → ReadsTwice o1 geo t0 t1 b c 0 → (Full → Full' × ReadsEach o1 geo t0 t1 b c 0)
    → ReadsEach o2 geo t1 t2 c d (2 * length (unused t1) + m) → (Full' → Full'' × ReadsEach o2 geo t1 t2 c d m)
    → FewReads o geo a d (page_reads geo.pages + 1)
orphans_read None o1 o2 geo t0 t1 t2 slots a b c d m Full Full' Full'' begun many e1 e2 one survey has moves twice each thrice again = tt
orphans_read (Some all) o1 o2 geo t0 t1 t2 slots a b c d m Full Full' Full'' begun many e1 e2 one survey has moves twice each thrice again = λ whole.
    let here : b ≤ a + geo.pages = survey whole in
    let len : length (unused t0) ≡ geo.pages = begun_len geo.pages t0 begun in
    let less : length (unused t1) ≤ length (unused t0) = fewer t0 t1 moves in
    let two : c + 2 * length (unused t1) ≤ b + 2 * length (unused t0) + 0
    = at_told (λ bytes. IsWhole bytes geo → c + 2 * length (unused t1) ≤ b + 2 * length (unused t0) + 0) (Some all) o1 all e1 refl twice whole in
    let three : d + length (unused t2) ≤ c + length (unused t1) + (2 * length (unused t1) + m)
    = at_told (λ bytes. IsWhole bytes geo → d + length (unused t2) ≤ c + length (unused t1) + (2 * length (unused t1) + m)) (Some all) o2 all e2 refl thrice whole in
    let more = within geo.pages (d - a)
    (λ few.
    let first = each (has (omega (arith, few, many))) in
    let once : c + length (unused t1) ≤ b + length (unused t0) + 0
    = at_told (λ bytes. IsWhole bytes geo → c + length (unused t1) ≤ b + length (unused t0) + 0) (Some all) o1 all e1 refl first.1 whole in
    let last : d + length (unused t2) ≤ c + length (unused t1) + m
    = at_told (λ bytes. IsWhole bytes geo → d + length (unused t2) ≤ c + length (unused t1) + m) (Some all) o2 all e2 refl (again first.0).1 whole in
    omega (arith, here, len, once, last, one))
    (omega (arith, here, len, less, two, three, one)) in omega (arith, more)
