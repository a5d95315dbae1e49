use Rattle.std.proofs.Common.{◌≡◌, refl, sym, ap, subst, ◌∙◌, arith, rules, ℕ, ◌+◌, ◌-◌, ◌%◌, List, ◌++◌, length, take, drop}
use Rattle.salvage_core.specs.Plan.{IsPlan}
use Rattle.trial_file.specs.Trial.{IsSmall}
use Rattle.salvage_trial.specs.Holes.{hole_of}
use Rattle.salvage_trial.specs.Trial.{IsReadable, file_of, holed_file, pages_of, plain_options}
use Rattle.salvage_trial.proofs.Readable.{file_short, hole_inside, holed_readable, whole_readable}
use Rattle.salvage_trial.proofs.Telling.{text_of}
use Rattle.salvage_trial.proofs.Zeros.{written_back}
use Rattle.salvage_trial.proofs.trials.numbers_of.Goals as goal

pub salvage-requires : goal.salvage-requires
salvage-requires c =
    let db = c.in_ok-db.db in
    let small = c.the_database_of_a_trial_is_small.ensures c.args.rows db c.requires c.in_ok-db.ensures.trial in
    let copied : c.in_ok-copy.copy.items ≡ file_of db = c.in_ok-copy.ensures.items ∙ (c.as_slice.ensures.value ∙ c.in_ok-file.ensures.bytes) in
    subst IsReadable (sym copied)
    (whole_readable c.args.rows db c.requires small c.a_layout_is_whole.ensures c.the_file_of_a_database_spells_it.ensures)

pub salvage-requires-2 : goal.salvage-requires-2
salvage-requires-2 c =
    let db = c.in_ok-db.db in
    let n = c.args.rows in
    let items = c.in_ok-file.file.bytes.items in
    let small : IsSmall n db = c.the_database_of_a_trial_is_small.ensures n db c.requires c.in_ok-db.ensures.trial in
    let many : c.in_ok-file.file.bytes.len ≡ length items = search rules in
    let same : take c.in_ok-file.file.bytes.len (c.blank.new.bytes ++ drop (length c.blank.new.bytes) items) ≡ holed_file n db =
    written_back c.in_ok-file.file.bytes.len (2 + n % (c.in_ok-file.file.pages - 1)) (hole_of n (pages_of db)) (file_of db) items c.as_mut_slice.result.now c.blank.new.bytes
    many c.in_ok-file.ensures.bytes c.as_mut_slice.ensures.value c.blank.ensures (ap (λ p. hole_of n p) c.in_ok-file.ensures.pages)
    (omega arith) (hole_inside n db small c.a_layout_is_whole.ensures) in
    subst IsReadable (sym same) (holed_readable n db c.requires small c.a_layout_is_whole.ensures c.the_file_of_a_database_spells_it.ensures)

pub returns : goal.returns
returns c =
    let db = c.in_ok-db.db in
    let n = c.args.rows in
    let items = c.in_ok-file.file.bytes.items in
    let made = c.in_ok-db.ensures.trial in
    let small : IsSmall n db = c.the_database_of_a_trial_is_small.ensures n db c.requires made in
    let copied : c.in_ok-copy.copy.items ≡ file_of db = c.in_ok-copy.ensures.items ∙ (c.as_slice.ensures.value ∙ c.in_ok-file.ensures.bytes) in
    let many : c.in_ok-file.file.bytes.len ≡ length items = search rules in
    let hole : 2 + n % (c.in_ok-file.file.pages - 1) ≡ hole_of n (pages_of db) = ap (λ p. hole_of n p) c.in_ok-file.ensures.pages in
    let same : take c.in_ok-file.file.bytes.len (c.blank.new.bytes ++ drop (length c.blank.new.bytes) items) ≡ holed_file n db =
    written_back c.in_ok-file.file.bytes.len (2 + n % (c.in_ok-file.file.pages - 1)) (hole_of n (pages_of db)) (file_of db) items c.as_mut_slice.result.now c.blank.new.bytes
    many c.in_ok-file.ensures.bytes c.as_mut_slice.ensures.value c.blank.ensures hole (omega arith) (hole_inside n db small c.a_layout_is_whole.ensures) in
    text_of n db c.in_ok-salvaged.salvaged c.in_ok-damaged.damaged (record {
      rows = n;
      pages = c.in_ok-file.file.pages;
      whole = c.counts_of-whole.result;
      hole = 2 + n % (c.in_ok-file.file.pages - 1);
      holed = c.counts_of-holed.result;
    })
    c.requires made c.the_text_of_a_trial_has_no_fault.ensures.none (file_short n db c.requires small c.a_layout_is_whole.ensures)
    c.the_file_of_a_database_spells_it.ensures c.in_ok-salvaged.ensures.sound.placed
    (subst (λ (bytes : List ℕ). IsPlan plain_options bytes c.in_ok-salvaged.salvaged) copied c.in_ok-salvaged.ensures.plan)
    (subst (λ (bytes : List ℕ). IsPlan plain_options bytes c.in_ok-damaged.damaged) same c.in_ok-damaged.ensures.plan)
    refl c.in_ok-file.ensures.pages c.counts_of-whole.ensures.rows c.counts_of-whole.ensures.lost hole c.counts_of-holed.ensures.rows c.counts_of-holed.ensures.lost
