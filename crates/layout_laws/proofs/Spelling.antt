-- The file of a database spells this database, and no other.
use Rattle.std.proofs.Common.{◌≡◌, ◌+◌, ◌-◌, ◌*◌, length, ap, ◌∙◌, arith}
use Rattle.db_builder.specs.Layout.{lock_of, page_total}
use Rattle.db_builder.specs.Trees.{trees_of}
use Rattle.db_builder.proofs.Preparing.{can_be_prepared}
use Rattle.well_formed.proofs.Once.{one_database}
use Rattle.layout_laws.specs.Laws.{LayoutIsWhole, LayoutSpells, LayoutSpellsOne}
use Rattle.layout_laws.specs.Written.{database_of}
use Rattle.db_builder.specs.Layout.{layout}
use Rattle.layout_laws.proofs.Numbering.{last_of}
use Rattle.layout_laws.proofs.Sizes.{size_least, size_most}
use Rattle.layout_laws.proofs.Standing.{all_stand, other_pages, others_len}
use Rattle.layout_laws.proofs.Whole.{can_spell}

pub layout_is_whole : LayoutIsWhole
layout_is_whole size db valid =
    (all_stand size db valid).long
    ∙ ap (λ n. last_of (lock_of size) n * size) (let e : 0 + length (other_pages size db) ≡ page_total size (trees_of db.tables.items) - 1 = omega (arith, others_len size db) in e)

pub layout_spells : LayoutSpells
layout_spells size db valid typed is small = can_spell size db valid typed is (can_be_prepared size db (size_least size valid) (size_most size valid) is small)

pub layout_spells_one : LayoutSpellsOne
layout_spells_one size db other valid typed is small spells = one_database (layout size db) other (database_of db) spells (layout_spells size db valid typed is small)
