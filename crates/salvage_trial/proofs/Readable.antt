-- The file of a trial is read, whole and with a page of zeros.
use Rattle.std.proofs.Common.{◌≡◌, refl, ap, arith, inl, inr, ℕ, ◌-◌, ◌*◌, ◌%◌, ◌<◌, ◌≤◌, List, length}
use Rattle.std.proofs.Math.Nat.{mod-lt}
use Rattle.page_access.specs.Files.{max_input}
use Rattle.db_builder.specs.declared.databases.OutDb.{OutDb}
use Rattle.layout_laws.specs.Laws.{LayoutIsWhole}
use Rattle.layout_laws.specs.Written.{database_of}
use Rattle.well_formed.specs.Database.{Database}
use Rattle.well_formed.specs.Header.{IsHeader}
use Rattle.well_formed.specs.Spells.{Spells}
use Rattle.round_trip.proofs.Found.{headers_are_found}
use Rattle.trial_file.specs.Trial.{IsSmall, most_rows}
use Rattle.salvage_trial.specs.Holes.{hole_of, page_size}
use Rattle.salvage_trial.specs.Trial.{IsReadable, file_of, holed_file, pages_of}
use Rattle.salvage_trial.proofs.Header.{hole_header, hole_length}

-- bytes that spell a database have a header
spelled_header : (bytes : List ℕ) (d : Database) → 1 ≤ length bytes → Spells bytes d → IsHeader bytes d
spelled_header bytes d some (inl none) = absurd (omega (arith, some, ap length none.0))
spelled_header bytes d some (inr well) = well.header

readable : (bytes : List ℕ) (d : Database) → IsHeader bytes d → length bytes ≤ max_input → IsReadable bytes
readable bytes d h few = (d, headers_are_found max_input bytes d h few)

-- the number of its bytes
pub file_len : (db : OutDb) → LayoutIsWhole → length (file_of db) ≡ pages_of db * page_size
file_len db whole = whole page_size db refl

pub file_short : (n : ℕ) (db : OutDb) → n ≤ most_rows → IsSmall n db → LayoutIsWhole → length (file_of db) ≤ max_input
file_short n db few small whole = omega (arith, file_len db whole, few, small.pages)

file_header : (n : ℕ) (db : OutDb) → IsSmall n db → LayoutIsWhole → Spells (file_of db) (database_of db) → IsHeader (file_of db) (database_of db)
file_header n db small whole spells = spelled_header (file_of db) (database_of db) (omega (arith, file_len db whole, small.some)) spells

pub whole_readable : (n : ℕ) (db : OutDb) → n ≤ most_rows → IsSmall n db → LayoutIsWhole → Spells (file_of db) (database_of db) → IsReadable (file_of db)
whole_readable n db few small whole spells = readable (file_of db) (database_of db) (file_header n db small whole spells) (file_short n db few small whole)

-- the page of zeros is one of 2 to the last
pub hole_within : (n pages : ℕ) → 2 ≤ pages → hole_of n pages ≤ pages
hole_within n pages some = let lt : n % (pages - 1) < pages - 1 = mod-lt n (omega (arith, some)) in omega (arith, some, lt)

pub hole_inside : (n : ℕ) (db : OutDb) → IsSmall n db → LayoutIsWhole → hole_of n (pages_of db) * page_size ≤ length (file_of db)
hole_inside n db small whole = omega (arith, file_len db whole, hole_within n (pages_of db) small.some)

pub holed_readable : (n : ℕ) (db : OutDb) → n ≤ most_rows → IsSmall n db → LayoutIsWhole → Spells (file_of db) (database_of db) → IsReadable (holed_file n db)
holed_readable n db few small whole spells =
    let p = hole_of n (pages_of db) in
    let inside = hole_inside n db small whole in
    let same = hole_length p (file_of db) (omega arith) inside in
    readable (holed_file n db) (database_of db) (hole_header p (file_of db) (database_of db) (omega arith) inside (file_header n db small whole spells))
    (omega (arith, same, file_short n db few small whole))
