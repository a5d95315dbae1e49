-- Trunk pages of the freelist (docs/FORMAT.md, "The freelist"; fileformat2.html, 1.5).
use Rattle.std.specs.Prelude.{ℕ, ◌+◌, ◌-◌, ◌*◌, ◌/◌, nat_lt, Bool, if◌then◌else◌, List, [], map}
use Rattle.std.specs.List.{range_with_len}
use Rattle.page_access.specs.Pages.{File, page_at}
use Rattle.cell_reader.specs.Shape.{u32_at}

-- the number of leaves that a trunk page gives, and the most that a page has room for
abbrev pub count_on : List ℕ → ℕ
count_on page = u32_at page 4

abbrev pub most_leaves : ℕ → ℕ
most_leaves usable = usable / 4 - 2

-- it gives more than it has room for
abbrev pub is_long : ℕ → List ℕ → Bool
is_long usable page = nat_lt (most_leaves usable) (count_on page)

-- so many leaves of a trunk page, from leaf k on
abbrev pub leaves_from : List ℕ → ℕ → ℕ → List ℕ
leaves_from page k many = map (λ i. u32_at page (8 + 4 * i)) (range_with_len k many)

-- the leaves that a trunk page names: none where it gives more than it has room for
abbrev pub leaves_on : ℕ → List ℕ → List ℕ
leaves_on usable page = if is_long usable page then [] else leaves_from page 0 (count_on page)

-- the next trunk that it names: 0, which is no page, where it gives more leaves than it has room for
abbrev pub next_on : ℕ → List ℕ → ℕ
next_on usable page = if is_long usable page then 0 else u32_at page 0

-- the same of page p of a file
abbrev pub leaves_of : File → ℕ → List ℕ
leaves_of f p = leaves_on f.usable (page_at f p)

abbrev pub next_trunk : File → ℕ → ℕ
next_trunk f p = next_on f.usable (page_at f p)
