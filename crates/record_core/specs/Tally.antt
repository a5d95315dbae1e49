-- What serial types say together (docs/FORMAT.md, "Records"; fileformat2.html, 2.1).
use Rattle.std.specs.Prelude.{◌≡◌, ◌≤◌, ℕ, ◌+◌, ◌-◌, nat_lt, List, length, take, drop, Option, Some, None, Result, Ok, if◌then◌else◌}
use Rattle.std.specs.List.{list_any}
use Rattle.record_core.specs.declared.faults.RecordFault.{RecordFault}
use Rattle.record_core.specs.declared.spans.Layout.{Layout}
use Rattle.record_core.specs.declared.spans.Tally.{Tally}
use Rattle.record_core.specs.Record.{Header, and_then, bodies_len, is_reserved, record_header, record_of, spans_at, types_in, values_of}

-- a length, where there is room for it
abbrev pub within : ℕ → ℕ → Option ℕ
within room used = if nat_lt room used then None else Some used

-- a length with some more bytes, where there is room for all
abbrev pub more_within : ℕ → Option ℕ → ℕ → Option ℕ
more_within room None more = None
more_within room (Some used) more = within room (used + more)

-- what the serial types say
abbrev pub tally_of : ℕ → List ℕ → Tally
tally_of room types =
    let fits = within room (bodies_len types) in
    record { fields = length types; reserved = list_any is_reserved types; bodies = fits }

-- a header's sizes, and where its first serial type stands
abbrev pub layout_at : Header → Layout
layout_at h = record { start = h.start; spans = spans_at h }

-- the layout of the record that the payload holds, or the first fault
abbrev pub layout_of : List ℕ → Result Layout RecordFault
layout_of payload = and_then (record_header payload) (λ h. Ok (layout_at h))

-- the serial types and bodies of a record stand where its layout says
pub record HasValues (payload : List ℕ) (l : Layout) : Type 0 where
  pub types : List ℕ
  pub low : l.start ≤ l.spans.header
  pub high : l.spans.header ≤ length payload
  pub read : types_in (take (l.spans.header - l.start) (drop l.start payload)) ≡ Some types
  pub fits : l.spans.header + bodies_len types ≤ length payload
  pub values : record_of payload ≡ Ok (values_of types (drop l.spans.header payload))
