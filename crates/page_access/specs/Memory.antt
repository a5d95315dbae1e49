-- Sources and sinks in memory (docs/FORMAT.md, "The outside"): what each is seen as.
use Rattle.std.specs.Prelude.{ℕ, ◌+◌, ◌-◌, ◌^◌, ◌/◌, ◌%◌, ◌==◌, Bool, false, nat_lt, if◌then◌else◌, List, [], length, take, map, find, slice_index, Option, None, unwrap_or, is_some, ◌||◌, Vec}
use Rattle.std.specs.List.{list_any, range_with_len}
use Rattle.std.specs.Option.{option_map, option_map_or}
use Rattle.std.specs.declared.alloc.Global.{Global}
use Rattle.page_access.specs.declared.sinks.MemFail.{MemFail}

-- one more, where a count stays at its last value
abbrev pub counted : ℕ → ℕ
counted n = if n == 2 ^ 64 - 1 then n else n + 1

-- a source of these bytes whose calls with the named numbers fail; calls are counted from 1
pub record SourceState : Type 0 where
  pub bytes : List ℕ
  pub fails : List ℕ
  pub name : Option (List ℕ)
  pub calls : ℕ
  pub reads : ℕ
  pub faults : ℕ

-- a source of these bytes that has not been called
abbrev pub new_source : List ℕ → List ℕ → SourceState
new_source bytes fails = record { bytes = bytes; fails = fails; name = None; calls = 0; reads = 0; faults = 0 }

-- the next call is named
abbrev pub is_named : SourceState → Bool
is_named s = list_any (λ n. n == counted s.calls) s.fails

-- after one more call: it is counted, and is a fault where it was named
abbrev pub called : SourceState → SourceState
called s = record s { calls = counted s.calls; faults = if is_named s then counted s.faults else s.faults }

-- a source of these bytes of which no call fails
pub record SureState : Type 0 where
  pub bytes : List ℕ
  pub name : Option (List ℕ)
  pub reads : ℕ

-- such a source that has not been called
abbrev pub sure_source : List ℕ → SureState
sure_source bytes = record { bytes = bytes; name = None; reads = 0 }

-- a source of these bytes of which a read of more than `widest` bytes fails, and no other call
pub record NarrowState : Type 0 where
  pub bytes : List ℕ
  pub widest : ℕ
  pub name : Option (List ℕ)
  pub reads : ℕ
  pub faults : ℕ

-- such a source that has not been called
abbrev pub narrow_source : List ℕ → ℕ → NarrowState
narrow_source bytes widest = record { bytes = bytes; widest = widest; name = None; reads = 0; faults = 0 }

-- zeros but for the pages, each with its number from 1, of a source of this length
pub record SparseState : Type 0 where
  pub len : ℕ
  pub page_size : ℕ
  pub pages : List (ℕ × Vec ℕ Global)
  pub name : Option (List ℕ)
  pub reads : ℕ

-- such a source that has not been called
abbrev pub sparse_source : ℕ → ℕ → List (ℕ × Vec ℕ Global) → SparseState
sparse_source len page_size pages = record { len = len; page_size = page_size; pages = pages; name = None; reads = 0 }

-- a byte of a page, or 0 where the page is not there
abbrev pub page_byte : List (ℕ × Vec ℕ Global) → ℕ → ℕ → ℕ
page_byte pages number offset =
    option_map_or (λ (page : ℕ × Vec ℕ Global). slice_index page.1.items offset) (find (λ (page : ℕ × Vec ℕ Global). page.0 == number) pages) 0

-- byte k of the source
abbrev pub sparse_byte : ℕ → List (ℕ × Vec ℕ Global) → ℕ → ℕ
sparse_byte size pages k = page_byte pages (k / size + 1) (k % size)

-- all its bytes
unfoldable pub sparse_bytes : ℕ → List (ℕ × Vec ℕ Global) → ℕ → List ℕ
sparse_bytes size pages len = map (λ k. sparse_byte size pages k) (range_with_len 0 len)

-- a sink with room for so many bytes, whose calls with the named numbers fail
pub record SinkState : Type 0 where
  pub bytes : List ℕ
  pub room : ℕ
  pub fails : List MemFail
  pub name : Option (List ℕ)
  pub finished : Bool
  pub calls : ℕ
  pub faults : ℕ

-- a sink that has not been called
abbrev pub new_sink : ℕ → List MemFail → SinkState
new_sink room fails = record { bytes = []; room = room; fails = fails; name = None; finished = false; calls = 0; faults = 0 }

-- how many bytes the next call keeps, where it is named
abbrev pub named_keep : SinkState → Option ℕ
named_keep s = option_map (λ (f : MemFail). f.keep) (find (λ (f : MemFail). f.call == counted s.calls) s.fails)

-- after one more call, which failed or did not
abbrev pub stepped : Bool → SinkState → SinkState
stepped failed s = record s { calls = counted s.calls; faults = if failed then counted s.faults else s.faults; finished = false }

-- the piece would pass the room
abbrev pub is_past : SinkState → List ℕ → Bool
is_past s piece = nat_lt s.room (length s.bytes + length piece)

-- a put of the piece fails
abbrev pub is_refused : SinkState → List ℕ → Bool
is_refused s piece = is_past s piece || is_some (named_keep s)

-- what a put of the piece adds
abbrev pub kept : SinkState → List ℕ → List ℕ
kept s piece = if is_past s piece then [] else take (unwrap_or (named_keep s) (length piece)) piece

-- a sink with room for so many bytes, which alone makes a call fail
pub record SureSinkState : Type 0 where
  pub bytes : List ℕ
  pub room : ℕ
  pub name : Option (List ℕ)
  pub finished : Bool
  pub faults : ℕ

-- such a sink that has not been called
abbrev pub sure_sink : ℕ → SureSinkState
sure_sink room = record { bytes = []; room = room; name = None; finished = false; faults = 0 }
