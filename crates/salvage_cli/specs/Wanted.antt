-- What a command gives, as a function of the bytes of its input (docs/TEXTS.md, "Listings" and "Statuses").
use Rattle.std.specs.Prelude.{ℕ, Bool, false, if◌then◌else◌, List, [], Option, Some, None, Result, Ok, Err}
use Rattle.command_line.specs.Parts.{FileAsked}
use Rattle.command_line.specs.declared.request.Listing.{Listing}
use Rattle.command_line.specs.declared.request.Listing.TheVariants.{Dbdata, Dbptr, Schema}
use Rattle.page_access.specs.Files.{max_input}
use Rattle.page_access.specs.Pages.{File}
use Rattle.page_size.specs.Rule.{Finding}
use Rattle.input_pages.specs.Input.{is_utf16, pages_of}
use Rattle.input_pages.specs.declared.faults.InputFault.{InputFault}
use Rattle.dbdata_list.specs.Listing.{data_text, pointers_text}
use Rattle.salvage_cli.specs.Answers.{of_input}
use Rattle.salvage_cli.specs.Schema.{schema_text}
use Rattle.salvage_cli.specs.declared.faults.Fault.{Fault}
use Rattle.salvage_cli.specs.declared.faults.Fault.TheVariants.{Utf16}

-- an input that is cut into these pages
abbrev pub file_cut : List ℕ → Finding → File
file_cut bytes f = record { bytes = bytes; size = f.size; usable = f.usable; pages = f.pages }

-- the text of a listing
abbrev pub listing_text : Listing → File → List ℕ
listing_text Dbdata f = data_text f
listing_text Dbptr f = pointers_text f
listing_text Schema f = schema_text f

-- the listing refuses the pages for the encoding of their texts: that of the schema alone, whose words are read as UTF-8
abbrev pub is_refused : Listing → Finding → Bool
is_refused Dbdata f = false
is_refused Dbptr f = false
is_refused Schema f = is_utf16 f

-- the listing of pages that were found, or its refusal of them
abbrev pub text_or_refusal : Listing → List ℕ → Finding → Result (List ℕ) Fault
text_or_refusal listing bytes f = if is_refused listing f then Err Utf16 else Ok (listing_text listing (file_cut bytes f))

-- what a listing answers, by what the search for the pages of its input came to; nothing where the input is empty
abbrev pub answer_on_pages : Listing → List ℕ → Result (Option Finding) InputFault → Result (List ℕ) Fault
answer_on_pages listing bytes (Err fault) = Err (of_input fault)
answer_on_pages listing bytes (Ok None) = Ok []
answer_on_pages listing bytes (Ok (Some f)) = text_or_refusal listing bytes f

-- what a listing of these bytes answers: its text, or a refusal
abbrev pub listing_answer : Listing → FileAsked → List ℕ → Result (List ℕ) Fault
listing_answer listing file bytes = answer_on_pages listing bytes (pages_of max_input file.page_size file.reserved bytes)
