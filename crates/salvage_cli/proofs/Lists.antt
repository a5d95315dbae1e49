-- What a command leaves in the report, exit by exit.
use Rattle.std.proofs.Common.{◌≡◌, ◌∙◌, ℕ, List, length, Option, Some, None, Result, Ok, Err, ap, sym, subst}
use Rattle.std.specs.Prelude.{IfErr, IfSome, option_map}
use Rattle.std.proofs.Math.Seq.{take-length}
use Rattle.page_access.specs.Files.{max_input}
use Rattle.page_access.specs.Outside.{Gains, WritesOf}
use Rattle.command_line.specs.Parts.{FileAsked}
use Rattle.command_line.specs.declared.request.Listing.{Listing}
use Rattle.page_size.specs.Rule.{Finding, finding}
use Rattle.input_pages.specs.Input.{FindsPages, pages_of}
use Rattle.input_pages.specs.declared.faults.InputFault.{InputFault}
use Rattle.input_pages.specs.declared.inputs.Input.{Input}
use Rattle.salvage_cli.specs.Wanted.{answer_on_pages, listing_answer, text_or_refusal}
use Rattle.salvage_cli.specs.Run.{EndsWanted, GivesWanted}
use Rattle.salvage_cli.specs.declared.faults.Fault.{Fault}
use Rattle.salvage_cli.specs.declared.faults.Fault.TheVariants.{ReportFault}

-- a text is whole, and the report is finished or not
finished_text : {A : Type 0} (old new : Option (List ℕ)) (text : List ℕ) (r : Result A Fault) → Gains old new text → IfErr r (λ fault. fault ≡ ReportFault)
    → GivesWanted (Ok text) old new r
finished_text old new text (Ok x) gained is = gained
finished_text {A = A} old new text (Err fault) gained is =
    let same : fault ≡ ReportFault = is in
    subst (λ (e : Fault). EndsWanted (Ok text) old new e) (sym same) (length text, subst (λ (t : List ℕ). Gains old new t) (sym (take-length text)) gained)

-- a listing is whole, and the report is finished or not
pub finished : {A B : Type 0} (told told' old mid new : Option (List ℕ)) (f g : ℕ) (text : List ℕ → List ℕ) (x : B) (r : Result A Fault)
    → told' ≡ told → IfSome told (λ all. WritesOf {T = B} ReportFault old mid f g (text all) (Ok x)) → new ≡ mid → IfErr r (λ fault. fault ≡ ReportFault)
    → IfSome told' (λ all. GivesWanted (Ok (text all)) old new r)
finished None told' old mid new f g text x r same w e is = subst (λ (o : Option (List ℕ)). IfSome o (λ all. GivesWanted (Ok (text all)) old new r)) (sym same) tt
finished (Some all) told' old mid new f g text x r same w e is =
    subst (λ (o : Option (List ℕ)). IfSome o (λ b. GivesWanted (Ok (text b)) old new r)) (sym same)
    (finished_text old new (text all) r (subst (λ (n : Option (List ℕ)). Gains old n (text all)) (sym e) w.ok) is)

-- the pages of an input were found, and are listed
pub found_listed : {A : Type 0} (told told' old new : Option (List ℕ)) (listing : Listing) (file : FileAsked) (pages : Option Input) (input : Input)
    (r : Result A Fault) → told' ≡ told → pages ≡ Some input
    → IfSome told (λ all. FindsPages (Ok pages) (pages_of max_input file.page_size file.reserved all))
    → IfSome told' (λ all. GivesWanted (text_or_refusal listing all (finding input.found)) old new r)
    → IfSome told (λ all. GivesWanted (listing_answer listing file all) old new r)
found_listed None told' old new listing file pages input r same is pages_are listed = tt
found_listed (Some all) told' old new listing file pages input r same is pages_are listed =
    let there = subst (λ (o : Option (List ℕ)). IfSome o (λ b. GivesWanted (text_or_refusal listing b (finding input.found)) old new r)) same listed in
    let so = pages_are ∙ ap (λ (p : Option Input). Ok (option_map (λ (i : Input). finding i.found) p)) is in
    subst (λ (p : Result (Option Finding) InputFault). GivesWanted (answer_on_pages listing all p) old new r) (sym so) there
