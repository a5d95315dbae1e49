-- What the matches of the command line ask for, and where clap refuses words.
use Rattle.std.proofs.Common.{◌≡◌, ◌⊎◌, ◌∙◌, true, false, Bool, List, [], ◌∷◌, Option, Some, None, ap, arith, refl, sym, inl, inr, if◌then◌else◌}
use Rattle.std.specs.Prelude.{ℕ, option_map, option_and_then, map, find, slice_get}
use Rattle.std.specs.Str.{bytes_eq}
use Rattle.std.specs.Borrow.{Bor}
use Rattle.clap.specs.Facts.{Entry}
use Rattle.clap.specs.Walk.{Text, row_of, rows_of, first_of, all_of}
use Rattle.clap.specs.Matches.{first_value, matched_of, raw_values}
use Rattle.clap.specs.declared.parser.matches.Found.{Found}
use Rattle.clap.specs.Words.{App, Row, IsAmong, Kinds, fault_of, is_simple, is_simple_and_free, matches_of}
use Rattle.std.proofs.lemmas.Bool.Decides.{nat_tests}
use Rattle.clap.specs.Walk.{is_empty}
use Rattle.clap.specs.declared.error.kind.ErrorKind.{ErrorKind}
use Rattle.clap.proofs.OnLiterals.{clap_on_literals}
use Rattle.command_line.specs.Parts.{Word, Asked}
use Rattle.std.specs.Prelude.{IfOk, IsErrOf, ◌≢◌}
use Rattle.std.specs.Option.{ok_or}
use Rattle.command_line.specs.declared.request.Request.{Request}
use Rattle.command_line.specs.declared.words.WordsFault.TheVariants.{Usage}
use Rattle.clap.specs.declared.error.kind.ErrorKind.TheVariants.{OutOfMemory}
use Rattle.command_line.specs.Command.{app, asked_in, command_of, view}

-- the command line is simple, and none of its arguments has a rule on another
simple : is_simple app ≡ true
unfolding app clap_on_literals
simple = refl

free : is_simple_and_free app ≡ true
unfolding app clap_on_literals
free = refl

-- where clap takes the words, they ask for what its matches ask for
pub taken : (a : App) (words : List Word) (rows : List Row) → a ≡ app → (is_simple a ≡ true → rows ≡ matches_of a words)
    → (is_simple_and_free a ≡ true → fault_of a words ≡ []) → asked_in rows ≡ command_of words
unfolding command_of
taken a words rows e rows_are no_fault =
    let none : fault_of app words ≡ [] = ap (λ b. fault_of b words) (sym e) ∙ no_fault (ap is_simple_and_free e ∙ free) in
    let same : rows ≡ matches_of app words = rows_are (ap is_simple e ∙ simple) ∙ ap (λ b. matches_of b words) e in
    rw (none, same) refl

some_kind : (k : ErrorKind) (kinds : Kinds) → IsAmong k kinds → is_empty kinds ≡ false
some_kind k [] h = absurd h
some_kind k (x ∷ xs) h = grind (arith, nat_tests)

-- where clap refuses the words by one of its kinds, they ask for nothing
pub refused : (a : App) (words : List Word) (k : ErrorKind) → a ≡ app
    → (is_simple_and_free a ≡ true → IsAmong k (fault_of a words)) → command_of words ≡ None
unfolding command_of
refused a words k e among =
    let some : is_empty (fault_of app words) ≡ false =
    ap (λ b. is_empty (fault_of b words)) (sym e) ∙ some_kind k (fault_of a words) (among (ap is_simple_and_free e ∙ free)) in
    rw some refl

push : {A B : Type 0} (f : A → B) (b : Bool) (x : A) (o : Option A) → (if b then Some (f x) else option_map f o) ≡ option_map f (if b then Some x else o)
push f true x o = refl
push f false x o = refl

-- the row of an id is that of its entry
found_row : (es : List Entry) (id : Text) → find (λ r. bytes_eq r.id id) (map row_of es) ≡ option_map row_of (find (λ e. bytes_eq e.0.now id) es)
found_row [] id = refl
found_row (e ∷ es) id = ap (λ o. if bytes_eq e.0.now id then Some (row_of e) else o) (found_row es id) ∙ push row_of (bytes_eq e.0.now id) e (find (λ e. bytes_eq e.0.now id) es)

first_text : (xs : List (Bor (List ℕ))) → slice_get (map (λ s. s.now) xs) 0 ≡ option_map (λ s. s.now) (slice_get xs 0)
first_text [] = refl
first_text (x ∷ xs) = refl

first_in_row : (o : Option Entry) → option_and_then (λ r. slice_get r.values 0) (option_map row_of o)
    ≡ option_and_then (λ a. option_map (λ s. s.now) (slice_get a.vals.items 0)) (option_map (λ e. e.1) o)
first_in_row None = refl
first_in_row (Some e) = first_text e.1.vals.items

all_in_row : (o : Option Entry) → option_map (λ r. r.values) (option_map row_of o) ≡ option_map raw_values (option_map (λ e. e.1) o)
all_in_row None = refl
all_in_row (Some e) = refl

-- the first value of an id, as a row has it
pub first_by_row : (f : Found) (id : Text) → first_of id (rows_of f) ≡ first_value f id
first_by_row f id = ap (option_and_then (λ r. slice_get r.values 0)) (found_row f.entries.items id) ∙ first_in_row (find (λ e. bytes_eq e.0.now id) f.entries.items)

-- all values of an id, as a row has them
pub all_by_row : (f : Found) (id : Text) → all_of id (rows_of f) ≡ option_map raw_values (matched_of f id)
all_by_row f id = ap (option_map (λ r. r.values)) (found_row f.entries.items id) ∙ all_in_row (find (λ e. bytes_eq e.0.now id) f.entries.items)

-- the answer to what is asked for, where anything is
pub answer_found : (o : Option Request) (w : Option Asked) → option_map view o ≡ w → IfOk (ok_or o Usage) (λ r. w ≡ Some (view r))
answer_found (Some r) w e = sym e
answer_found None w e = tt

pub answer_usage : (o : Option Request) (w : Option Asked) → option_map view o ≡ w → IsErrOf (ok_or o Usage) Usage → w ≡ None
answer_usage (Some r) w e h = cc
answer_usage None w e h = sym e

-- a kind that is not want of memory is one of the words' own
pub own_kind : (k : ErrorKind) (kinds : Kinds) → (k ≡ OutOfMemory) ⊎ IsAmong k kinds → k ≢ OutOfMemory → IsAmong k kinds
own_kind k kinds (inl e) h = absurd (h e)
own_kind k kinds (inr e) h = e
