-- The command line as clap reads it (docs/TEXTS.md, "Command line").
use Rattle.std.specs.Prelude.{true, if◌then◌else◌, List, codes, Option, Some, None, option_map}
use Rattle.clap.specs.Words.{App, Row, Rule, all_of, first_of, fault_of, matches_of, new_app, new_rule, with_rule}
use Rattle.clap.specs.Lexer.{usize_max}
use Rattle.clap.specs.Simple.{on_top}
use Rattle.clap.specs.Walk.{is_empty}
use Rattle.clap.specs.declared.builder.action.ArgAction.TheVariants.{SetTrue}
use Rattle.command_line.specs.Parts.{Word, Asked, FileAsked, Lists, RecoveryAsked, Recovers, Tries, Values, asked_of, is_given}
use Rattle.command_line.specs.declared.options.OptionWords.{OptionWords}
use Rattle.command_line.specs.declared.request.InputFile.{InputFile}
use Rattle.command_line.specs.declared.request.Recovery.{Recovery}
use Rattle.command_line.specs.declared.request.Request.{Request}
use Rattle.command_line.specs.declared.request.Request.TheVariants.{List as lists, Recover as recovers, Try as tries}

-- the first word of a command names its mode
abbrev pub mode_rule : Rule
mode_rule = record (new_rule (codes "MODE")) { required = true }

-- any number of words follows it
abbrev pub word_rule : Rule
word_rule = record (new_rule (codes "WORD")) { range = Some (record { start_inclusive = 0; end_inclusive = usize_max }) }

-- `--page-size N`
abbrev pub page_size_rule : Rule
page_size_rule = record (new_rule (codes "page-size")) { long = Some (codes "page-size") }

-- `--reserved N`
abbrev pub reserved_rule : Rule
reserved_rule = record (new_rule (codes "reserved")) { long = Some (codes "reserved") }

-- `--freelist-corrupt`
abbrev pub freelist_rule : Rule
freelist_rule = record (new_rule (codes "freelist-corrupt")) { long = Some (codes "freelist-corrupt"); action = Some SetTrue }

-- `--lost NAME`
abbrev pub lost_rule : Rule
lost_rule = record (new_rule (codes "lost")) { long = Some (codes "lost") }

-- no program name among the words, and no flags for help and version
abbrev pub bare_app : App
bare_app = on_top (λ s. record s { no_binary_name = true; disable_help_flag = true; disable_version_flag = true }) (new_app (codes "db_salvage"))

-- the words
abbrev pub words_app : App
words_app = with_rule (with_rule bare_app mode_rule) word_rule

-- the command line
unfoldable pub app : App
app = with_rule (with_rule (with_rule (with_rule words_app page_size_rule) reserved_rule) freelist_rule) lost_rule

-- the options' values in the matches of a command line
abbrev pub values_in : List Row → Values
values_in rows = record {
  page_size = first_of (codes "page-size") rows;
  reserved = first_of (codes "reserved") rows;
  freelist_corrupt = is_given (first_of (codes "freelist-corrupt") rows);
  lost = first_of (codes "lost") rows;
}

-- what the matches of a command line ask for
unfoldable pub asked_in : List Row → Option Asked
asked_in rows = asked_of (first_of (codes "MODE") rows) (all_of (codes "WORD") rows) (values_in rows)

-- what the words ask for: nothing where clap refuses them, or where they break a rule of the modes
unfoldable pub command_of : List Word → Option Asked
command_of words = if is_empty (fault_of app words) then asked_in (matches_of app words) else None

-- options' values, without where their words lie in memory
abbrev pub values_of : OptionWords → Values
values_of o = record {
  page_size = option_map (λ w. w.now) o.page_size;
  reserved = option_map (λ w. w.now) o.reserved;
  freelist_corrupt = o.freelist_corrupt;
  lost = option_map (λ w. w.now) o.lost;
}

-- an input, a recovery and a command, without where their words lie in memory
abbrev pub file_view : InputFile → FileAsked
file_view f = record { name = f.name.now; page_size = f.page_size; reserved = f.reserved }

abbrev pub recovery_view : Recovery → RecoveryAsked
recovery_view r = record {
  input = file_view r.input;
  output = r.output.now;
  script = r.script.now;
  freelist_corrupt = r.freelist_corrupt;
  lost = option_map (λ w. w.now) r.lost;
}

abbrev pub view : Request → Asked
view (lists listing file) = Lists listing (file_view file)
view (recovers recovery) = Recovers (recovery_view recovery)
view (tries trial) = Tries trial.rows
