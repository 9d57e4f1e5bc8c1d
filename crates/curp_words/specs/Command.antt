-- The command as the parser of words has it.
use Rattle.std.specs.Prelude.{◌≡◌, ◌≢◌, ◌⊎◌, List, [], Some, codes, fold, true, false}
use Rattle.std.specs.List.{list_all}
use Rattle.clap.specs.Faults.{fault_of}
use Rattle.clap.specs.Matches.{found_of}
use Rattle.clap.specs.Walk.{Rule, Text, rows_of}
use Rattle.clap.specs.Simple.{App, matches_of, new_app, new_rule, on_top, with_rule}
use Rattle.clap.specs.declared.parser.matches.ArgMatches.{ArgMatches}
use Rattle.curp_words.specs.Words.{Options, is_well_formed, live_options, make_options, resp_options}
use Rattle.clap.specs.declared.builder.action.ArgAction.TheVariants.{Set, SetTrue}

-- an option with a value
abbrev pub valued_rule : Text → Rule
valued_rule name = record (new_rule name) { long = Some name; action = Some Set }

-- the word that stands for itself
abbrev pub bare_rule : Text → Rule
bare_rule name = record (new_rule name) { action = Some Set }

-- an option with no value
abbrev pub flag_rule : Text → Rule
flag_rule name = record (new_rule name) { long = Some name; action = Some SetTrue }

-- a parser of words behind the program's name, which has no help
abbrev pub bare_app : App
bare_app = on_top (λ top. record top { no_binary_name = true; disable_help_flag = true }) (new_app (codes "curp"))

-- a parser of one word, and of options with values
abbrev pub valued_app : List Text → App
valued_app names = fold (λ app name. with_rule app (valued_rule name)) (with_rule bare_app (bare_rule (codes "command"))) names

-- a parser of one word with these options
abbrev pub app_with : Options → App
app_with options = fold (λ app name. with_rule app (flag_rule name)) (valued_app options.valued) options.flags

-- `make` with its options
abbrev pub make_app : App
make_app = app_with make_options

-- `live` with its options
abbrev pub live_app : App
live_app = app_with live_options

-- `resp` with its options
abbrev pub resp_app : App
resp_app = app_with resp_options

-- the words are well formed, and the parser has these matches for them, with no fault
pub record ParserTakes (app : App) (words : List Text) (matches : ArgMatches) : Type 0 where
  pub well : list_all is_well_formed words ≡ true
  pub no_fault : fault_of app words ≡ []
  pub rows : rows_of (found_of matches) ≡ matches_of app words

-- the words are not well formed, or the parser has a fault for them
abbrev pub IsRefused : App → List Text → Type 0
IsRefused app words = (list_all is_well_formed words ≡ false) ⊎ (fault_of app words ≢ [])
