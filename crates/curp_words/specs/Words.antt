-- What the words of the command line ask for.
use Rattle.std.specs.Prelude.{ℕ, ◌^◌, ◌-◌, ◌&&◌, ◌||◌, nat_lt, Bool, true, false, not, List, [], ◌∷◌, codes, Option, Some, None, is_some, find}
use Rattle.std.specs.Prelude.{if◌then◌else◌, option_and_then, option_map, unwrap_or}
use Rattle.std.specs.List.{list_all, list_any}
use Rattle.std.specs.Option.{option_or}
use Rattle.std.specs.Str.{bytes_eq}
use Rattle.clap.specs.Lexer.{long_of, strip_byte}
use Rattle.clap.specs.Walk.{Text}
use Rattle.clap.specs.declared.error.kind.ErrorKind.{ErrorKind}
use Rattle.clap.specs.declared.error.kind.ErrorKind.TheVariants as kind
use Rattle.curp_base.specs.declared.failed.Failed.{Failed}
use Rattle.curp_base.specs.declared.failed.Failed.TheVariants as failed
use Rattle.curp_msg.specs.Limits.{step_limit}
use Rattle.curp_msg.specs.declared.script.Protocol.{Protocol}
use Rattle.curp_msg.specs.declared.script.Protocol.TheVariants.{One, Two}
use Rattle.curp_words.specs.Numbers.{number_within}
use Rattle.curp_words.specs.declared.task.LivePlan.{LivePlan}
use Rattle.curp_words.specs.declared.task.MakePlan.{MakePlan}
use Rattle.curp_words.specs.declared.task.Task.{Task}
use Rattle.curp_words.specs.declared.task.Task.TheVariants.{Play, Make, Live, Check, Resp, Manage}
use Rattle.curp_words.specs.declared.task.Output.{Output}
use Rattle.curp_words.specs.declared.task.Output.TheVariants.{Script, Summary}
use Rattle.curp_words.specs.declared.task.Report.TheVariants.{Steps, History}
use Rattle.curp_words.specs.declared.task.RespOutput.{RespOutput}
use Rattle.curp_words.specs.declared.task.RespOutput.TheVariants as shown
use Rattle.curp_words.specs.declared.task.RespPlan.{RespPlan}
use Rattle.curp_words.specs.declared.task.Usage.{Usage}

-- ---- the options

-- which options a word of the command line has: those with a value, and those without
pub record Options : Type 0 where
  pub valued : List Text
  pub flags : List Text

-- the options of `make`
abbrev pub make_options : Options
make_options = record {
  valued = codes "number" ∷ codes "f" ∷ codes "sets" ∷ codes "ways" ∷ codes "clients" ∷ codes "parts" ∷ codes "protocol"
      ∷ codes "steps" ∷ codes "recoveries" ∷ [];
  flags = codes "summary" ∷ [];
}

-- the options of `live`
abbrev pub live_options : Options
live_options = record {
  valued = codes "number" ∷ codes "f" ∷ codes "sets" ∷ codes "ways" ∷ codes "clients" ∷ codes "parts" ∷ codes "protocol"
      ∷ codes "commands" ∷ codes "recoveries" ∷ [];
  flags = [];
}

-- the options of `resp`
abbrev pub resp_options : Options
resp_options = record { valued = codes "f" ∷ codes "every" ∷ []; flags = codes "script" ∷ [] }

-- ---- what is given

-- a name with its value
abbrev pub NamedValue : Type 0
NamedValue = Text × Text

-- what is given by some words, the last first: the value of an option by the option's name, the word that stands for
-- itself by the name `command`, and an option without a value with the value `true`
abbrev pub GivenOptions : Type 0
GivenOptions = List NamedValue

-- one of the names
abbrev pub is_among : List Text → Text → Bool
is_among names name = list_any (λ each. bytes_eq each name) names

-- something is given by the name
abbrev pub is_given : Text → GivenOptions → Bool
is_given name given = list_any (λ value. bytes_eq value.0 name) given

-- the value that is given by the name
abbrev pub value_of : GivenOptions → Text → Option Text
value_of given name = option_map (λ value. value.1) (find (λ value. bytes_eq value.0 name) given)

-- nothing is given twice
abbrev pub is_once : GivenOptions → Bool
is_once [] = true
is_once (value ∷ given) = not (is_given value.0 given) && is_once given

-- ---- the words, one by one

-- a word that begins with a hyphen, which is 45, is `--name` or `--name=value`
abbrev pub is_well_formed : Text → Bool
is_well_formed word = is_some (long_of word) || not (is_some (strip_byte 45 word))

-- what is given by the words so far, and the option that waits for its value
pub record OptionsRead : Type 0 where
  pub given : GivenOptions
  pub waiting : Option Text

-- so much is given, and no option waits
abbrev pub gives : GivenOptions → OptionsRead
gives given = record { given = given; waiting = None }

-- a word with no hyphen is the value that an option waits for, and else it stands for itself
abbrev pub with_bare : Option Text → GivenOptions → Text → OptionsRead
with_bare waiting given word = gives ((unwrap_or waiting (codes "command"), word) ∷ given)

-- an option: its value is behind `=`, or it is the next word, or it has none
abbrev pub with_option : Options → GivenOptions → Text → Option Text → Option OptionsRead
with_option options given name (Some value) =
    if is_among options.valued name then Some (gives ((name, value) ∷ given)) else None
with_option options given name None =
    if is_among options.valued name then Some (record { given = given; waiting = Some name })
    else (if is_among options.flags name then Some (gives ((name, codes "true") ∷ given)) else None)

-- no option stands where another one waits for its value
abbrev pub with_next : Options → Option Text → GivenOptions → Text → Option (Text × Option Text) → Option OptionsRead
with_next options waiting given word None = Some (with_bare waiting given word)
with_next options None given word (Some option) = with_option options given option.0 option.1
with_next options (Some name) given word (Some option) = None

-- what is given by all the words, if no option waits for its value at their end
abbrev pub given_from : Options → Option Text → GivenOptions → List Text → Option GivenOptions
given_from options None given [] = Some given
given_from options (Some name) given [] = None
given_from options waiting given (word ∷ words) =
    option_and_then (λ (reading : OptionsRead). given_from options reading.waiting reading.given words)
    (with_next options waiting given word (long_of word))

-- and nothing is given twice
abbrev pub if_once : GivenOptions → Option GivenOptions
if_once given = if is_once given then Some given else None

-- what is given by the words of a command line with these options
abbrev pub given_by : Options → List Text → Option GivenOptions
given_by options words =
    if list_all is_well_formed words then option_and_then if_once (given_from options None [] words) else None

-- ---- the tasks

-- what f gives for x, where there is an x
abbrev pub with : {X Y : Type 0} → Option X → (X → Option Y) → Option Y
with x f = option_and_then f x

-- the protocol of reads, by its number
abbrev pub protocol_of : ℕ → Protocol
protocol_of number = if nat_lt 1 number then Two else One

-- the protocol, by the value of its option
abbrev pub protocol_by : (Text → Option Text) → Option Protocol
protocol_by value = option_map protocol_of (number_within 1 2 1 (value (codes "protocol")))

-- the plan of `make`, by the values of the options: for each its least and its most number, and the one where it isn't
-- given
abbrev pub plan_by : (Text → Option Text) → Option MakePlan
plan_by value =
    with (number_within 0 (2 ^ 64 - 1) 1 (value (codes "number"))) (λ number.
    with (number_within 1 5 3 (value (codes "f"))) (λ f.
    with (number_within 1 1024 64 (value (codes "sets"))) (λ sets.
    with (number_within 1 16 4 (value (codes "ways"))) (λ ways.
    with (number_within 1 64 8 (value (codes "clients"))) (λ clients.
    with (number_within 1 16 2 (value (codes "parts"))) (λ parts.
    with (protocol_by value) (λ protocol.
    with (number_within 1 step_limit 4000 (value (codes "steps"))) (λ steps.
    with (number_within 0 64 3 (value (codes "recoveries"))) (λ recoveries.
    Some (record {
      number = number;
      f = f;
      sets = sets;
      ways = ways;
      clients = clients;
      parts = parts;
      protocol = protocol;
      steps = steps;
      recoveries = recoveries;
    }))))))))))

-- the same for the plan of `live`
abbrev pub live_plan_by : (Text → Option Text) → Option LivePlan
live_plan_by value =
    with (number_within 0 (2 ^ 64 - 1) 1 (value (codes "number"))) (λ number.
    with (number_within 1 5 3 (value (codes "f"))) (λ f.
    with (number_within 1 1024 64 (value (codes "sets"))) (λ sets.
    with (number_within 1 16 4 (value (codes "ways"))) (λ ways.
    with (number_within 1 16 8 (value (codes "clients"))) (λ clients.
    with (number_within 1 16 2 (value (codes "parts"))) (λ parts.
    with (protocol_by value) (λ protocol.
    with (number_within 1 100 50 (value (codes "commands"))) (λ commands.
    with (number_within 0 8 3 (value (codes "recoveries"))) (λ recoveries.
    Some (record {
      number = number;
      f = f;
      sets = sets;
      ways = ways;
      clients = clients;
      parts = parts;
      protocol = protocol;
      commands = commands;
      recoveries = recoveries;
    }))))))))))

-- there is a text, and it is this one
abbrev pub is_text : Text → Option Text → Bool
is_text text None = false
is_text text (Some other) = bytes_eq other text

-- the summary, where it is asked for
abbrev pub output_by : (Text → Option Text) → Output
output_by value = if is_text (codes "true") (value (codes "summary")) then Summary else Script

-- the script of the steps, where it is asked for
abbrev pub resp_output_by : (Text → Option Text) → RespOutput
resp_output_by value = if is_text (codes "true") (value (codes "script")) then shown.Script else shown.Replies

-- the plan of `resp`, by the values of the options
abbrev pub resp_plan_by : (Text → Option Text) → Option RespPlan
resp_plan_by value =
    with (number_within 1 5 3 (value (codes "f"))) (λ f.
    with (number_within 0 1000000 0 (value (codes "every"))) (λ every.
    Some (record { f = f; every = every; output = resp_output_by value })))

-- the task of a command line with values by these names, if its word is `make`
abbrev pub make_task_by : (Text → Option Text) → Option Task
make_task_by value =
    if is_text (codes "make") (value (codes "command"))
    then option_map (λ plan. Make plan (output_by value)) (plan_by value) else None

-- the same, if its word is `live`
abbrev pub live_task_by : (Text → Option Text) → Option Task
live_task_by value =
    if is_text (codes "live") (value (codes "command"))
    then option_map (λ plan. Live plan) (live_plan_by value) else None

-- the same, if its word is `resp`
abbrev pub resp_task_by : (Text → Option Text) → Option Task
resp_task_by value =
    if is_text (codes "resp") (value (codes "command"))
    then option_map (λ plan. Resp plan) (resp_plan_by value) else None

-- the one word `play`, `check` or `manage`
abbrev pub one_word : Text → Option Task
one_word word =
    if bytes_eq word (codes "play") then Some (Play Steps)
    else if bytes_eq word (codes "check") then Some Check
    else if bytes_eq word (codes "manage") then Some Manage
    else None

-- `play` with its one option, before it or behind it
abbrev pub two_words : Text → Text → Option Task
two_words word next =
    if (bytes_eq word (codes "play") && bytes_eq next (codes "--history"))
    || (bytes_eq word (codes "--history") && bytes_eq next (codes "play"))
    then Some (Play History) else None

-- what words ask for with no number in them
abbrev pub plain_in : List Text → Option Task
plain_in [] = None
plain_in (word ∷ []) = one_word word
plain_in (word ∷ next ∷ []) = two_words word next
plain_in (word ∷ next ∷ other ∷ words) = None

-- the task of a command line with these options, where `task` says it by their values
abbrev pub task_with : Options → ((Text → Option Text) → Option Task) → List Text → Option Task
task_with options task words = option_and_then (λ given. task (value_of given)) (given_by options words)

-- the word `make` with options
abbrev pub make_in : List Text → Option Task
make_in words = task_with make_options make_task_by words

-- the word `live` with options
abbrev pub live_in : List Text → Option Task
live_in words = task_with live_options live_task_by words

-- the word `resp` with options
abbrev pub resp_in : List Text → Option Task
resp_in words = task_with resp_options resp_task_by words

-- what the words behind the program's name ask for; none where they are no command line
abbrev pub task_in : List Text → Option Task
task_in words = option_or (plain_in words) (option_or (make_in words) (option_or (live_in words) (resp_in words)))

-- ---- what is no task

-- why there is no task of words that the parser refuses
abbrev pub refusal : ErrorKind → Failed Usage
refusal kind.OutOfMemory = failed.NoMemory
refusal _ = failed.Because (record {})
