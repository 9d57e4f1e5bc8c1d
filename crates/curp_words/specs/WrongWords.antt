-- What is wrong with words that are no command line, and what is told of them.
use Rattle.std.specs.Prelude.{◌≡◌, ℕ, ◌++◌, ◌∷◌, codes, true, false, List, [], Some, None, slice_get, flat_map, if◌then◌else◌}
use Rattle.std.specs.Char.{encode_utf8, is_control}
use Rattle.std.specs.Fmt.{digits}
use Rattle.std.specs.Str.{chars}
use Rattle.clap.specs.Walk.{Text}
use Rattle.curp_words.specs.Blame.{IsBlamed}
use Rattle.curp_words.specs.Help.{asks_for_help, help_text}
use Rattle.curp_words.specs.declared.wrong_words.Blame.{Blame}
use Rattle.curp_words.specs.declared.wrong_words.Blame.TheVariants.{Help, Word, End, Unknown}

-- a text with a line feed behind it
abbrev pub line_of : List ℕ → List ℕ
line_of text = text ++ 10 ∷ []

-- a character as it is shown: a control character by its number in hexadecimal digits
abbrev pub shown_char : ℕ → List ℕ
shown_char c = if is_control c then codes "\\u{" ++ (digits 16 false c ++ codes "}") else encode_utf8 c

abbrev pub shown_text : List ℕ → List ℕ
shown_text text = flat_map shown_char (chars text)

-- the line on what is wrong with words, if it is known, or the page for people
abbrev pub blame_text : Blame → List ℕ
blame_text Help = help_text
blame_text (Word word) = line_of (codes "curp: this can't stand there: " ++ shown_text word.now)
blame_text End = line_of (codes "curp: something is missing at the end")
blame_text Unknown = []

-- the line on the options that there are
unfoldable pub options_text : List ℕ
options_text = line_of (codes "curp: make takes --number, --f, --sets, --ways, --clients, --parts, --protocol, --steps and --recoveries, each with a number, and --summary; live takes the same but --steps and --summary, and --commands with a number; play takes --history; check and manage take none; resp takes --f and --every, each with a number, and --script")

-- the first word with which no command line can begin stands at the place
pub record IsFirstBlamed (words : List Text) (place : ℕ) (word : Text) : Type 0 where
  pub blamed : IsBlamed words (Some place)
  pub at : slice_get words place ≡ Some word

-- the words don't ask for help, and this is the first with which no command line can begin
pub record BlamesWord (words : List Text) (word : Text) : Type 0 where
  pub no_help : asks_for_help words ≡ false
  pub place : ℕ
  pub first : IsFirstBlamed words place word

-- they don't ask for help, and something is missing behind them
pub record BlamesEnd (words : List Text) : Type 0 where
  pub no_help : asks_for_help words ≡ false
  pub missing : IsBlamed words None

-- it is said of the words what is wrong with them, or that they ask for help
abbrev pub Blames : List Text → Blame → Type 0
Blames words Help = asks_for_help words ≡ true
Blames words (Word word) = BlamesWord words word.now
Blames words End = BlamesEnd words
Blames words Unknown = ⊥
