-- What is written to standard error.
use Rattle.std.specs.Prelude.{ℕ, ◌++◌, List, []}
use Rattle.curp_runner.specs.Status.{complaint_text}
use Rattle.curp_runner.specs.declared.status.Status.{Status}
use Rattle.curp_runner.specs.declared.status.Status.TheVariants as status
use Rattle.curp_words.specs.WrongWords.{blame_text, line_of, options_text}
use Rattle.curp_words.specs.declared.wrong_words.Blame.{Blame}
use Rattle.curp_words.specs.declared.wrong_words.Blame.TheVariants.{Help, Word, End, Unknown}

-- the lines for words that are no command line
unfoldable pub blamed_text : Blame → List ℕ
blamed_text blame = blame_text blame ++ line_of (complaint_text status.Usage) ++ options_text

-- words that ask for help have the page alone
abbrev pub usage_text : Blame → List ℕ
usage_text Help = blame_text Help
usage_text (Word word) = blamed_text (Word word)
usage_text End = blamed_text End
usage_text Unknown = blamed_text Unknown

-- the lines for a run that ended so
abbrev pub complaints_text : Status → Blame → List ℕ
complaints_text status.Ok blame = []
complaints_text status.Usage blame = usage_text blame
complaints_text s blame = line_of (complaint_text s)
