use Rattle.std.proofs.lemmas.Result.{IfOk-weaker}
use Rattle.clap.specs.Walk.{texts}
use Rattle.curp_words.proofs.Ranges.{make_fits}
use Rattle.curp_words.proofs.words.read.Goals as goal

pub returns-in_default-read_make-2-clause-in_range : goal.returns-in_default-read_make-2-clause-in_range
returns-in_default-read_make-2-clause-in_range c = IfOk-weaker c.read_make.result _ _ (make_fits (texts c.args.words.now)) c.read_make.ensures.task
