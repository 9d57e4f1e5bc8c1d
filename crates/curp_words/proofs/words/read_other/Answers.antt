use Rattle.std.proofs.lemmas.Result.{IfOk-weaker}
use Rattle.clap.specs.Walk.{texts}
use Rattle.curp_words.proofs.Ranges.{live_fits, resp_fits}
use Rattle.curp_words.proofs.words.read_other.Goals as goal

pub returns-in-Err-Because-clause-in_range : goal.returns-in-Err-Because-clause-in_range
returns-in-Err-Because-clause-in_range c = IfOk-weaker c.read_resp.result _ _ (resp_fits (texts c.args.words.now)) c.read_resp.ensures.task

pub returns-in_default-2-clause-in_range : goal.returns-in_default-2-clause-in_range
returns-in_default-2-clause-in_range c = IfOk-weaker c.read_live.result _ _ (live_fits (texts c.args.words.now)) c.read_live.ensures.task
