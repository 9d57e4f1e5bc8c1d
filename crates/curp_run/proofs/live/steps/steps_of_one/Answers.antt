use Rattle.std.proofs.Common.{List, subst}
use Rattle.curp_cmd.specs.declared.command.Command.{Command}
use Rattle.curp_gather.specs.Journals.{IsScriptOf, journals_of}
use Rattle.curp_live.specs.Live.{IsLiveRun}
use Rattle.curp_run.specs.Live.{Shows}
use Rattle.curp_run.proofs.Runs.{if_found, run_shows}
use Rattle.curp_run.proofs.live.steps.steps_of_one.Goals as goal

pub returns-clause-shows : goal.returns-clause-shows
returns-clause-shows g c =
    let journals = c.in_ok-ruled.ruled in
    if_found c.script_of-steps.result (λ steps. IsScriptOf c.args.header.now (journals_of journals) steps.items) (λ steps. Shows c.args.plan.now steps.items)
    (λ steps script. run_shows c.args.plan.now c.args.header.now c.args.work.now journals steps.items c.requires.plan c.requires.header c.requires.work
    c.in_ok-ruled.ensures script) c.script_of-steps.ensures.script

pub returns-clause-cause : goal.returns-clause-cause
returns-clause-cause g c = λ none. record {
  journals = c.in_ok-ruled.ruled;
  run = subst (λ (work : List (List Command)). IsLiveRun c.args.plan.now work c.in_ok-ruled.ruled) c.requires.work c.in_ok-ruled.ensures;
  cause = c.script_of-steps.ensures.unplayable none;
}
