use Rattle.std.proofs.Common.{rules}
use Rattle.clap.specs.Simple.{app_of}
use Rattle.clap.specs.Walk.{texts}
use Rattle.curp_words.specs.Words.{live_options, live_task_by}
use Rattle.curp_words.proofs.Tasks.{live_reads}
use Rattle.curp_words.proofs.Parses.{by_fault, by_matches}
use Rattle.curp_words.proofs.words.read_live.Goals as goal

pub returns-in_err-matches-clause-err : goal.returns-in_err-matches-clause-err
returns-in_err-matches-clause-err c =
    by_fault live_options live_task_by live_reads (app_of c.in_ok-live_command.field-0) c.in_ok-live_command.ensures (texts c.args.words.now)
    c.in_err-matches.field-0.0 c.in_err-matches.ensures.err c.from_residual-in_err-matches.result (search rules)

pub returns-clause-task : goal.returns-clause-task
returns-clause-task c =
    let read = by_matches live_options live_task_by live_reads (app_of c.in_ok-live_command.field-0) c.in_ok-live_command.ensures (texts c.args.words.now)
    c.in_ok-matches.matches c.in_ok-matches.ensures.ok c.live_task.result c.live_task.ensures c.ok_or.result c.ok_or.ensures.value in
    read.0

pub returns-clause-err : goal.returns-clause-err
returns-clause-err c =
    let read = by_matches live_options live_task_by live_reads (app_of c.in_ok-live_command.field-0) c.in_ok-live_command.ensures (texts c.args.words.now)
    c.in_ok-matches.matches c.in_ok-matches.ensures.ok c.live_task.result c.live_task.ensures c.ok_or.result c.ok_or.ensures.value in
    read.1
