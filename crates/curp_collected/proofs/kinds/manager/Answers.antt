use Rattle.std.proofs.lemmas.Result.{err_from_is_err_and}
use Rattle.curp_base.specs.Failing.{IfBecause}
use Rattle.curp_collected.specs.Causes.{IsCause}
use Rattle.curp_collected.specs.Files.{contents_of}
use Rattle.curp_collected.proofs.Failing.{IfBecause-weaker, manager_cause}
use Rattle.curp_collected.proofs.Openings.{manager_log}
use Rattle.curp_collected.proofs.kinds.manager.Goals as goal

pub returns-in_err-log-clause-cause : goal.returns-in_err-log-clause-cause
returns-in_err-log-clause-cause c =
    let files = c.args.files.now in
    let why = c.in_err-log.field-0.0 in
    let cause : IfBecause (IsCause (contents_of files.each.items)) why =
    IfBecause-weaker why _ _ (manager_cause (contents_of files.each.items) files.header c.args.manager c.requires.manager) (rw c.manager.ensures at c.in_err-log.ensures.cause) in
    let given = err_from_is_err_and c.from_residual.result c.from_residual.ensures.1 in
    rw (given.1, given.2) cause

pub returns-clause-log : goal.returns-clause-log
returns-clause-log c =
    let has = rw (c.manager.ensures, c.in-Some.is) at c.in_ok-log.ensures.log in
    manager_log (contents_of c.args.files.now.each.items) c.args.files.now.until c.args.files.now.header c.args.manager c.in-Some.log c.requires.manager has
