use Rattle.curp_check.proofs.Verdicts.{tells_broken}
use Rattle.curp_check.proofs.judge.check.Goals as goal

pub returns-clause-no : goal.returns-clause-no
returns-clause-no c = λ clause.
    tells_broken c.args.claim.now.events c.args.claim.now.order c.verdict_of.result (rw (c.history.ensures.events, c.order.ensures) at c.verdict_of.ensures) clause
