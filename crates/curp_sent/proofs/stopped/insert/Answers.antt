use Rattle.curp_sent.proofs.Inserting.{has-insert_key}
use Rattle.curp_sent.proofs.stopped.insert.Goals as goal

pub returns-clause-ok : goal.returns-clause-ok
returns-clause-ok c = λ n. rw c.in_ok-insert.ensures.keys (has-insert_key _ c.args.number n)
