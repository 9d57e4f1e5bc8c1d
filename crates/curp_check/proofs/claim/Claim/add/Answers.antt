use Rattle.curp_check.proofs.Stages.{bad_id_exactly}
use Rattle.curp_check.proofs.claim.Claim.add.Goals as goal

pub returns-in-Event-clause-bad_id : goal.returns-in-Event-clause-bad_id
returns-in-Event-clause-bad_id c = λ e is empty. rw is (bad_id_exactly c.args.self.now e c.add_event.ensures.is_history empty)
