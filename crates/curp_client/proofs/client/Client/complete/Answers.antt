use Rattle.std.proofs.Common.{◌≤◌, not}
use Rattle.curp_cmd.specs.RequestId.{same_id}
use Rattle.curp_model.specs.Client.{Pending}
use Rattle.curp_client.proofs.client.Client.complete.Goals as goal
use Rattle.curp_base.proofs.Lists.{Each-filter}

pub invariant_of-self : goal.invariant_of-self
invariant_of-self c =
    rw c.remove.ensures (Each-filter (λ (p : Pending). p.request.id.seq ≤ c.self.inside.last) (λ (p : Pending). not (same_id p.request.id c.args.completed.id)) c.self.inside.pending c.self.invariant)
