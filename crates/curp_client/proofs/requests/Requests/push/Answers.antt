use Rattle.curp_client.proofs.Numbers.{rise_pushed}
use Rattle.curp_client.proofs.requests.Requests.push.Goals as goal

pub invariant_of-self-2 : goal.invariant_of-self-2
invariant_of-self-2 c = rw c.in_ok-push.ensures.items (rise_pushed c.self.inside.items.items c.args.pending c.self.invariant (rw (c.self.view_is) c.requires))
