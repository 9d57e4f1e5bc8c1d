use Rattle.std.proofs.Common.{◌≤◌, true}
use Rattle.curp_client.proofs.Numbers.{each_changed}
use Rattle.curp_client.proofs.client.Client.ask.Goals as goal

pub invariant_of-self : goal.invariant_of-self
invariant_of-self c = each_changed (λ n. n ≤ c.self.inside.last) c.self.inside.pending c.ask.new.self c.args.id.now (λ p. record p { asked = true }) c.ask.ensures c.self.invariant
