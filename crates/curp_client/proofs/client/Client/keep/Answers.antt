use Rattle.std.proofs.Common.{◌≤◌}
use Rattle.curp_client.proofs.Kept.{keep_moves}
use Rattle.curp_client.proofs.Numbers.{each_changed}
use Rattle.curp_client.specs.Evidence.{kept}
use Rattle.curp_client.proofs.client.Client.keep.Goals as goal

pub invariant_of-self-2 : goal.invariant_of-self-2
invariant_of-self-2 c = each_changed (λ n. n ≤ c.self.inside.last) c.self.inside.pending c.keep.new.self c.args.id.now (λ p. kept p c.args.evidence) c.in_ok-completed.ensures.ok c.self.invariant

pub returns : goal.returns
returns c = record {
  moves =
      keep_moves c.args.self.now _ _ _ c.keep.new.self c.args.id.now c.args.evidence c.in_ok-completed.completed c.complete_if.result c.self.view_is c.in_ok-completed.ensures.ok
      c.in_ok-completed.ensures.completes c.complete_if.ensures.moves;
}
