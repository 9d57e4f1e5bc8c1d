use Rattle.std.proofs.Common.{◌≡◌, ◌+◌, ap, sym, ◌∙◌}
use Rattle.curp_cmd.specs.declared.command.Request.{Request}
use Rattle.curp_model.specs.Client as model
use Rattle.curp_msg.specs.Moved.{Node}
use Rattle.curp_client.proofs.Orders.{used_next}
use Rattle.curp_client.proofs.client.Client.invoke.Goals as goal

-- the new request's number is the next one
pub invariant_of-self-2 : goal.invariant_of-self-2
invariant_of-self-2 c =
    let before : model.ClientState = record { fast = c.self.inside.fast; protocol = c.self.inside.protocol; config = c.self.inside.config; last = c.self.inside.last; pending = c.self.inside.pending } in
    let own = ap (λ (p : model.Pending). p.request.id.seq) c.in_ok-pending.ensures ∙ ap (λ (r : Request). r.id.seq) c.in_ok-shared.ensures in
    let next = ap (λ (r : Request). r.id.seq) c.next_request-request.ensures ∙ ap (λ (node : Node model.ClientState). node.state.last + 1) (sym c.self.view_is) in
    used_next before c.in_ok-pending.pending c.push.new.self c.next_request-request.result.id.seq c.self.invariant own next c.in_ok-push.ensures.ok
