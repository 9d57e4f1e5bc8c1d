use Rattle.std.proofs.Common.{◌≡◌, ◌∙◌, ap, rules, tests, not}
use Rattle.std.proofs.lemmas.Fn.{filter_same}
use Rattle.curp_cmd.specs.RequestId.{same_id}
use Rattle.curp_model.specs.Client.{Pending, without_id}
use Rattle.curp_client.proofs.Numbers.{rise_without}
use Rattle.curp_client.proofs.requests.Requests.remove.Goals as goal

pub invariant_of-self : goal.invariant_of-self
invariant_of-self c =
    let left : c.retain.new.self.items ≡ without_id c.args.id.now c.self.inside.items.items =
    filter_same _ (λ (p : Pending). not (same_id p.request.id c.args.id.now)) _ (λ x b f' k. search (rules, tests)) _ _ c.retain.ensures.filtered in
    rw left (rise_without c.self.inside.items.items c.args.id.now c.self.invariant)

pub returns : goal.returns
returns c =
    filter_same _ (λ (p : Pending). not (same_id p.request.id c.args.id.now)) _ (λ x b f' k. search (rules, tests)) _ _ c.retain.ensures.filtered
    ∙ ap (without_id c.args.id.now) c.self.view_is
