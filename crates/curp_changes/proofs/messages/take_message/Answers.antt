use Rattle.std.proofs.Common.{◌≤◌, ap, ◌∙◌}
use Rattle.std.proofs.Math.Bridge.{le_prop}
use Rattle.curp_msg.specs.declared.message.Message.{Message}
use Rattle.curp_model.specs.Manager.{Migration, take_message}
use Rattle.curp_changes.proofs.messages.take_message.Goals as goal

pub returns : goal.returns
returns c =
    let m = c.migration.inside in
    let to : m.lo ≤ m.hi → Message = λ (o : m.lo ≤ m.hi). take_message c.args.owner.now m.number (record { lo = m.lo; hi = m.hi; ordered = o }) in
    c.says.ensures ∙ ap to (le_prop _ m.ordered) ∙ ap (λ (n : Migration). take_message c.args.owner.now n.number n.range) c.migration.view_is
