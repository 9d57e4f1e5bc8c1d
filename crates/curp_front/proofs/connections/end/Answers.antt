use Rattle.std.proofs.Common.{ap, sym, ◌∙◌}
use Rattle.curp_front.specs.Conversation.{gone, has_number}
use Rattle.curp_front.specs.Fronts.{changed_at, kept}
use Rattle.curp_front.proofs.Finding.{found_at, found_none}
use Rattle.curp_front.proofs.connections.end.Goals as goal

pub returns-in-Some : goal.returns-in-Some
returns-in-Some c =
    let connections = c.args.connections.now.items in
    let f = found_at (has_number c.args.number) connections c.in-Some.at (rw c.deref.ensures.value at c.in-Some.ensures) in
    c.end_at.ensures f.found f.stands ∙ sym (ap (changed_at (λ x. kept (gone x)) connections) f.is)

pub returns-in_default : goal.returns-in_default
returns-in_default c =
    let connections = c.args.connections.now.items in
    sym (ap (changed_at (λ x. kept (gone x)) connections) (found_none (has_number c.args.number) connections (rw c.deref.ensures.value at c.in_default.ensures)))
