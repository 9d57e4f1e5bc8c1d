use Rattle.std.proofs.Common.{◌≡◌, ap, sym, subst, OnOk, IfOk}
use Rattle.curp_front.specs.Conversation.{wants}
use Rattle.curp_front.specs.Fronts.{after_taking_of, taken_of}
use Rattle.curp_front.proofs.Finding.{found_at, found_none}
use Rattle.curp_front.proofs.connections.take_command.Goals as goal

pub returns-in-Some-clause-command : goal.returns-in-Some-clause-command
returns-in-Some-clause-command c =
    let connections = c.args.connections.now.items in
    let f = found_at wants connections c.in-Some.at (rw c.deref.ensures.value at c.in-Some.ensures) in
    subst (λ o. IfOk c.take_command_at.result (λ given. given ≡ taken_of o)) (sym f.is) (c.take_command_at.ensures.command f.found f.stands)

pub returns-in-Some-clause-ok : goal.returns-in-Some-clause-ok
returns-in-Some-clause-ok c =
    let connections = c.args.connections.now.items in
    let f = found_at wants connections c.in-Some.at (rw c.deref.ensures.value at c.in-Some.ensures) in
    subst (λ o. OnOk c.take_command_at.result (c.take_command_at.new.connections.items ≡ after_taking_of connections o)) (sym f.is) (c.take_command_at.ensures.ok f.found f.stands)

pub returns-in-None-clause-command : goal.returns-in-None-clause-command
returns-in-None-clause-command c = sym (ap taken_of (found_none wants c.args.connections.now.items (rw c.deref.ensures.value at c.in-None.ensures)))

pub returns-in-None-clause-ok : goal.returns-in-None-clause-ok
returns-in-None-clause-ok c =
    let connections = c.args.connections.now.items in
    sym (ap (after_taking_of connections) (found_none wants connections (rw c.deref.ensures.value at c.in-None.ensures)))
