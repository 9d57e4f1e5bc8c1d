use Rattle.std.proofs.Common.{◌≡◌, ap, sym, subst, OnOk, IfOk}
use Rattle.curp_front.specs.Conversation.{said_by, speaks}
use Rattle.curp_front.specs.Fronts.{changed_at, passed_by, told_of}
use Rattle.curp_front.proofs.Finding.{found_at, found_none}
use Rattle.curp_front.proofs.connections.take_output.Goals as goal

pub returns-in-Some-clause-output : goal.returns-in-Some-clause-output
returns-in-Some-clause-output c =
    let connections = c.args.connections.now.items in
    let f = found_at speaks connections c.in-Some.at (rw c.deref.ensures.value at c.in-Some.ensures) in
    subst (λ o. IfOk c.take_output_at.result (λ output. output ≡ told_of o)) (sym f.is) (c.take_output_at.ensures.output f.found f.stands)

pub returns-in-Some-clause-ok : goal.returns-in-Some-clause-ok
returns-in-Some-clause-ok c =
    let connections = c.args.connections.now.items in
    let f = found_at speaks connections c.in-Some.at (rw c.deref.ensures.value at c.in-Some.ensures) in
    subst (λ o. OnOk c.take_output_at.result (c.take_output_at.new.connections.items ≡ changed_at (λ x. passed_by (said_by x) x) connections o)) (sym f.is)
    (c.take_output_at.ensures.ok f.found f.stands)

pub returns-in-None-clause-output : goal.returns-in-None-clause-output
returns-in-None-clause-output c = sym (ap told_of (found_none speaks c.args.connections.now.items (rw c.deref.ensures.value at c.in-None.ensures)))

pub returns-in-None-clause-ok : goal.returns-in-None-clause-ok
returns-in-None-clause-ok c =
    let connections = c.args.connections.now.items in
    sym (ap (changed_at (λ x. passed_by (said_by x) x) connections) (found_none speaks connections (rw c.deref.ensures.value at c.in-None.ensures)))
