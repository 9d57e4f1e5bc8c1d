use Rattle.std.proofs.Common.{sym, ◌∙◌}
use Rattle.curp_front.specs.Conversation.{is_given}
use Rattle.curp_front.proofs.Finding.{found_at, found_none, set_there}
use Rattle.curp_front.proofs.Settling.{settled_found, settled_none}
use Rattle.curp_front.proofs.connection.settle_first.Goals as goal

pub returns-in-Some : goal.returns-in-Some
returns-in-Some c =
    let f = found_at is_given c.args.due.now c.in-Some.at c.in-Some.ensures in
    set_there c.args.due.now c.in-Some.at f.found f.stands c.args.new.now ∙ sym (settled_found c.args.new.now c.args.due.now f.found f.is)

pub returns-in_default : goal.returns-in_default
returns-in_default c = sym (settled_none c.args.new.now c.args.due.now (found_none is_given c.args.due.now c.in_default.ensures))
