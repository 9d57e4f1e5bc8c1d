use Rattle.std.proofs.Common.{rules, [], append-nil, sym}
use Rattle.curp_seat.proofs.framed.message_of.Goals as goal

pub unreachable-requires : goal.unreachable-requires
unreachable-requires c =
    let only = c.decode.ensures.only c.requires.message c.args.frame.now [] c.requires.frame (sym (append-nil c.args.frame.now)) in
    search (rules, only)

pub returns-in-Ok : goal.returns-in-Ok
returns-in-Ok c = λ message frame.
    let only = c.decode.ensures.only message c.args.frame.now [] frame (sym (append-nil c.args.frame.now)) in
    search (rules, only)
