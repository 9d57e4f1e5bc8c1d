use Rattle.std.proofs.Common.{◌≡◌, drop, map}
use Rattle.curp_msg.specs.Input.{Message}
use Rattle.curp_test_messages.specs.Runs.{state_after}
use Rattle.curp_test_messages.proofs.asker.give_all.Given as goal

-- the messages that are left lead to where all of them lead
abbrev pub invariant-loop-message : goal.invariant-loop-message
invariant-loop-message g l =
    state_after g.N.Core.machine l.node (map Message (drop l.message-index l.messages))
    ≡ state_after g.N.Core.machine l.fn.node (map Message l.messages)
