use Rattle.std.proofs.Common.{take}
use Rattle.std.specs.List.{flat_map}
use Rattle.std.specs.Fmt.{HasWritten, IsPlainFormatter}
use Rattle.curp_msg.specs.Text.{spaced_request}
use Rattle.curp_msg.proofs.text.lists.RequestsDisplay.fmt.Given as goal

-- the numbers so far are written
abbrev pub invariant-loop-request : goal.invariant-loop-request
invariant-loop-request g l =
    IsPlainFormatter l.initial.f → HasWritten g.W.Write.write_str_gives l.initial.f (flat_map spaced_request (take l.request-index l.request-items)) l.f
