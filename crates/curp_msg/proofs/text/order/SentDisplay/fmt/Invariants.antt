use Rattle.std.proofs.Common.{take}
use Rattle.std.specs.List.{flat_map}
use Rattle.std.specs.Fmt.{HasWritten, IsPlainFormatter}
use Rattle.curp_msg.specs.Text.{sent_text}
use Rattle.curp_msg.proofs.text.order.SentDisplay.fmt.Given as goal

-- the messages so far are written
abbrev pub invariant-loop-message : goal.invariant-loop-message
invariant-loop-message g l =
    IsPlainFormatter l.initial.f → HasWritten g.W.Write.write_str_gives l.initial.f (flat_map sent_text (take l.message-index l.message-items)) l.f
