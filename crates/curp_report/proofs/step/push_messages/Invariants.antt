use Rattle.std.proofs.Common.{◌≡◌, ◌+◌, ◌++◌, drop, string_bytes}
use Rattle.curp_report.specs.Text.{message_lines}
use Rattle.curp_report.proofs.step.push_messages.Given as goal

-- what is written, and the lines of the other messages, are the whole
abbrev pub invariant-loop-index : goal.invariant-loop-index
invariant-loop-index l =
    string_bytes l.text ++ message_lines (l.first + l.index) (drop l.index l.sent) ≡ string_bytes l.fn.text ++ message_lines l.first l.sent
