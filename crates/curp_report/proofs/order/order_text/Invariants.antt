use Rattle.std.proofs.Common.{◌≡◌, ◌++◌, drop, string_bytes}
use Rattle.std.specs.List.{flat_map}
use Rattle.curp_report.specs.Text.{entry_line, order_text}
use Rattle.curp_report.proofs.order.order_text.Given as goal

-- what is written, and the lines of the other entries, are the whole
abbrev pub invariant-loop-id : goal.invariant-loop-id
invariant-loop-id l = string_bytes l.text ++ flat_map entry_line (drop l.id-index l.order) ≡ order_text l.order
