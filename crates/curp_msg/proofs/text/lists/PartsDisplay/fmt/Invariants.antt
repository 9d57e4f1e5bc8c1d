use Rattle.std.proofs.Common.{take}
use Rattle.std.specs.List.{flat_map}
use Rattle.std.specs.Fmt.{HasWritten, IsPlainFormatter}
use Rattle.curp_msg.specs.Text.{spaced_part}
use Rattle.curp_msg.proofs.text.lists.PartsDisplay.fmt.Given as goal

-- the partitions so far are written
abbrev pub invariant-loop-part : goal.invariant-loop-part
invariant-loop-part g l =
    IsPlainFormatter l.initial.f → HasWritten g.W.Write.write_str_gives l.initial.f (flat_map spaced_part (take l.part-index l.part-items)) l.f
