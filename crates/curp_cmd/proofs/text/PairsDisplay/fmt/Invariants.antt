use Rattle.std.proofs.Common.{take}
use Rattle.std.specs.List.{flat_map}
use Rattle.std.specs.Fmt.{HasWritten, IsPlainFormatter}
use Rattle.curp_cmd.specs.Text.{pair_text}
use Rattle.curp_cmd.proofs.text.PairsDisplay.fmt.Given as goal

-- the pairs so far are written
abbrev pub invariant-loop-key : goal.invariant-loop-key
invariant-loop-key g l =
    IsPlainFormatter l.initial.f → HasWritten g.W.Write.write_str_gives l.initial.f (flat_map pair_text (take l.key-index l.key-items)) l.f
