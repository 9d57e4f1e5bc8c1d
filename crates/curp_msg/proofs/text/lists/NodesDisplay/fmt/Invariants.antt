use Rattle.std.proofs.Common.{take, codes, ◌++◌}
use Rattle.std.specs.List.{flat_map}
use Rattle.std.specs.Fmt.{HasWritten, IsPlainFormatter}
use Rattle.curp_cmd.specs.Text.{node_label}
use Rattle.curp_msg.proofs.text.lists.NodesDisplay.fmt.Given as goal

-- of the nodes behind the first one those so far are written
abbrev pub invariant-loop-node : goal.invariant-loop-node
invariant-loop-node g l =
    IsPlainFormatter l.initial.f → HasWritten g.W.Write.write_str_gives l.initial.f (flat_map (λ node. codes "+" ++ node_label node) (take l.node-index l.others)) l.f
