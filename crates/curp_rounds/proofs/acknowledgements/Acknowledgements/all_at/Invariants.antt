use Rattle.std.proofs.Common.{◌≡◌, map, take}
use Rattle.curp_cmd.specs.declared.node.NodeId.{NodeId}
use Rattle.curp_rounds.proofs.acknowledgements.Acknowledgements.all_at.Given as goal

-- those of the backups so far
abbrev pub invariant-loop-backup : goal.invariant-loop-backup
invariant-loop-backup l = l.all ≡ map (λ (b : NodeId). record { backup = b; length = l.long; round = l.round }) (take l.backup-index l.backups)
