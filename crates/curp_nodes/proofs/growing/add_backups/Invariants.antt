use Rattle.std.proofs.Common.{◌≡◌, ◌≤◌, ◌+◌, length, vec_capacity}
use Rattle.curp_model.specs.Backup.{fresh_backup}
use Rattle.curp_model.specs.World.{grown}
use Rattle.curp_nodes.specs.Nodes.{HasNumbers, states}
use Rattle.curp_nodes.proofs.growing.add_backups.Given as goal

-- those below the number are there, and the room stays
abbrev pub invariant-loop-number : goal.invariant-loop-number
invariant-loop-number l = record {
  states : states l.backups.items ≡ grown (states l.fn.backups.items) fresh_backup l.number;
  numbers : HasNumbers l.backups.items;
  there : length l.backups.items + 1 ≡ l.number;
  below : l.number ≤ l.next;
  room : vec_capacity l.backups ≡ vec_capacity l.fn.backups;
}
