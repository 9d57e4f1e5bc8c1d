use Rattle.std.proofs.Common.{◌≡◌, ◌+◌, ◌++◌, ◌≤◌, length, drop}
use Rattle.curp_model.specs.World.{op_marks}
use Rattle.curp_line.proofs.ops.add_ops.Given as goal

-- the marks so far and those of the entries that are left are all of them, and there is room
abbrev pub invariant-loop-at : goal.invariant-loop-at
invariant-loop-at l = record {
  marks : l.marks.marks ++ op_marks l.term.master l.term.part l.term.epoch l.at (drop l.at l.log.entries)
      ≡ l.fn.marks.marks ++ op_marks l.term.master l.term.part l.term.epoch l.index (drop l.index l.log.entries);
  room : length (drop l.at l.log.entries) ≤ l.marks.spare;
  ready : length (drop l.at l.log.entries) ≤ l.standby;
  spare : l.fn.marks.spare + length (drop l.at l.log.entries) ≤ l.marks.spare + length (drop l.index l.log.entries);
  used : l.fn.standby + length (drop l.at l.log.entries) ≤ l.standby + length (drop l.index l.log.entries);
}
