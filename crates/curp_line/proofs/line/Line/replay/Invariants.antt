use Rattle.std.proofs.Common.{◌≡◌, ◌+◌, ◌≤◌, drop, length}
use Rattle.curp_model.specs.Marks.{replayed_marks}
use Rattle.curp_line.proofs.line.Line.replay.Given as goal

-- the marks of the requests that are left make them those of all, and there is room for them
abbrev pub invariant-loop-at : goal.invariant-loop-at
invariant-loop-at l = record {
  marks : replayed_marks l.term.master l.term.part l.term.epoch (l.cut + l.at) (drop l.at l.replayed) l.self.marks ≡ replayed_marks l.term.master l.term.part l.term.epoch l.cut l.replayed l.fn.self.marks;
  spare : l.fn.self.spare ≤ l.self.spare + l.at;
  ready : length l.replayed ≤ l.standby + l.at;
}
