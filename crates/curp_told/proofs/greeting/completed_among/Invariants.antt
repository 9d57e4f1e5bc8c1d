use Rattle.std.proofs.Common.{◌≡◌, length, take}
use Rattle.curp_told.specs.Marks.{AreMarks}
use Rattle.curp_told.proofs.greeting.completed_among.Given as goal

abbrev pub invariant-loop-item : goal.invariant-loop-item
invariant-loop-item l = record {
  many : length l.marks.items ≡ l.count;
  marks : AreMarks l.client (take l.item-index l.items) l.marks.items;
}
