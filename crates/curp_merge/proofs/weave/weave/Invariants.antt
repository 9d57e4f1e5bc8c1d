use Rattle.std.proofs.Common.{◌≡◌, length}
use Rattle.curp_merge.specs.Weaving.{Woven, turns_left}
use Rattle.curp_merge.proofs.weave.weave.Given as goal

abbrev pub invariant-loop-at : goal.invariant-loop-at
invariant-loop-at l = record {
  lengths : length l.tracks.items ≡ length l.strands;
  woven : Woven l.strands l.tracks.items l.steps.items l.next;
}

abbrev pub decreases-loop-at : goal.decreases-loop-at
decreases-loop-at l = turns_left l.strands l.tracks.items
