use Rattle.std.proofs.Common.{◌≡◌, length, take}
use Rattle.curp_anew.specs.Opening.{AreTaken, all_handed_out}
use Rattle.curp_anew.proofs.Scans.{SoFar}
use Rattle.curp_anew.proofs.anew.all_anew.Given as goal

-- the journals of the nodes so far are made
abbrev pub invariant-loop-node : goal.invariant-loop-node
invariant-loop-node g l = record {
  place_is : l.place ≡ length l.yielded;
  same : AreTaken l.kind l.there l.fn.nodes.items l.fn.taken.items → l.logs.items ≡ all_handed_out l.there (take l.place l.fn.taken.items);
  so_far : SoFar l.kind l.there l.fn.nodes.items l.place l.logs.items;
}
