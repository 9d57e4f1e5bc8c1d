use Rattle.std.proofs.Common.{◌≡◌, length, map}
use Rattle.curp_base.specs.Words.{numbers_from}
use Rattle.curp_model.specs.World.{opening_master, shape_of}
use Rattle.curp_nodes.specs.Nodes.{HasNumbers, states}
use Rattle.curp_nodes.proofs.nodes.masters.Given as goal

-- so many are made, with their numbers
abbrev pub invariant-loop-part : goal.invariant-loop-part
invariant-loop-part l = record {
  states : states l.nodes.items ≡ map (opening_master (shape_of l.header)) (numbers_from 1 l.part-index);
  numbers : HasNumbers l.nodes.items;
  many : length l.nodes.items ≡ l.part-index;
}
