use Rattle.std.proofs.Common.{◌≡◌, length, take}
use Rattle.curp_cmd.specs.Hash.{hashes_of}
use Rattle.curp_cmd.specs.declared.command.Command.TheVariants.{Multi}
use Rattle.curp_cmd.proofs.hashes.Hashes.of_pairs.Given as goal

-- the hashes so far
abbrev pub invariant-loop-at : goal.invariant-loop-at
invariant-loop-at l = record {
  so_far : take l.at l.held ≡ hashes_of (Multi (take l.at l.pairs));
  size : length l.held ≡ 4;
}
