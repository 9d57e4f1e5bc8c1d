use Rattle.std.proofs.Common.{drop}
use Rattle.curp_cmd.specs.Hash.{hashes}
use Rattle.curp_tail.proofs.Tails.{touches_alike, dirty_from, covers_from}
use Rattle.curp_tail.proofs.laws.tail_tells_of_log.Goals as goal

pub returns : goal.returns
returns c = record {
  entry = touches_alike;
  hash = λ log synced hash. dirty_from synced (drop synced log) hash;
  command = λ log synced command. covers_from synced (drop synced log) (hashes command);
}
