use Rattle.std.proofs.Common.{◌≡◌, ◌≤◌, ◌++◌, length, take, option_map}
use Rattle.curp_script.specs.Digits.{by_twos}
use Rattle.curp_script.specs.Values.{value_pair}
use Rattle.curp_script.proofs.read.command.pairs_of.Given as goal

abbrev pub invariant-pairs : goal.invariant-pairs
invariant-pairs l = record {
  within : l.count ≤ length l.buffer;
  size : length l.buffer ≡ length l.fn.buffer;
  left : by_twos value_pair l.fn.parts ≡ option_map (λ more. take l.count l.buffer ++ more) (by_twos value_pair l.rest);
}

abbrev pub decreases-pairs : goal.decreases-pairs
decreases-pairs l = length l.rest
