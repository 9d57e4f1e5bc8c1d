use Rattle.std.proofs.Common.{◌≡◌, ◌≤◌, ◌++◌, length, take, option_map}
use Rattle.curp_script.specs.Digits.{bytes_of}
use Rattle.curp_script.proofs.read.digits.decode.Given as goal

abbrev pub invariant-pairs : goal.invariant-pairs
invariant-pairs l = record {
  within : l.len ≤ length l.buffer;
  size : length l.buffer ≡ length l.fn.buffer;
  left : bytes_of l.fn.text ≡ option_map (λ more. take l.len l.buffer ++ more) (bytes_of l.digits);
}

abbrev pub decreases-pairs : goal.decreases-pairs
decreases-pairs l = length l.digits
