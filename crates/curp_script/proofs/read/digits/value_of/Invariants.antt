use Rattle.std.proofs.Common.{◌≡◌, ◌≤◌, ◌-◌, ◌^◌, take}
use Rattle.std.specs.Str.Parse.{digits_value, AllDigits}
use Rattle.curp_script.proofs.read.digits.value_of.Given as goal

abbrev pub invariant-loop-digit : goal.invariant-loop-digit
invariant-loop-digit l = record {
  digits : AllDigits 10 (take l.digit-index l.digits);
  value : l.number ≡ digits_value 10 (take l.digit-index l.digits);
  most : l.number ≤ 2 ^ 64 - 1;
}
