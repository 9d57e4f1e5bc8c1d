-- Made by examples/to_specs.py from examples/retry-of-nothing.script and retry-of-nothing.out: edit these, and make it again.
use Rattle.std.specs.Prelude.{true, [], ◌∷◌}
use Rattle.curp_msg.specs.declared.script.Protocol.TheVariants.{One}
use Rattle.curp_msg.specs.declared.script.Step.TheVariants as step
use Rattle.curp_rows.specs.Example.{Example, lines}

-- retry of nothing
abbrev pub retry_of_nothing : Example
retry_of_nothing = record {
  header = record { clients = 2; f = 1; fast = true; parts = 1; protocol = One; sets = 16; ways = 4 };
  steps =
      step.Retry 1 1
      ∷ [];
  text = lines (
      "s1 refused call 1"
      ∷ "order 0"
      ∷ []);
}
