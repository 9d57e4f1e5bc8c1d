-- Made by examples/to_specs.py from examples/no-message.script and no-message.out: edit these, and make it again.
use Rattle.std.specs.Prelude.{true, [], ◌∷◌}
use Rattle.curp_msg.specs.declared.script.Protocol.TheVariants.{One}
use Rattle.curp_msg.specs.declared.script.Step.TheVariants as step
use Rattle.curp_rows.specs.Example.{Example, lines}

-- no message
abbrev pub no_message : Example
no_message = record {
  header = record { clients = 2; f = 1; fast = true; parts = 1; protocol = One; sets = 16; ways = 4 };
  steps =
      step.Deliver 9
      ∷ [];
  text = lines (
      "s1 refused no-message"
      ∷ "order 0"
      ∷ []);
}
