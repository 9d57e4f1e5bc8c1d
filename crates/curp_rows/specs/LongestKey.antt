-- Made by examples/to_specs.py from examples/longest-key.script and longest-key.out: edit these, and make it again.
use Rattle.std.specs.Prelude.{true, [], ◌∷◌, codes}
use Rattle.curp_cmd.specs.declared.command.Command.TheVariants as command
use Rattle.curp_msg.specs.declared.script.Protocol.TheVariants.{One}
use Rattle.curp_msg.specs.declared.script.Step.TheVariants as step
use Rattle.curp_rows.specs.Example.{Example, lines}

-- longest key
abbrev pub longest_key : Example
longest_key = record {
  header = record { clients = 2; f = 1; fast = true; parts = 1; protocol = One; sets = 16; ways = 4 };
  steps =
      step.Invoke 1 (command.Put (codes "aaaaaaaaaaaaaaaaaaaaaaaaaaaaaaaa") (codes "1"))
      ∷ [];
  text = lines (
      "s1 done"
      ∷ "m1 C1 M1 update 1.1 f1 e1 v1 put 6161616161616161616161616161616161616161616161616161616161616161 31"
      ∷ "m2 C1 W1 record 1.1 f1 e1 put 6161616161616161616161616161616161616161616161616161616161616161 31"
      ∷ "order 0"
      ∷ []);
}
