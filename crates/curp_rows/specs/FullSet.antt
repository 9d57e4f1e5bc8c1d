-- Made by examples/to_specs.py from examples/full-set.script and full-set.out: edit these, and make it again.
use Rattle.std.specs.Prelude.{true, [], ◌∷◌, codes}
use Rattle.curp_cmd.specs.declared.command.Command.TheVariants as command
use Rattle.curp_msg.specs.declared.script.Protocol.TheVariants.{One}
use Rattle.curp_msg.specs.declared.script.Step.TheVariants as step
use Rattle.curp_rows.specs.Example.{Example, lines}

-- full set
abbrev pub full_set : Example
full_set = record {
  header = record { clients = 2; f = 1; fast = true; parts = 1; protocol = One; sets = 1; ways = 1 };
  steps =
      step.Invoke 1 (command.Put (codes "a") (codes "1"))
      ∷ step.Invoke 1 (command.Put (codes "b") (codes "2"))
      ∷ step.Deliver 2
      ∷ step.Deliver 4
      ∷ [];
  text = lines (
      "s1 done"
      ∷ "m1 C1 M1 update 1.1 f1 e1 v1 put 61 31"
      ∷ "m2 C1 W1 record 1.1 f1 e1 put 61 31"
      ∷ "s2 done"
      ∷ "m3 C1 M1 update 1.2 f1 e1 v1 put 62 32"
      ∷ "m4 C1 W1 record 1.2 f1 e1 put 62 32"
      ∷ "s3 done"
      ∷ "m5 W1 C1 accepted 1.1 e1"
      ∷ "s4 done"
      ∷ "m6 W1 C1 rejected 1.2 full 0"
      ∷ "order 0"
      ∷ []);
}
