-- Made by examples/to_specs.py from examples/one-put.script and one-put.out: edit these, and make it again.
use Rattle.std.specs.Prelude.{true, [], ◌∷◌, codes}
use Rattle.curp_cmd.specs.declared.command.Command.TheVariants as command
use Rattle.curp_msg.specs.declared.script.Protocol.TheVariants.{One}
use Rattle.curp_msg.specs.declared.script.Step.TheVariants as step
use Rattle.curp_rows.specs.Example.{Example, lines}

-- one put
abbrev pub one_put : Example
one_put = record {
  header = record { clients = 2; f = 1; fast = true; parts = 1; protocol = One; sets = 16; ways = 4 };
  steps =
      step.Invoke 1 (command.Put (codes "a") (codes "1"))
      ∷ step.Deliver 1
      ∷ step.Deliver 2
      ∷ step.Deliver 3
      ∷ step.Deliver 4
      ∷ [];
  text = lines (
      "s1 done"
      ∷ "m1 C1 M1 update 1.1 f1 e1 v1 put 61 31"
      ∷ "m2 C1 W1 record 1.1 f1 e1 put 61 31"
      ∷ "s2 done"
      ∷ "m3 M1 C1 reply 1.1 unsynced e1 v1 done"
      ∷ "s3 done"
      ∷ "m4 W1 C1 accepted 1.1 e1"
      ∷ "s4 done"
      ∷ "s5 done"
      ∷ "c 1.1 done"
      ∷ "order 1"
      ∷ "1.1 put 61 31 -> done"
      ∷ []);
}
