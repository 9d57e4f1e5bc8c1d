-- Made by examples/to_specs.py from examples/three-witnesses.script and three-witnesses.out: edit these, and make it again.
use Rattle.std.specs.Prelude.{true, [], ◌∷◌, codes}
use Rattle.curp_cmd.specs.declared.command.Command.TheVariants as command
use Rattle.curp_msg.specs.declared.script.Protocol.TheVariants.{One}
use Rattle.curp_msg.specs.declared.script.Step.TheVariants as step
use Rattle.curp_rows.specs.Example.{Example, lines}

-- three witnesses
abbrev pub three_witnesses : Example
three_witnesses = record {
  header = record { clients = 2; f = 3; fast = true; parts = 1; protocol = One; sets = 16; ways = 4 };
  steps =
      step.Invoke 1 (command.Put (codes "a") (codes "1"))
      ∷ step.Deliver 1
      ∷ step.Deliver 2
      ∷ step.Deliver 3
      ∷ step.Deliver 4
      ∷ step.Deliver 5
      ∷ step.Deliver 6
      ∷ step.Deliver 7
      ∷ step.Deliver 8
      ∷ [];
  text = lines (
      "s1 done"
      ∷ "m1 C1 M1 update 1.1 f1 e1 v1 put 61 31"
      ∷ "m2 C1 W1 record 1.1 f1 e1 put 61 31"
      ∷ "m3 C1 W2 record 1.1 f1 e1 put 61 31"
      ∷ "m4 C1 W3 record 1.1 f1 e1 put 61 31"
      ∷ "s2 done"
      ∷ "m5 M1 C1 reply 1.1 unsynced e1 v1 done"
      ∷ "s3 done"
      ∷ "m6 W1 C1 accepted 1.1 e1"
      ∷ "s4 done"
      ∷ "m7 W2 C1 accepted 1.1 e1"
      ∷ "s5 done"
      ∷ "m8 W3 C1 accepted 1.1 e1"
      ∷ "s6 done"
      ∷ "s7 done"
      ∷ "s8 done"
      ∷ "s9 done"
      ∷ "c 1.1 done"
      ∷ "order 1"
      ∷ "1.1 put 61 31 -> done"
      ∷ []);
}
