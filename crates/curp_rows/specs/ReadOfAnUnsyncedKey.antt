-- Made by examples/to_specs.py from examples/read-of-an-unsynced-key.script and read-of-an-unsynced-key.out: edit these, and make it again.
use Rattle.std.specs.Prelude.{true, [], ◌∷◌, codes}
use Rattle.curp_cmd.specs.declared.command.Command.TheVariants as command
use Rattle.curp_msg.specs.declared.script.Protocol.TheVariants.{Two}
use Rattle.curp_msg.specs.declared.script.Step.TheVariants as step
use Rattle.curp_rows.specs.Example.{Example, lines}

-- read of an unsynced key
abbrev pub read_of_an_unsynced_key : Example
read_of_an_unsynced_key = record {
  header = record { clients = 2; f = 1; fast = true; parts = 1; protocol = Two; sets = 16; ways = 4 };
  steps =
      step.Invoke 1 (command.Put (codes "a") (codes "1"))
      ∷ step.Deliver 1
      ∷ step.Invoke 2 (command.Get (codes "a"))
      ∷ step.Deliver 4
      ∷ step.Deliver 6
      ∷ step.Deliver 7
      ∷ step.Deliver 8
      ∷ [];
  text = lines (
      "s1 done"
      ∷ "m1 C1 M1 update 1.1 f1 e1 v1 put 61 31"
      ∷ "m2 C1 W1 record 1.1 f1 e1 put 61 31"
      ∷ "s2 done"
      ∷ "m3 M1 C1 reply 1.1 unsynced e1 v1 done"
      ∷ "s3 done"
      ∷ "m4 C2 M1 glance 2.1 f1 e1 v1 get 61"
      ∷ "m5 C2 W1 probe 2.1 e1"
      ∷ "s4 done"
      ∷ "m6 M1 B1 append e1 b0 n1 r1"
      ∷ "s5 done"
      ∷ "m7 B1 M1 stored e1 l1 r1"
      ∷ "s6 done"
      ∷ "m8 M1 C2 value 2.1 e1 r1 found 31"
      ∷ "s7 done"
      ∷ "c 2.1 found 31"
      ∷ "order 2"
      ∷ "1.1 put 61 31 -> done"
      ∷ "2.1 get 61 -> found 31"
      ∷ []);
}
