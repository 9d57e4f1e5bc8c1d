-- Made by examples/to_specs.py from examples/update-delivered-often.script and update-delivered-often.out: edit these, and make it again.
use Rattle.std.specs.Prelude.{true, [], ◌∷◌, codes}
use Rattle.curp_cmd.specs.declared.command.Command.TheVariants as command
use Rattle.curp_msg.specs.declared.script.Protocol.TheVariants.{One}
use Rattle.curp_msg.specs.declared.script.Step.TheVariants as step
use Rattle.curp_rows.specs.Example.{Example, lines}

-- update delivered often
abbrev pub update_delivered_often : Example
update_delivered_often = record {
  header = record { clients = 2; f = 1; fast = true; parts = 1; protocol = One; sets = 16; ways = 4 };
  steps =
      step.Invoke 1 (command.Put (codes "a") (codes "1"))
      ∷ step.Deliver 1
      ∷ step.Deliver 1
      ∷ step.Deliver 2
      ∷ step.Deliver 3
      ∷ step.Deliver 5
      ∷ step.Deliver 1
      ∷ step.Deliver 1
      ∷ step.Invoke 1 (command.Put (codes "b") (codes "2"))
      ∷ step.Deliver 8
      ∷ step.Deliver 1
      ∷ [];
  text = lines (
      "s1 done"
      ∷ "m1 C1 M1 update 1.1 f1 e1 v1 put 61 31"
      ∷ "m2 C1 W1 record 1.1 f1 e1 put 61 31"
      ∷ "s2 done"
      ∷ "m3 M1 C1 reply 1.1 unsynced e1 v1 done"
      ∷ "s3 done"
      ∷ "m4 M1 C1 reply 1.1 unsynced e1 v1 done"
      ∷ "s4 done"
      ∷ "m5 W1 C1 accepted 1.1 e1"
      ∷ "s5 done"
      ∷ "s6 done"
      ∷ "c 1.1 done"
      ∷ "s7 done"
      ∷ "m6 M1 C1 reply 1.1 unsynced e1 v1 done"
      ∷ "s8 done"
      ∷ "m7 M1 C1 reply 1.1 unsynced e1 v1 done"
      ∷ "s9 done"
      ∷ "m8 C1 M1 update 1.2 f2 e1 v1 put 62 32"
      ∷ "m9 C1 W1 record 1.2 f2 e1 put 62 32"
      ∷ "s10 done"
      ∷ "m10 M1 C1 reply 1.2 unsynced e1 v1 done"
      ∷ "s11 done"
      ∷ "m11 M1 C1 refuse 1.1 stale f2"
      ∷ "order 2"
      ∷ "1.1 put 61 31 -> done"
      ∷ "1.2 put 62 32 -> done"
      ∷ []);
}
