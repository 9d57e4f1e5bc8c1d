-- Made by examples/to_specs.py from examples/conflict.script and conflict.out: edit these, and make it again.
use Rattle.std.specs.Prelude.{true, [], ◌∷◌, codes}
use Rattle.curp_cmd.specs.declared.command.Command.TheVariants as command
use Rattle.curp_msg.specs.declared.script.Protocol.TheVariants.{One}
use Rattle.curp_msg.specs.declared.script.Step.TheVariants as step
use Rattle.curp_rows.specs.Example.{Example, lines}

-- conflict
abbrev pub conflict : Example
conflict = record {
  header = record { clients = 2; f = 1; fast = true; parts = 1; protocol = One; sets = 16; ways = 4 };
  steps =
      step.Invoke 1 (command.Put (codes "a") (codes "1"))
      ∷ step.Invoke 2 (command.Put (codes "a") (codes "2"))
      ∷ step.Deliver 2
      ∷ step.Deliver 4
      ∷ step.Deliver 1
      ∷ step.Deliver 3
      ∷ step.Deliver 6
      ∷ step.Deliver 9
      ∷ step.Deliver 8
      ∷ step.Deliver 11
      ∷ step.Deliver 12
      ∷ step.Deliver 7
      ∷ step.Deliver 5
      ∷ [];
  text = lines (
      "s1 done"
      ∷ "m1 C1 M1 update 1.1 f1 e1 v1 put 61 31"
      ∷ "m2 C1 W1 record 1.1 f1 e1 put 61 31"
      ∷ "s2 done"
      ∷ "m3 C2 M1 update 2.1 f1 e1 v1 put 61 32"
      ∷ "m4 C2 W1 record 2.1 f1 e1 put 61 32"
      ∷ "s3 done"
      ∷ "m5 W1 C1 accepted 1.1 e1"
      ∷ "s4 done"
      ∷ "m6 W1 C2 rejected 2.1 conflict 1.1"
      ∷ "s5 done"
      ∷ "m7 M1 C1 reply 1.1 unsynced e1 v1 done"
      ∷ "s6 done"
      ∷ "m8 M1 B1 append e1 b0 n2 r1"
      ∷ "s7 done"
      ∷ "m9 C2 M1 sync 2.1 f1 e1 v1 put 61 32"
      ∷ "s8 done"
      ∷ "m10 M1 C2 refuse 2.1 in-progress"
      ∷ "s9 done"
      ∷ "m11 B1 M1 stored e1 l2 r1"
      ∷ "s10 done"
      ∷ "m12 M1 C2 reply 2.1 synced e1 v1 done"
      ∷ "s11 done"
      ∷ "c 2.1 done"
      ∷ "s12 done"
      ∷ "s13 done"
      ∷ "c 1.1 done"
      ∷ "order 2"
      ∷ "1.1 put 61 31 -> done"
      ∷ "2.1 put 61 32 -> done"
      ∷ []);
}
