-- Made by examples/to_specs.py from examples/recovery-replays.script and recovery-replays.out: edit these, and make it again.
use Rattle.std.specs.Prelude.{true, [], ◌∷◌, codes}
use Rattle.curp_cmd.specs.Node.{master_node}
use Rattle.curp_cmd.specs.declared.command.Command.TheVariants as command
use Rattle.curp_msg.specs.declared.script.Protocol.TheVariants.{One}
use Rattle.curp_msg.specs.declared.script.Step.TheVariants as step
use Rattle.curp_rows.specs.Example.{Example, lines}

-- recovery replays
abbrev pub recovery_replays : Example
recovery_replays = record {
  header = record { clients = 2; f = 1; fast = true; parts = 1; protocol = One; sets = 16; ways = 4 };
  steps =
      step.Invoke 1 (command.Put (codes "b") (codes "1"))
      ∷ step.Deliver 1
      ∷ step.Deliver 2
      ∷ step.Deliver 3
      ∷ step.Deliver 4
      ∷ step.Invoke 1 (command.Put (codes "c") (codes "2"))
      ∷ step.Deliver 5
      ∷ step.Deliver 6
      ∷ step.Deliver 7
      ∷ step.Deliver 8
      ∷ step.Stop (master_node 1)
      ∷ step.Recover 1 1 1
      ∷ step.Deliver 11
      ∷ step.Deliver 12
      ∷ step.Deliver 13
      ∷ step.Deliver 14
      ∷ step.Deliver 15
      ∷ step.Deliver 9
      ∷ step.Deliver 16
      ∷ step.Deliver 17
      ∷ step.Deliver 18
      ∷ [];
  text = lines (
      "s1 done"
      ∷ "m1 C1 M1 update 1.1 f1 e1 v1 put 62 31"
      ∷ "m2 C1 W1 record 1.1 f1 e1 put 62 31"
      ∷ "s2 done"
      ∷ "m3 M1 C1 reply 1.1 unsynced e1 v1 done"
      ∷ "s3 done"
      ∷ "m4 W1 C1 accepted 1.1 e1"
      ∷ "s4 done"
      ∷ "s5 done"
      ∷ "c 1.1 done"
      ∷ "s6 done"
      ∷ "m5 C1 M1 update 1.2 f2 e1 v1 put 63 32"
      ∷ "m6 C1 W1 record 1.2 f2 e1 put 63 32"
      ∷ "s7 done"
      ∷ "m7 M1 C1 reply 1.2 unsynced e1 v1 done"
      ∷ "s8 done"
      ∷ "m8 W1 C1 accepted 1.2 e1"
      ∷ "s9 done"
      ∷ "s10 done"
      ∷ "c 1.2 done"
      ∷ "s11 done"
      ∷ "s12 done"
      ∷ "m9 G B2 install e2"
      ∷ "m10 G W2 start p1 e2"
      ∷ "m11 G M2 recover p1 e2 v2 B1 W1 B2 W2"
      ∷ "s13 done"
      ∷ "m12 M2 B1 fence e2"
      ∷ "m13 M2 W1 freeze e2"
      ∷ "s14 done"
      ∷ "m14 B1 M2 log e2 n0"
      ∷ "s15 done"
      ∷ "m15 W1 M2 frozen 1.2 1.1"
      ∷ "s16 done"
      ∷ "s17 done"
      ∷ "m16 M2 B2 append e2 b0 n2 r1"
      ∷ "s18 done"
      ∷ "s19 done"
      ∷ "m17 B2 M2 stored e2 l2 r1"
      ∷ "s20 done"
      ∷ "m18 M2 G recovered p1 e2"
      ∷ "s21 done"
      ∷ "m19 G M2 adopted p1 e2 v2"
      ∷ "order 2"
      ∷ "1.1 put 62 31 -> done"
      ∷ "1.2 put 63 32 -> done"
      ∷ []);
}
