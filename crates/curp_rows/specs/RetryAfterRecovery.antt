-- Made by examples/to_specs.py from examples/retry-after-recovery.script and retry-after-recovery.out: edit these, and make it again.
use Rattle.std.specs.Prelude.{true, [], ◌∷◌, codes}
use Rattle.curp_cmd.specs.Node.{master_node}
use Rattle.curp_cmd.specs.declared.command.Command.TheVariants as command
use Rattle.curp_msg.specs.declared.script.Protocol.TheVariants.{One}
use Rattle.curp_msg.specs.declared.script.Step.TheVariants as step
use Rattle.curp_rows.specs.Example.{Example, lines}

-- retry after recovery
abbrev pub retry_after_recovery : Example
retry_after_recovery = record {
  header = record { clients = 2; f = 1; fast = true; parts = 1; protocol = One; sets = 16; ways = 4 };
  steps =
      step.Invoke 1 (command.Incr (codes "n"))
      ∷ step.Deliver 1
      ∷ step.Deliver 2
      ∷ step.Deliver 3
      ∷ step.Deliver 4
      ∷ step.Invoke 1 (command.Incr (codes "n"))
      ∷ step.Deliver 5
      ∷ step.Stop (master_node 1)
      ∷ step.Recover 1 1 1
      ∷ step.Deliver 10
      ∷ step.Deliver 11
      ∷ step.Deliver 12
      ∷ step.Deliver 13
      ∷ step.Deliver 14
      ∷ step.Deliver 8
      ∷ step.Deliver 15
      ∷ step.Deliver 16
      ∷ step.Deliver 17
      ∷ step.Deliver 18
      ∷ step.Deliver 9
      ∷ step.Fetch 1
      ∷ step.Deliver 19
      ∷ step.Deliver 20
      ∷ step.Retry 1 2
      ∷ step.Deliver 21
      ∷ step.Deliver 22
      ∷ step.Deliver 23
      ∷ step.Deliver 24
      ∷ [];
  text = lines (
      "s1 done"
      ∷ "m1 C1 M1 update 1.1 f1 e1 v1 incr 6e"
      ∷ "m2 C1 W1 record 1.1 f1 e1 incr 6e"
      ∷ "s2 done"
      ∷ "m3 M1 C1 reply 1.1 unsynced e1 v1 number 1"
      ∷ "s3 done"
      ∷ "m4 W1 C1 accepted 1.1 e1"
      ∷ "s4 done"
      ∷ "s5 done"
      ∷ "c 1.1 number 1"
      ∷ "s6 done"
      ∷ "m5 C1 M1 update 1.2 f2 e1 v1 incr 6e"
      ∷ "m6 C1 W1 record 1.2 f2 e1 incr 6e"
      ∷ "s7 done"
      ∷ "m7 M1 B1 append e1 b0 n2 r1"
      ∷ "s8 done"
      ∷ "s9 done"
      ∷ "m8 G B2 install e2"
      ∷ "m9 G W2 start p1 e2"
      ∷ "m10 G M2 recover p1 e2 v2 B1 W1 B2 W2"
      ∷ "s10 done"
      ∷ "m11 M2 B1 fence e2"
      ∷ "m12 M2 W1 freeze e2"
      ∷ "s11 done"
      ∷ "m13 B1 M2 log e2 n0"
      ∷ "s12 done"
      ∷ "m14 W1 M2 frozen 1.1"
      ∷ "s13 done"
      ∷ "s14 done"
      ∷ "m15 M2 B2 append e2 b0 n1 r1"
      ∷ "s15 done"
      ∷ "s16 done"
      ∷ "m16 B2 M2 stored e2 l1 r1"
      ∷ "s17 done"
      ∷ "m17 M2 G recovered p1 e2"
      ∷ "s18 done"
      ∷ "m18 G M2 adopted p1 e2 v2"
      ∷ "s19 done"
      ∷ "s20 done"
      ∷ "s21 done"
      ∷ "m19 C1 G fetch"
      ∷ "s22 done"
      ∷ "m20 G C1 config s2 1=e2,v2,M2,B2,W2,0000000000000000-ffffffffffffffff"
      ∷ "s23 done"
      ∷ "s24 done"
      ∷ "m21 C1 M2 update 1.2 f2 e2 v2 incr 6e"
      ∷ "m22 C1 W2 record 1.2 f2 e2 incr 6e"
      ∷ "s25 done"
      ∷ "m23 M2 C1 reply 1.2 unsynced e2 v2 number 2"
      ∷ "s26 done"
      ∷ "m24 W2 C1 accepted 1.2 e2"
      ∷ "s27 done"
      ∷ "s28 done"
      ∷ "c 1.2 number 2"
      ∷ "order 2"
      ∷ "1.1 incr 6e -> number 1"
      ∷ "1.2 incr 6e -> number 2"
      ∷ []);
}
