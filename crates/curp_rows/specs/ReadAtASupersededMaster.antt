-- Made by examples/to_specs.py from examples/read-at-a-superseded-master.script and read-at-a-superseded-master.out: edit these, and make it again.
use Rattle.std.specs.Prelude.{true, [], ◌∷◌, codes}
use Rattle.curp_cmd.specs.declared.command.Command.TheVariants as command
use Rattle.curp_msg.specs.declared.script.Protocol.TheVariants.{One}
use Rattle.curp_msg.specs.declared.script.Step.TheVariants as step
use Rattle.curp_rows.specs.Example.{Example, lines}

-- read at a superseded master
abbrev pub read_at_a_superseded_master : Example
read_at_a_superseded_master = record {
  header = record { clients = 2; f = 1; fast = true; parts = 1; protocol = One; sets = 16; ways = 4 };
  steps =
      step.Invoke 1 (command.Put (codes "a") (codes "1"))
      ∷ step.Deliver 1
      ∷ step.Sync 1
      ∷ step.Deliver 4
      ∷ step.Deliver 5
      ∷ step.Deliver 2
      ∷ step.Deliver 3
      ∷ step.Deliver 6
      ∷ step.Recover 1 1 1
      ∷ step.Deliver 9
      ∷ step.Deliver 10
      ∷ step.Deliver 11
      ∷ step.Deliver 12
      ∷ step.Deliver 13
      ∷ step.Deliver 7
      ∷ step.Deliver 14
      ∷ step.Deliver 15
      ∷ step.Deliver 16
      ∷ step.Deliver 17
      ∷ step.Deliver 8
      ∷ step.Fetch 2
      ∷ step.Deliver 18
      ∷ step.Deliver 19
      ∷ step.Invoke 2 (command.Put (codes "a") (codes "2"))
      ∷ step.Deliver 20
      ∷ step.Deliver 21
      ∷ step.Deliver 22
      ∷ step.Deliver 23
      ∷ step.Invoke 1 (command.Get (codes "a"))
      ∷ step.Deliver 24
      ∷ step.Deliver 25
      ∷ step.Deliver 26
      ∷ step.Fetch 1
      ∷ step.Deliver 27
      ∷ step.Deliver 28
      ∷ step.Retry 1 2
      ∷ step.Deliver 29
      ∷ step.Deliver 30
      ∷ step.Deliver 31
      ∷ step.Deliver 32
      ∷ [];
  text = lines (
      "s1 done"
      ∷ "m1 C1 M1 update 1.1 f1 e1 v1 put 61 31"
      ∷ "m2 C1 W1 record 1.1 f1 e1 put 61 31"
      ∷ "s2 done"
      ∷ "m3 M1 C1 reply 1.1 unsynced e1 v1 done"
      ∷ "s3 done"
      ∷ "m4 M1 B1 append e1 b0 n1 r1"
      ∷ "s4 done"
      ∷ "m5 B1 M1 stored e1 l1 r1"
      ∷ "s5 done"
      ∷ "s6 done"
      ∷ "m6 W1 C1 accepted 1.1 e1"
      ∷ "s7 done"
      ∷ "s8 done"
      ∷ "c 1.1 done"
      ∷ "s9 done"
      ∷ "m7 G B2 install e2"
      ∷ "m8 G W2 start p1 e2"
      ∷ "m9 G M2 recover p1 e2 v2 B1 W1 B2 W2"
      ∷ "s10 done"
      ∷ "m10 M2 B1 fence e2"
      ∷ "m11 M2 W1 freeze e2"
      ∷ "s11 done"
      ∷ "m12 B1 M2 log e2 n1"
      ∷ "s12 done"
      ∷ "m13 W1 M2 frozen 1.1"
      ∷ "s13 done"
      ∷ "s14 done"
      ∷ "m14 M2 B2 append e2 b0 n1 r1"
      ∷ "s15 done"
      ∷ "s16 done"
      ∷ "m15 B2 M2 stored e2 l1 r1"
      ∷ "s17 done"
      ∷ "m16 M2 G recovered p1 e2"
      ∷ "s18 done"
      ∷ "m17 G M2 adopted p1 e2 v2"
      ∷ "s19 done"
      ∷ "s20 done"
      ∷ "s21 done"
      ∷ "m18 C2 G fetch"
      ∷ "s22 done"
      ∷ "m19 G C2 config s2 1=e2,v2,M2,B2,W2,0000000000000000-ffffffffffffffff"
      ∷ "s23 done"
      ∷ "s24 done"
      ∷ "m20 C2 M2 update 2.1 f1 e2 v2 put 61 32"
      ∷ "m21 C2 W2 record 2.1 f1 e2 put 61 32"
      ∷ "s25 done"
      ∷ "m22 M2 C2 reply 2.1 unsynced e2 v2 done"
      ∷ "s26 done"
      ∷ "m23 W2 C2 accepted 2.1 e2"
      ∷ "s27 done"
      ∷ "s28 done"
      ∷ "c 2.1 done"
      ∷ "s29 done"
      ∷ "m24 C1 M1 read 1.2 f2 e1 v1 get 61"
      ∷ "s30 done"
      ∷ "m25 M1 B1 append e1 b1 n0 r2"
      ∷ "s31 done"
      ∷ "m26 B1 M1 fenced e2"
      ∷ "s32 done"
      ∷ "s33 done"
      ∷ "m27 C1 G fetch"
      ∷ "s34 done"
      ∷ "m28 G C1 config s2 1=e2,v2,M2,B2,W2,0000000000000000-ffffffffffffffff"
      ∷ "s35 done"
      ∷ "s36 done"
      ∷ "m29 C1 M2 read 1.2 f2 e2 v2 get 61"
      ∷ "s37 done"
      ∷ "m30 M2 B2 append e2 b1 n1 r2"
      ∷ "s38 done"
      ∷ "m31 B2 M2 stored e2 l2 r2"
      ∷ "s39 done"
      ∷ "m32 M2 C1 value 1.2 e2 r1 found 32"
      ∷ "s40 done"
      ∷ "c 1.2 found 32"
      ∷ "order 3"
      ∷ "1.1 put 61 31 -> done"
      ∷ "2.1 put 61 32 -> done"
      ∷ "1.2 get 61 -> found 32"
      ∷ []);
}
