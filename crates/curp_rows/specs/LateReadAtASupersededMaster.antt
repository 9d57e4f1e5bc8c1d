-- Made by examples/to_specs.py from examples/late-read-at-a-superseded-master.script and late-read-at-a-superseded-master.out: edit these, and make it again.
use Rattle.std.specs.Prelude.{true, [], ◌∷◌, codes}
use Rattle.curp_cmd.specs.declared.command.Command.TheVariants as command
use Rattle.curp_msg.specs.declared.script.Protocol.TheVariants.{Two}
use Rattle.curp_msg.specs.declared.script.Step.TheVariants as step
use Rattle.curp_rows.specs.Example.{Example, lines}

-- late read at a superseded master
abbrev pub late_read_at_a_superseded_master : Example
late_read_at_a_superseded_master = record {
  header = record { clients = 2; f = 1; fast = true; parts = 1; protocol = Two; sets = 16; ways = 4 };
  steps =
      step.Invoke 1 (command.Get (codes "a"))
      ∷ step.Deliver 2
      ∷ step.Recover 1 1 1
      ∷ step.Deliver 6
      ∷ step.Deliver 7
      ∷ step.Deliver 8
      ∷ step.Deliver 9
      ∷ step.Deliver 10
      ∷ step.Deliver 4
      ∷ step.Deliver 11
      ∷ step.Deliver 12
      ∷ step.Deliver 13
      ∷ step.Deliver 14
      ∷ step.Deliver 5
      ∷ step.Fetch 2
      ∷ step.Deliver 15
      ∷ step.Deliver 16
      ∷ step.Invoke 2 (command.Put (codes "a") (codes "2"))
      ∷ step.Deliver 17
      ∷ step.Deliver 18
      ∷ step.Deliver 19
      ∷ step.Deliver 20
      ∷ step.Deliver 1
      ∷ step.Deliver 3
      ∷ step.Deliver 21
      ∷ [];
  text = lines (
      "s1 done"
      ∷ "m1 C1 M1 glance 1.1 f1 e1 v1 get 61"
      ∷ "m2 C1 W1 probe 1.1 e1"
      ∷ "s2 done"
      ∷ "m3 W1 C1 live 1.1 e1"
      ∷ "s3 done"
      ∷ "m4 G B2 install e2"
      ∷ "m5 G W2 start p1 e2"
      ∷ "m6 G M2 recover p1 e2 v2 B1 W1 B2 W2"
      ∷ "s4 done"
      ∷ "m7 M2 B1 fence e2"
      ∷ "m8 M2 W1 freeze e2"
      ∷ "s5 done"
      ∷ "m9 B1 M2 log e2 n0"
      ∷ "s6 done"
      ∷ "m10 W1 M2 frozen"
      ∷ "s7 done"
      ∷ "s8 done"
      ∷ "m11 M2 B2 append e2 b0 n0 r1"
      ∷ "s9 done"
      ∷ "s10 done"
      ∷ "m12 B2 M2 stored e2 l0 r1"
      ∷ "s11 done"
      ∷ "m13 M2 G recovered p1 e2"
      ∷ "s12 done"
      ∷ "m14 G M2 adopted p1 e2 v2"
      ∷ "s13 done"
      ∷ "s14 done"
      ∷ "s15 done"
      ∷ "m15 C2 G fetch"
      ∷ "s16 done"
      ∷ "m16 G C2 config s2 1=e2,v2,M2,B2,W2,0000000000000000-ffffffffffffffff"
      ∷ "s17 done"
      ∷ "s18 done"
      ∷ "m17 C2 M2 update 2.1 f1 e2 v2 put 61 32"
      ∷ "m18 C2 W2 record 2.1 f1 e2 put 61 32"
      ∷ "s19 done"
      ∷ "m19 M2 C2 reply 2.1 unsynced e2 v2 done"
      ∷ "s20 done"
      ∷ "m20 W2 C2 accepted 2.1 e2"
      ∷ "s21 done"
      ∷ "s22 done"
      ∷ "c 2.1 done"
      ∷ "s23 done"
      ∷ "m21 M1 C1 quick 1.1 e1 v1 r1 none"
      ∷ "s24 done"
      ∷ "s25 done"
      ∷ "c 1.1 none"
      ∷ "order 2"
      ∷ "1.1 get 61 -> none"
      ∷ "2.1 put 61 32 -> done"
      ∷ []);
}
