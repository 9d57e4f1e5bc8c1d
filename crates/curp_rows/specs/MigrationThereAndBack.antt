-- Made by examples/to_specs.py from examples/migration-there-and-back.script and migration-there-and-back.out: edit these, and make it again.
use Rattle.std.specs.Prelude.{true, [], ◌∷◌, codes}
use Rattle.curp_cmd.specs.Node.{master_node}
use Rattle.curp_cmd.specs.declared.command.Command.TheVariants as command
use Rattle.curp_msg.specs.declared.script.Protocol.TheVariants.{One}
use Rattle.curp_msg.specs.declared.script.Step.TheVariants as step
use Rattle.curp_rows.specs.Example.{Example, lines}

-- migration there and back
abbrev pub migration_there_and_back : Example
migration_there_and_back = record {
  header = record { clients = 1; f = 1; fast = true; parts = 2; protocol = One; sets = 16; ways = 4 };
  steps =
      step.Invoke 1 (command.Put (codes "fo") (codes "1"))
      ∷ step.Deliver 2
      ∷ step.Migrate 0x0000_0000_0000_0000 0x0fff_ffff_ffff_ffff 2
      ∷ step.Deliver 4
      ∷ step.Deliver 5
      ∷ step.Deliver 6
      ∷ step.Deliver 7
      ∷ step.Deliver 8
      ∷ step.Deliver 9
      ∷ step.Deliver 10
      ∷ step.Deliver 11
      ∷ step.Migrate 0x0000_0000_0000_0000 0x0fff_ffff_ffff_ffff 1
      ∷ step.Deliver 12
      ∷ step.Deliver 13
      ∷ step.Deliver 14
      ∷ step.Deliver 15
      ∷ step.Deliver 16
      ∷ step.Deliver 17
      ∷ step.Deliver 18
      ∷ step.Deliver 19
      ∷ step.Deliver 1
      ∷ step.Deliver 3
      ∷ step.Deliver 20
      ∷ step.Stop (master_node 1)
      ∷ step.Recover 1 1 1
      ∷ step.Deliver 23
      ∷ step.Deliver 24
      ∷ step.Deliver 25
      ∷ step.Deliver 26
      ∷ step.Deliver 27
      ∷ [];
  text = lines (
      "s1 done"
      ∷ "m1 C1 M1 update 1.1 f1 e1 v1 put 666f 31"
      ∷ "m2 C1 W1 record 1.1 f1 e1 put 666f 31"
      ∷ "s2 done"
      ∷ "m3 W1 C1 accepted 1.1 e1"
      ∷ "s3 done"
      ∷ "m4 G M1 take g1 0000000000000000-0fffffffffffffff"
      ∷ "s4 done"
      ∷ "m5 M1 B1 append e1 b0 n1 r1"
      ∷ "s5 done"
      ∷ "m6 B1 M1 stored e1 l1 r1"
      ∷ "s6 done"
      ∷ "m7 M1 G taken g1 p0 r0"
      ∷ "s7 done"
      ∷ "m8 G M2 give g1 p0 r0"
      ∷ "s8 done"
      ∷ "m9 M2 B2 append e1 b0 n1 r1"
      ∷ "s9 done"
      ∷ "m10 B2 M2 stored e1 l1 r1"
      ∷ "s10 done"
      ∷ "m11 M2 G given g1"
      ∷ "s11 done"
      ∷ "s12 done"
      ∷ "m12 G M2 take g2 0000000000000000-0fffffffffffffff"
      ∷ "s13 done"
      ∷ "m13 M2 B2 append e1 b1 n1 r2"
      ∷ "s14 done"
      ∷ "m14 B2 M2 stored e1 l2 r2"
      ∷ "s15 done"
      ∷ "m15 M2 G taken g2 p0 r0"
      ∷ "s16 done"
      ∷ "m16 G M1 give g2 p0 r0"
      ∷ "s17 done"
      ∷ "m17 M1 B1 append e1 b1 n1 r2"
      ∷ "s18 done"
      ∷ "m18 B1 M1 stored e1 l2 r2"
      ∷ "s19 done"
      ∷ "m19 M1 G given g2"
      ∷ "s20 done"
      ∷ "s21 done"
      ∷ "m20 M1 C1 reply 1.1 unsynced e1 v1 done"
      ∷ "s22 done"
      ∷ "s23 done"
      ∷ "c 1.1 done"
      ∷ "s24 done"
      ∷ "s25 done"
      ∷ "m21 G B3 install e2"
      ∷ "m22 G W3 start p1 e2"
      ∷ "m23 G M3 recover p1 e2 v2 B1 W1 B3 W3"
      ∷ "s26 done"
      ∷ "m24 M3 B1 fence e2"
      ∷ "m25 M3 W1 freeze e2"
      ∷ "s27 done"
      ∷ "m26 B1 M3 log e2 n2"
      ∷ "s28 done"
      ∷ "m27 W1 M3 frozen 1.1"
      ∷ "s29 done"
      ∷ "s30 done"
      ∷ "m28 M3 B3 append e2 b0 n3 r1"
      ∷ "order 1"
      ∷ "1.1 put 666f 31 -> done"
      ∷ []);
}
