-- Made by examples/to_specs.py from examples/package-has-first-numbers.script and package-has-first-numbers.out: edit these, and make it again.
use Rattle.std.specs.Prelude.{true, [], ◌∷◌, codes}
use Rattle.curp_cmd.specs.declared.command.Command.TheVariants as command
use Rattle.curp_msg.specs.declared.script.Protocol.TheVariants.{One}
use Rattle.curp_msg.specs.declared.script.Step.TheVariants as step
use Rattle.curp_rows.specs.Example.{Example, lines}

-- package has first numbers
abbrev pub package_has_first_numbers : Example
package_has_first_numbers = record {
  header = record { clients = 1; f = 1; fast = true; parts = 2; protocol = One; sets = 16; ways = 4 };
  steps =
      step.Invoke 1 (command.Put (codes "fo") (codes "1"))
      ∷ step.Deliver 2
      ∷ step.Migrate 0x0000_0000_0000_0000 0x0fff_ffff_ffff_ffff 2
      ∷ step.Deliver 4
      ∷ step.Deliver 5
      ∷ step.Deliver 6
      ∷ step.Deliver 7
      ∷ step.Deliver 8
      ∷ step.Deliver 9
      ∷ step.Deliver 10
      ∷ step.Deliver 11
      ∷ step.Fetch 1
      ∷ step.Deliver 12
      ∷ step.Deliver 13
      ∷ step.Retry 1 1
      ∷ step.Migrate 0x0000_0000_0000_0000 0x0fff_ffff_ffff_ffff 1
      ∷ step.Deliver 16
      ∷ step.Deliver 17
      ∷ step.Deliver 18
      ∷ step.Deliver 19
      ∷ step.Deliver 20
      ∷ step.Deliver 21
      ∷ step.Deliver 22
      ∷ step.Deliver 23
      ∷ step.Deliver 1
      ∷ step.Deliver 3
      ∷ step.Deliver 24
      ∷ step.Fetch 1
      ∷ step.Deliver 25
      ∷ step.Deliver 26
      ∷ step.Invoke 1 (command.Put (codes "fo") (codes "2"))
      ∷ step.Deliver 27
      ∷ step.Deliver 29
      ∷ step.Deliver 30
      ∷ step.Deliver 31
      ∷ step.Migrate 0x0000_0000_0000_0000 0x0fff_ffff_ffff_ffff 2
      ∷ step.Deliver 32
      ∷ step.Deliver 33
      ∷ step.Deliver 34
      ∷ step.Deliver 35
      ∷ step.Deliver 36
      ∷ step.Deliver 37
      ∷ step.Deliver 38
      ∷ step.Deliver 39
      ∷ step.Deliver 14
      ∷ [];
  text = lines (
      "s1 done"
      ∷ "m1 C1 M1 update 1.1 f1 e1 v1 put 666f 31"
      ∷ "m2 C1 W1 record 1.1 f1 e1 put 666f 31"
      ∷ "s2 done"
      ∷ "m3 W1 C1 accepted 1.1 e1"
      ∷ "s3 done"
      ∷ "m4 G M1 take g1 0000000000000000-0fffffffffffffff"
      ∷ "s4 done"
      ∷ "m5 M1 B1 append e1 b0 n1 r1"
      ∷ "s5 done"
      ∷ "m6 B1 M1 stored e1 l1 r1"
      ∷ "s6 done"
      ∷ "m7 M1 G taken g1 p0 r0"
      ∷ "s7 done"
      ∷ "m8 G M2 give g1 p0 r0"
      ∷ "s8 done"
      ∷ "m9 M2 B2 append e1 b0 n1 r1"
      ∷ "s9 done"
      ∷ "m10 B2 M2 stored e1 l1 r1"
      ∷ "s10 done"
      ∷ "m11 M2 G given g1"
      ∷ "s11 done"
      ∷ "s12 done"
      ∷ "m12 C1 G fetch"
      ∷ "s13 done"
      ∷ "m13 G C1 config s2 1=e1,v1,M1,B1,W1,1000000000000000-7fffffffffffffff 2=e1,v1,M2,B2,W2,0000000000000000-0fffffffffffffff+8000000000000000-ffffffffffffffff"
      ∷ "s14 done"
      ∷ "s15 done"
      ∷ "m14 C1 M2 update 1.1 f1 e1 v1 put 666f 31"
      ∷ "m15 C1 W2 record 1.1 f1 e1 put 666f 31"
      ∷ "s16 done"
      ∷ "m16 G M2 take g2 0000000000000000-0fffffffffffffff"
      ∷ "s17 done"
      ∷ "m17 M2 B2 append e1 b1 n1 r2"
      ∷ "s18 done"
      ∷ "m18 B2 M2 stored e1 l2 r2"
      ∷ "s19 done"
      ∷ "m19 M2 G taken g2 p0 r0"
      ∷ "s20 done"
      ∷ "m20 G M1 give g2 p0 r0"
      ∷ "s21 done"
      ∷ "m21 M1 B1 append e1 b1 n1 r2"
      ∷ "s22 done"
      ∷ "m22 B1 M1 stored e1 l2 r2"
      ∷ "s23 done"
      ∷ "m23 M1 G given g2"
      ∷ "s24 done"
      ∷ "s25 done"
      ∷ "m24 M1 C1 reply 1.1 unsynced e1 v1 done"
      ∷ "s26 done"
      ∷ "s27 done"
      ∷ "c 1.1 done"
      ∷ "s28 done"
      ∷ "m25 C1 G fetch"
      ∷ "s29 done"
      ∷ "m26 G C1 config s3 1=e1,v1,M1,B1,W1,0000000000000000-7fffffffffffffff 2=e1,v1,M2,B2,W2,8000000000000000-ffffffffffffffff"
      ∷ "s30 done"
      ∷ "s31 done"
      ∷ "m27 C1 M1 update 1.2 f2 e1 v1 put 666f 32"
      ∷ "m28 C1 W1 record 1.2 f2 e1 put 666f 32"
      ∷ "s32 done"
      ∷ "m29 M1 B1 append e1 b2 n2 r3"
      ∷ "s33 done"
      ∷ "m30 B1 M1 stored e1 l4 r3"
      ∷ "s34 done"
      ∷ "m31 M1 C1 reply 1.2 synced e1 v1 done"
      ∷ "s35 done"
      ∷ "c 1.2 done"
      ∷ "s36 done"
      ∷ "m32 G M1 take g3 0000000000000000-0fffffffffffffff"
      ∷ "s37 done"
      ∷ "m33 M1 B1 append e1 b4 n1 r4"
      ∷ "s38 done"
      ∷ "m34 B1 M1 stored e1 l5 r4"
      ∷ "s39 done"
      ∷ "m35 M1 G taken g3 p1 r1"
      ∷ "s40 done"
      ∷ "m36 G M2 give g3 p1 r1"
      ∷ "s41 done"
      ∷ "m37 M2 B2 append e1 b2 n1 r3"
      ∷ "s42 done"
      ∷ "m38 B2 M2 stored e1 l3 r3"
      ∷ "s43 done"
      ∷ "m39 M2 G given g3"
      ∷ "s44 done"
      ∷ "s45 done"
      ∷ "m40 M2 C1 refuse 1.1 stale f2"
      ∷ "order 2"
      ∷ "1.1 put 666f 31 -> done"
      ∷ "1.2 put 666f 32 -> done"
      ∷ []);
}
