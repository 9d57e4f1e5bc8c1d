-- Made by examples/to_specs.py from examples/replace-a-witness.script and replace-a-witness.out: edit these, and make it again.
use Rattle.std.specs.Prelude.{true, [], ◌∷◌, codes}
use Rattle.curp_cmd.specs.declared.command.Command.TheVariants as command
use Rattle.curp_cmd.specs.declared.node.Keeper.TheVariants as keeper
use Rattle.curp_msg.specs.declared.script.Protocol.TheVariants.{One}
use Rattle.curp_msg.specs.declared.script.Step.TheVariants as step
use Rattle.curp_rows.specs.Example.{Example, lines}

-- replace a witness
abbrev pub replace_a_witness : Example
replace_a_witness = record {
  header = record { clients = 2; f = 1; fast = true; parts = 1; protocol = One; sets = 16; ways = 4 };
  steps =
      step.Replace keeper.Witness 1 1
      ∷ step.Deliver 2
      ∷ step.Deliver 3
      ∷ step.Deliver 4
      ∷ step.Invoke 1 (command.Put (codes "a") (codes "1"))
      ∷ step.Deliver 6
      ∷ step.Deliver 5
      ∷ step.Deliver 9
      ∷ step.Deliver 6
      ∷ step.Fetch 1
      ∷ step.Deliver 11
      ∷ step.Deliver 12
      ∷ step.Retry 1 1
      ∷ step.Deliver 13
      ∷ step.Deliver 1
      ∷ step.Deliver 14
      ∷ step.Deliver 15
      ∷ step.Deliver 16
      ∷ [];
  text = lines (
      "s1 done"
      ∷ "m1 G W2 start p1 e1"
      ∷ "m2 G M1 prepare v2 B1 W2"
      ∷ "s2 done"
      ∷ "m3 M1 B1 append e1 b0 n0 r1"
      ∷ "s3 done"
      ∷ "m4 B1 M1 stored e1 l0 r1"
      ∷ "s4 done"
      ∷ "m5 M1 G prepared v2"
      ∷ "s5 done"
      ∷ "m6 C1 M1 update 1.1 f1 e1 v1 put 61 31"
      ∷ "m7 C1 W1 record 1.1 f1 e1 put 61 31"
      ∷ "s6 done"
      ∷ "m8 M1 C1 refuse 1.1 switching"
      ∷ "s7 done"
      ∷ "m9 G M1 adopted p1 e1 v2"
      ∷ "s8 done"
      ∷ "s9 done"
      ∷ "m10 M1 C1 refuse 1.1 version v2"
      ∷ "s10 done"
      ∷ "m11 C1 G fetch"
      ∷ "s11 done"
      ∷ "m12 G C1 config s2 1=e1,v2,M1,B1,W2,0000000000000000-ffffffffffffffff"
      ∷ "s12 done"
      ∷ "s13 done"
      ∷ "m13 C1 M1 update 1.1 f1 e1 v2 put 61 31"
      ∷ "m14 C1 W2 record 1.1 f1 e1 put 61 31"
      ∷ "s14 done"
      ∷ "m15 M1 C1 reply 1.1 unsynced e1 v2 done"
      ∷ "s15 done"
      ∷ "s16 done"
      ∷ "m16 W2 C1 accepted 1.1 e1"
      ∷ "s17 done"
      ∷ "s18 done"
      ∷ "c 1.1 done"
      ∷ "order 1"
      ∷ "1.1 put 61 31 -> done"
      ∷ []);
}
