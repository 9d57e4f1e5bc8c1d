-- Made by examples/to_specs.py from examples/read-at-an-idle-witness.script and read-at-an-idle-witness.out: edit these, and make it again.
use Rattle.std.specs.Prelude.{true, [], ◌∷◌, codes}
use Rattle.curp_cmd.specs.declared.command.Command.TheVariants as command
use Rattle.curp_cmd.specs.declared.node.Keeper.TheVariants as keeper
use Rattle.curp_msg.specs.declared.script.Protocol.TheVariants.{Two}
use Rattle.curp_msg.specs.declared.script.Step.TheVariants as step
use Rattle.curp_rows.specs.Example.{Example, lines}

-- read at an idle witness
abbrev pub read_at_an_idle_witness : Example
read_at_an_idle_witness = record {
  header = record { clients = 1; f = 1; fast = true; parts = 1; protocol = Two; sets = 16; ways = 4 };
  steps =
      step.Replace keeper.Witness 1 1
      ∷ step.Deliver 2
      ∷ step.Deliver 3
      ∷ step.Deliver 4
      ∷ step.Deliver 5
      ∷ step.Deliver 6
      ∷ step.Fetch 1
      ∷ step.Deliver 7
      ∷ step.Deliver 8
      ∷ step.Invoke 1 (command.Get (codes "a"))
      ∷ step.Deliver 10
      ∷ step.Deliver 11
      ∷ step.Deliver 12
      ∷ step.Deliver 13
      ∷ step.Deliver 14
      ∷ step.Deliver 15
      ∷ [];
  text = lines (
      "s1 done"
      ∷ "m1 G W2 start p1 e1"
      ∷ "m2 G M1 prepare v2 B1 W2"
      ∷ "s2 done"
      ∷ "m3 M1 B1 append e1 b0 n0 r1"
      ∷ "s3 done"
      ∷ "m4 B1 M1 stored e1 l0 r1"
      ∷ "s4 done"
      ∷ "m5 M1 G prepared v2"
      ∷ "s5 done"
      ∷ "m6 G M1 adopted p1 e1 v2"
      ∷ "s6 done"
      ∷ "s7 done"
      ∷ "m7 C1 G fetch"
      ∷ "s8 done"
      ∷ "m8 G C1 config s2 1=e1,v2,M1,B1,W2,0000000000000000-ffffffffffffffff"
      ∷ "s9 done"
      ∷ "s10 done"
      ∷ "m9 C1 M1 glance 1.1 f1 e1 v2 get 61"
      ∷ "m10 C1 W2 probe 1.1 e1"
      ∷ "s11 done"
      ∷ "m11 W2 C1 not-live 1.1 e1"
      ∷ "s12 done"
      ∷ "m12 C1 M1 read 1.1 f1 e1 v2 get 61"
      ∷ "s13 done"
      ∷ "m13 M1 B1 append e1 b0 n0 r2"
      ∷ "s14 done"
      ∷ "m14 B1 M1 stored e1 l0 r2"
      ∷ "s15 done"
      ∷ "m15 M1 C1 value 1.1 e1 r1 none"
      ∷ "s16 done"
      ∷ "c 1.1 none"
      ∷ "order 1"
      ∷ "1.1 get 61 -> none"
      ∷ []);
}
