-- Made by examples/to_specs.py from examples/read-in-one-round-trip.script and read-in-one-round-trip.out: edit these, and make it again.
use Rattle.std.specs.Prelude.{true, [], ◌∷◌, codes}
use Rattle.curp_cmd.specs.declared.command.Command.TheVariants as command
use Rattle.curp_msg.specs.declared.script.Protocol.TheVariants.{Two}
use Rattle.curp_msg.specs.declared.script.Step.TheVariants as step
use Rattle.curp_rows.specs.Example.{Example, lines}

-- read in one round trip
abbrev pub read_in_one_round_trip : Example
read_in_one_round_trip = record {
  header = record { clients = 1; f = 1; fast = true; parts = 1; protocol = Two; sets = 16; ways = 4 };
  steps =
      step.Invoke 1 (command.Get (codes "a"))
      ∷ step.Deliver 1
      ∷ step.Deliver 2
      ∷ step.Deliver 3
      ∷ step.Deliver 4
      ∷ [];
  text = lines (
      "s1 done"
      ∷ "m1 C1 M1 glance 1.1 f1 e1 v1 get 61"
      ∷ "m2 C1 W1 probe 1.1 e1"
      ∷ "s2 done"
      ∷ "m3 M1 C1 quick 1.1 e1 v1 r1 none"
      ∷ "s3 done"
      ∷ "m4 W1 C1 live 1.1 e1"
      ∷ "s4 done"
      ∷ "s5 done"
      ∷ "c 1.1 none"
      ∷ "order 1"
      ∷ "1.1 get 61 -> none"
      ∷ []);
}
