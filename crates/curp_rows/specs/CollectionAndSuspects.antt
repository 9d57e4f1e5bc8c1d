-- Made by examples/to_specs.py from examples/collection-and-suspects.script and collection-and-suspects.out: edit these, and make it again.
use Rattle.std.specs.Prelude.{true, [], ◌∷◌, codes}
use Rattle.curp_cmd.specs.declared.command.Command.TheVariants as command
use Rattle.curp_msg.specs.declared.script.Protocol.TheVariants.{One}
use Rattle.curp_msg.specs.declared.script.Step.TheVariants as step
use Rattle.curp_rows.specs.Example.{Example, lines}

-- collection and suspects
abbrev pub collection_and_suspects : Example
collection_and_suspects = record {
  header = record { clients = 2; f = 1; fast = true; parts = 1; protocol = One; sets = 16; ways = 4 };
  steps =
      step.Invoke 1 (command.Put (codes "a") (codes "1"))
      ∷ step.Deliver 1
      ∷ step.Sync 1
      ∷ step.Deliver 4
      ∷ step.Deliver 5
      ∷ step.Collect 1
      ∷ step.Deliver 6
      ∷ step.Deliver 2
      ∷ step.Collect 1
      ∷ step.Deliver 9
      ∷ step.Deliver 9
      ∷ step.Deliver 9
      ∷ step.Invoke 2 (command.Put (codes "a") (codes "2"))
      ∷ step.Deliver 14
      ∷ step.Collect 1
      ∷ step.Deliver 16
      ∷ step.Deliver 17
      ∷ step.Collect 1
      ∷ step.Deliver 18
      ∷ step.Deliver 14
      ∷ [];
  text = lines (
      "s1 done"
      ∷ "m1 C1 M1 update 1.1 f1 e1 v1 put 61 31"
      ∷ "m2 C1 W1 record 1.1 f1 e1 put 61 31"
      ∷ "s2 done"
      ∷ "m3 M1 C1 reply 1.1 unsynced e1 v1 done"
      ∷ "s3 done"
      ∷ "m4 M1 B1 append e1 b0 n1 r1"
      ∷ "s4 done"
      ∷ "m5 B1 M1 stored e1 l1 r1"
      ∷ "s5 done"
      ∷ "s6 done"
      ∷ "m6 M1 W1 gc e1 1.1"
      ∷ "s7 done"
      ∷ "m7 W1 M1 suspects e1"
      ∷ "s8 done"
      ∷ "m8 W1 C1 accepted 1.1 e1"
      ∷ "s9 done"
      ∷ "m9 M1 W1 gc e1"
      ∷ "s10 done"
      ∷ "m10 W1 M1 suspects e1"
      ∷ "s11 done"
      ∷ "m11 W1 M1 suspects e1"
      ∷ "s12 done"
      ∷ "m12 W1 M1 suspects e1"
      ∷ "s13 done"
      ∷ "m13 C2 M1 update 2.1 f1 e1 v1 put 61 32"
      ∷ "m14 C2 W1 record 2.1 f1 e1 put 61 32"
      ∷ "s14 done"
      ∷ "m15 W1 C2 rejected 2.1 conflict 1.1"
      ∷ "s15 done"
      ∷ "m16 M1 W1 gc e1"
      ∷ "s16 done"
      ∷ "m17 W1 M1 suspects e1 1.1"
      ∷ "s17 done"
      ∷ "s18 done"
      ∷ "m18 M1 W1 gc e1 1.1"
      ∷ "s19 done"
      ∷ "m19 W1 M1 suspects e1"
      ∷ "s20 done"
      ∷ "m20 W1 C2 accepted 2.1 e1"
      ∷ "order 1"
      ∷ "1.1 put 61 31 -> done"
      ∷ []);
}
