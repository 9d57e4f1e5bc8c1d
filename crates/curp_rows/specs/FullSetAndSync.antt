-- Made by examples/to_specs.py from examples/full-set-and-sync.script and full-set-and-sync.out: edit these, and make it again.
use Rattle.std.specs.Prelude.{true, [], ◌∷◌, codes}
use Rattle.curp_cmd.specs.declared.command.Command.TheVariants as command
use Rattle.curp_msg.specs.declared.script.Protocol.TheVariants.{One}
use Rattle.curp_msg.specs.declared.script.Step.TheVariants as step
use Rattle.curp_rows.specs.Example.{Example, lines}

-- full set and sync
abbrev pub full_set_and_sync : Example
full_set_and_sync = record {
  header = record { clients = 2; f = 1; fast = true; parts = 1; protocol = One; sets = 1; ways = 1 };
  steps =
      step.Invoke 1 (command.Put (codes "a") (codes "1"))
      ∷ step.Invoke 2 (command.Put (codes "b") (codes "2"))
      ∷ step.Deliver 2
      ∷ step.Deliver 4
      ∷ step.Deliver 6
      ∷ step.Deliver 6
      ∷ [];
  text = lines (
      "s1 done"
      ∷ "m1 C1 M1 update 1.1 f1 e1 v1 put 61 31"
      ∷ "m2 C1 W1 record 1.1 f1 e1 put 61 31"
      ∷ "s2 done"
      ∷ "m3 C2 M1 update 2.1 f1 e1 v1 put 62 32"
      ∷ "m4 C2 W1 record 2.1 f1 e1 put 62 32"
      ∷ "s3 done"
      ∷ "m5 W1 C1 accepted 1.1 e1"
      ∷ "s4 done"
      ∷ "m6 W1 C2 rejected 2.1 full 0"
      ∷ "s5 done"
      ∷ "m7 C2 M1 sync 2.1 f1 e1 v1 put 62 32"
      ∷ "s6 done"
      ∷ "order 0"
      ∷ []);
}
