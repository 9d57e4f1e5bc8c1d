-- Made by examples/to_specs.py from examples/two-backups.script and two-backups.out: edit these, and make it again.
use Rattle.std.specs.Prelude.{false, [], ◌∷◌, codes}
use Rattle.curp_cmd.specs.declared.command.Command.TheVariants as command
use Rattle.curp_msg.specs.declared.script.Protocol.TheVariants.{One}
use Rattle.curp_msg.specs.declared.script.Step.TheVariants as step
use Rattle.curp_rows.specs.Example.{Example, lines}

-- two backups
abbrev pub two_backups : Example
two_backups = record {
  header = record { clients = 1; f = 2; fast = false; parts = 1; protocol = One; sets = 16; ways = 4 };
  steps =
      step.Invoke 1 (command.Put (codes "a") (codes "1"))
      ∷ step.Deliver 1
      ∷ step.Deliver 1
      ∷ step.Deliver 2
      ∷ step.Deliver 5
      ∷ step.Deliver 3
      ∷ step.Deliver 6
      ∷ step.Deliver 1
      ∷ step.Deliver 7
      ∷ step.Deliver 8
      ∷ [];
  text = lines (
      "s1 done"
      ∷ "m1 C1 M1 sync 1.1 f1 e1 v1 put 61 31"
      ∷ "s2 done"
      ∷ "m2 M1 B1 append e1 b0 n1 r1"
      ∷ "m3 M1 B2 append e1 b0 n1 r1"
      ∷ "s3 done"
      ∷ "m4 M1 C1 refuse 1.1 in-progress"
      ∷ "s4 done"
      ∷ "m5 B1 M1 stored e1 l1 r1"
      ∷ "s5 done"
      ∷ "s6 done"
      ∷ "m6 B2 M1 stored e1 l1 r1"
      ∷ "s7 done"
      ∷ "m7 M1 C1 reply 1.1 synced e1 v1 done"
      ∷ "s8 done"
      ∷ "m8 M1 C1 reply 1.1 synced e1 v1 done"
      ∷ "s9 done"
      ∷ "c 1.1 done"
      ∷ "s10 done"
      ∷ "order 1"
      ∷ "1.1 put 61 31 -> done"
      ∷ []);
}
