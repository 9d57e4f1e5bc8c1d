-- Made by examples/to_specs.py from examples/stopped-backup-replaced.script and stopped-backup-replaced.out: edit these, and make it again.
use Rattle.std.specs.Prelude.{true, [], ◌∷◌, codes}
use Rattle.curp_cmd.specs.Node.{backup_node}
use Rattle.curp_cmd.specs.declared.command.Command.TheVariants as command
use Rattle.curp_cmd.specs.declared.node.Keeper.TheVariants as keeper
use Rattle.curp_msg.specs.declared.script.Protocol.TheVariants.{One}
use Rattle.curp_msg.specs.declared.script.Step.TheVariants as step
use Rattle.curp_rows.specs.Example.{Example, lines}

-- stopped backup replaced
abbrev pub stopped_backup_replaced : Example
stopped_backup_replaced = record {
  header = record { clients = 2; f = 1; fast = true; parts = 1; protocol = One; sets = 16; ways = 4 };
  steps =
      step.Stop (backup_node 1)
      ∷ step.Invoke 1 (command.Put (codes "a") (codes "1"))
      ∷ step.Deliver 1
      ∷ step.Replace keeper.Backup 1 1
      ∷ step.Deliver 4
      ∷ step.Deliver 5
      ∷ step.Deliver 6
      ∷ step.Deliver 7
      ∷ step.Deliver 8
      ∷ step.Deliver 9
      ∷ step.Deliver 10
      ∷ step.Deliver 2
      ∷ step.Deliver 3
      ∷ step.Deliver 11
      ∷ [];
  text = lines (
      "s1 done"
      ∷ "s2 done"
      ∷ "m1 C1 M1 update 1.1 f1 e1 v1 put 61 31"
      ∷ "m2 C1 W1 record 1.1 f1 e1 put 61 31"
      ∷ "s3 done"
      ∷ "m3 M1 C1 reply 1.1 unsynced e1 v1 done"
      ∷ "s4 done"
      ∷ "m4 G B2 install e1"
      ∷ "m5 G M1 prepare v2 B2 W1"
      ∷ "s5 done"
      ∷ "s6 done"
      ∷ "m6 M1 B1 append e1 b0 n1 r1"
      ∷ "m7 M1 B2 append e1 b0 n1 r1"
      ∷ "s7 refused gone"
      ∷ "s8 done"
      ∷ "m8 B2 M1 stored e1 l1 r1"
      ∷ "s9 done"
      ∷ "m9 M1 G prepared v2"
      ∷ "s10 done"
      ∷ "m10 G M1 adopted p1 e1 v2"
      ∷ "s11 done"
      ∷ "s12 done"
      ∷ "m11 W1 C1 accepted 1.1 e1"
      ∷ "s13 done"
      ∷ "s14 done"
      ∷ "c 1.1 done"
      ∷ "order 1"
      ∷ "1.1 put 61 31 -> done"
      ∷ []);
}
