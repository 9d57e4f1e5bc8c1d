-- Made by examples/to_specs.py from examples/overflow.script and overflow.out: edit these, and make it again.
use Rattle.std.specs.Prelude.{false, [], ◌∷◌, replicate, codes}
use Rattle.curp_cmd.specs.declared.command.Command.TheVariants as command
use Rattle.curp_msg.specs.declared.script.Protocol.TheVariants.{One}
use Rattle.curp_msg.specs.declared.script.Step.TheVariants as step
use Rattle.curp_rows.specs.Example.{Example, lines}

-- overflow
abbrev pub overflow : Example
overflow = record {
  header = record { clients = 2; f = 1; fast = false; parts = 1; protocol = One; sets = 16; ways = 4 };
  steps =
      step.Invoke 1 (command.Put (codes "n") (replicate 8 255))
      ∷ step.Deliver 1
      ∷ step.Deliver 2
      ∷ step.Deliver 3
      ∷ step.Deliver 4
      ∷ step.Invoke 1 (command.Incr (codes "n"))
      ∷ step.Deliver 5
      ∷ step.Deliver 6
      ∷ step.Deliver 7
      ∷ step.Deliver 8
      ∷ [];
  text = lines (
      "s1 done"
      ∷ "m1 C1 M1 sync 1.1 f1 e1 v1 put 6e ffffffffffffffff"
      ∷ "s2 done"
      ∷ "m2 M1 B1 append e1 b0 n1 r1"
      ∷ "s3 done"
      ∷ "m3 B1 M1 stored e1 l1 r1"
      ∷ "s4 done"
      ∷ "m4 M1 C1 reply 1.1 synced e1 v1 done"
      ∷ "s5 done"
      ∷ "c 1.1 done"
      ∷ "s6 done"
      ∷ "m5 C1 M1 sync 1.2 f2 e1 v1 incr 6e"
      ∷ "s7 done"
      ∷ "m6 M1 B1 append e1 b1 n1 r2"
      ∷ "s8 done"
      ∷ "m7 B1 M1 stored e1 l2 r2"
      ∷ "s9 done"
      ∷ "m8 M1 C1 reply 1.2 synced e1 v1 overflow"
      ∷ "s10 done"
      ∷ "c 1.2 overflow"
      ∷ "order 2"
      ∷ "1.1 put 6e ffffffffffffffff -> done"
      ∷ "1.2 incr 6e -> overflow"
      ∷ []);
}
