-- Made by examples/to_specs.py from examples/nine-invocations.script and nine-invocations.out: edit these, and make it again.
use Rattle.std.specs.Prelude.{true, [], ◌∷◌, codes}
use Rattle.curp_cmd.specs.declared.command.Command.TheVariants as command
use Rattle.curp_msg.specs.declared.script.Protocol.TheVariants.{One}
use Rattle.curp_msg.specs.declared.script.Step.TheVariants as step
use Rattle.curp_rows.specs.Example.{Example, lines}

-- nine invocations
abbrev pub nine_invocations : Example
nine_invocations = record {
  header = record { clients = 2; f = 1; fast = true; parts = 1; protocol = One; sets = 16; ways = 4 };
  steps =
      step.Invoke 1 (command.Incr (codes "a"))
      ∷ step.Invoke 1 (command.Incr (codes "a"))
      ∷ step.Invoke 1 (command.Incr (codes "a"))
      ∷ step.Invoke 1 (command.Incr (codes "a"))
      ∷ step.Invoke 1 (command.Incr (codes "a"))
      ∷ step.Invoke 1 (command.Incr (codes "a"))
      ∷ step.Invoke 1 (command.Incr (codes "a"))
      ∷ step.Invoke 1 (command.Incr (codes "a"))
      ∷ step.Invoke 1 (command.Incr (codes "a"))
      ∷ [];
  text = lines (
      "s1 done"
      ∷ "m1 C1 M1 update 1.1 f1 e1 v1 incr 61"
      ∷ "m2 C1 W1 record 1.1 f1 e1 incr 61"
      ∷ "s2 done"
      ∷ "m3 C1 M1 update 1.2 f1 e1 v1 incr 61"
      ∷ "m4 C1 W1 record 1.2 f1 e1 incr 61"
      ∷ "s3 done"
      ∷ "m5 C1 M1 update 1.3 f1 e1 v1 incr 61"
      ∷ "m6 C1 W1 record 1.3 f1 e1 incr 61"
      ∷ "s4 done"
      ∷ "m7 C1 M1 update 1.4 f1 e1 v1 incr 61"
      ∷ "m8 C1 W1 record 1.4 f1 e1 incr 61"
      ∷ "s5 done"
      ∷ "m9 C1 M1 update 1.5 f1 e1 v1 incr 61"
      ∷ "m10 C1 W1 record 1.5 f1 e1 incr 61"
      ∷ "s6 done"
      ∷ "m11 C1 M1 update 1.6 f1 e1 v1 incr 61"
      ∷ "m12 C1 W1 record 1.6 f1 e1 incr 61"
      ∷ "s7 done"
      ∷ "m13 C1 M1 update 1.7 f1 e1 v1 incr 61"
      ∷ "m14 C1 W1 record 1.7 f1 e1 incr 61"
      ∷ "s8 done"
      ∷ "m15 C1 M1 update 1.8 f1 e1 v1 incr 61"
      ∷ "m16 C1 W1 record 1.8 f1 e1 incr 61"
      ∷ "s9 refused call 1"
      ∷ "order 0"
      ∷ []);
}
