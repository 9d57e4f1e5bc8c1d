-- Made by examples/to_specs.py from examples/expired-client.script and expired-client.out: edit these, and make it again.
use Rattle.std.specs.Prelude.{true, [], ◌∷◌, codes}
use Rattle.curp_cmd.specs.declared.command.Command.TheVariants as command
use Rattle.curp_msg.specs.declared.script.Protocol.TheVariants.{One}
use Rattle.curp_msg.specs.declared.script.Step.TheVariants as step
use Rattle.curp_rows.specs.Example.{Example, lines}

-- expired client
abbrev pub expired_client : Example
expired_client = record {
  header = record { clients = 1; f = 1; fast = true; parts = 1; protocol = One; sets = 16; ways = 4 };
  steps =
      step.Expire 1
      ∷ step.Deliver 1
      ∷ step.Invoke 1 (command.Put (codes "a") (codes "1"))
      ∷ step.Deliver 3
      ∷ step.Nudge
      ∷ [];
  text = lines (
      "s1 done"
      ∷ "m1 G M1 expire c1"
      ∷ "s2 done"
      ∷ "m2 M1 B1 append e1 b0 n1 r1"
      ∷ "s3 done"
      ∷ "m3 C1 M1 update 1.1 f1 e1 v1 put 61 31"
      ∷ "m4 C1 W1 record 1.1 f1 e1 put 61 31"
      ∷ "s4 done"
      ∷ "m5 M1 C1 refuse 1.1 expired"
      ∷ "s5 done"
      ∷ "m6 G W1 start p1 e1"
      ∷ "m7 G M1 adopted p1 e1 v1"
      ∷ "m8 G M1 expire c1"
      ∷ "order 0"
      ∷ []);
}
