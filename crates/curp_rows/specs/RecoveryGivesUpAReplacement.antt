-- Made by examples/to_specs.py from examples/recovery-gives-up-a-replacement.script and recovery-gives-up-a-replacement.out: edit these, and make it again.
use Rattle.std.specs.Prelude.{true, [], ◌∷◌}
use Rattle.curp_cmd.specs.declared.node.Keeper.TheVariants as keeper
use Rattle.curp_msg.specs.declared.script.Protocol.TheVariants.{One}
use Rattle.curp_msg.specs.declared.script.Step.TheVariants as step
use Rattle.curp_rows.specs.Example.{Example, lines}

-- recovery gives up a replacement
abbrev pub recovery_gives_up_a_replacement : Example
recovery_gives_up_a_replacement = record {
  header = record { clients = 2; f = 1; fast = true; parts = 1; protocol = One; sets = 16; ways = 4 };
  steps =
      step.Replace keeper.Witness 1 1
      ∷ step.Recover 1 1 1
      ∷ step.Replace keeper.Witness 1 1
      ∷ [];
  text = lines (
      "s1 done"
      ∷ "m1 G W2 start p1 e1"
      ∷ "m2 G M1 prepare v2 B1 W2"
      ∷ "s2 done"
      ∷ "m3 G B2 install e2"
      ∷ "m4 G W3 start p1 e2"
      ∷ "m5 G M2 recover p1 e2 v3 B1 W1 B2 W3"
      ∷ "s3 refused call 3"
      ∷ "order 0"
      ∷ []);
}
