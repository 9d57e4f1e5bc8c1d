-- Made by examples/to_specs.py from examples/stopped-node.script and stopped-node.out: edit these, and make it again.
use Rattle.std.specs.Prelude.{true, [], ◌∷◌}
use Rattle.curp_cmd.specs.Node.{master_node}
use Rattle.curp_msg.specs.declared.script.Protocol.TheVariants.{One}
use Rattle.curp_msg.specs.declared.script.Step.TheVariants as step
use Rattle.curp_rows.specs.Example.{Example, lines}

-- stopped node
abbrev pub stopped_node : Example
stopped_node = record {
  header = record { clients = 2; f = 1; fast = true; parts = 1; protocol = One; sets = 16; ways = 4 };
  steps =
      step.Stop (master_node 1)
      ∷ step.Sync 1
      ∷ [];
  text = lines (
      "s1 done"
      ∷ "s2 refused gone"
      ∷ "order 0"
      ∷ []);
}
