-- Made by examples/to_specs.py from examples/no-node.script and no-node.out: edit these, and make it again.
use Rattle.std.specs.Prelude.{true, [], ◌∷◌}
use Rattle.curp_cmd.specs.Node.{witness_node}
use Rattle.curp_msg.specs.declared.script.Protocol.TheVariants.{One}
use Rattle.curp_msg.specs.declared.script.Step.TheVariants as step
use Rattle.curp_rows.specs.Example.{Example, lines}

-- no node
abbrev pub no_node : Example
no_node = record {
  header = record { clients = 2; f = 1; fast = true; parts = 1; protocol = One; sets = 16; ways = 4 };
  steps =
      step.Stop (witness_node 9)
      ∷ [];
  text = lines (
      "s1 refused no-node"
      ∷ "order 0"
      ∷ []);
}
