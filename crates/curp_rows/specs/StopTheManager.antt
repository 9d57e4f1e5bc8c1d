-- Made by examples/to_specs.py from examples/stop-the-manager.script and stop-the-manager.out: edit these, and make it again.
use Rattle.std.specs.Prelude.{true, [], ◌∷◌}
use Rattle.curp_cmd.specs.Node.{manager_node}
use Rattle.curp_msg.specs.declared.script.Protocol.TheVariants.{One}
use Rattle.curp_msg.specs.declared.script.Step.TheVariants as step
use Rattle.curp_rows.specs.Example.{Example, lines}

-- stop the manager
abbrev pub stop_the_manager : Example
stop_the_manager = record {
  header = record { clients = 2; f = 1; fast = true; parts = 1; protocol = One; sets = 16; ways = 4 };
  steps =
      step.Stop manager_node
      ∷ [];
  text = lines (
      "s1 refused manager"
      ∷ "order 0"
      ∷ []);
}
