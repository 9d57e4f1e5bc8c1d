-- What was taken so far is the node's own.
use Rattle.std.proofs.Common.{◌≡◌}
use Rattle.curp_base.specs.Words.{Each}
use Rattle.curp_cmd.specs.Node.{client_node}
use Rattle.curp_journal.specs.Own.{IsOwn}
use Rattle.curp_front_node.proofs.serving.Server.take.Given as goal

abbrev pub invariant-loop-taken : goal.invariant-loop-taken
invariant-loop-taken g l = record {
  client : l.self.client ≡ l.fn.self.client;
  own : Each (IsOwn (client_node l.fn.self.client)) l.arrived.items;
}
