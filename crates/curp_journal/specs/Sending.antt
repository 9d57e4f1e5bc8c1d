-- The names of what an item sent (this project's own).
use Rattle.std.specs.Prelude.{ℕ, ◌+◌, List, [], ◌∷◌}
use Rattle.curp_cmd.specs.declared.node.NodeId.{NodeId}
use Rattle.curp_msg.specs.declared.message.Message.{Message}
use Rattle.curp_journal.specs.declared.arrived.Named.{Named}

-- the messages of that node's item, of its number and its stamp, with their places counted from this one on
abbrev pub named_of : NodeId → ℕ → ℕ → ℕ → List Message → List Named
named_of from step stamp place [] = []
named_of from step stamp place (m ∷ more) =
    record { from = from; step = step; place = place; stamp = stamp; message = m } ∷ named_of from step stamp (place + 1) more
