-- The nodes of a world with its marks, as they are kept.
use Rattle.std.specs.Prelude.{◌≡◌, ◌==◌, if◌then◌else◌, List, Result, Ok, Err}
use Rattle.curp_cmd.specs.declared.node.NodeId.{NodeId}
use Rattle.curp_model.specs.Marks.{Mark}
use Rattle.curp_model.specs.World.{World, with_completion}
use Rattle.curp_msg.specs.Moved.{Moved, done_of}
use Rattle.curp_msg.specs.declared.machine.Done.{Done}
use Rattle.curp_msg.specs.declared.message.Message.{Message}
use Rattle.curp_order.specs.declared.Event.{Event}
use Rattle.curp_cluster.specs.Nodes.{NodeStates, nodes_of, with_nodes}

-- nodes, and the marks of what they did
pub record MarkedNodes : Type 0 where
  pub nodes : NodeStates
  pub marks : List Mark

-- those of a world
abbrev pub marked_of : World → MarkedNodes
marked_of w = record { nodes = nodes_of w; marks = w.marks }

-- a world with these for its own
abbrev pub with_marked : World → MarkedNodes → World
with_marked w m = record (with_nodes w m.nodes) { marks = m.marks }

-- the world that nodes with their marks, messages and a history are
abbrev pub seen : MarkedNodes → List NodeId → List (List Message) → List Event → World
seen m stopped sent history = record {
  clients = m.nodes.clients;
  manager = m.nodes.manager;
  masters = m.nodes.masters;
  backups = m.nodes.backups;
  witnesses = m.nodes.witnesses;
  sets = m.nodes.sets;
  ways = m.nodes.ways;
  stopped = stopped;
  sent = sent;
  history = history;
  marks = m.marks;
}

-- ---- a node gets an input

-- what a move leaves: a completion flags its mark, and a refusal changes nothing
abbrev pub left_by : MarkedNodes → Moved World → MarkedNodes
left_by old m =
    if m.refused == 0
    then record { nodes = nodes_of m.state; marks = with_completion m.completed m.state.marks }
    else old

-- the call made the move, and has marked it; by an error, as by running out of memory, nothing has changed
abbrev pub Takes : {E : Type 0} → (old new : MarkedNodes) → Result Done E → Moved World → Type 0
Takes old new (Ok done) m = (new ≡ left_by old m) × (done ≡ done_of m)
Takes old new (Err why) m = new ≡ old
