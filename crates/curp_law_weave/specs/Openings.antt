-- Which nodes are there at opening, and how a node begins (this project's own).
use Rattle.std.specs.Prelude.{◌≡◌, ℕ, Some, None}
use Rattle.curp_cmd.specs.declared.node.NodeId.{NodeId}
use Rattle.curp_msg.specs.Moved.{Moved, Node, numbered_move}
use Rattle.curp_msg.specs.Input.{Input}
use Rattle.curp_msg.specs.declared.script.Header.{Header}
use Rattle.curp_model.specs.World.{opening}
use Rattle.curp_law_weave.specs.NodeStates.{NodeState, opening_of, state_of}

-- the node is there before any step, in this state, and so it begins
pub record OpensAs (h : Header) (node : NodeId) (state : NodeState) : Type 0 where
  pub there : state_of (opening h) node ≡ Some state
  pub begins : opening_of h node ≡ state

-- the node isn't there before any step, and begins in this state where it comes to be
pub record ComesAs (h : Header) (node : NodeId) (state : NodeState) : Type 0 where
  pub absent : state_of (opening h) node ≡ None
  pub begins : opening_of h node ≡ state

-- what an input does to a node with its number, by what it does to the state of a node of that number
abbrev pub numbered_machine : {S : Type 0} → (ℕ → S → Input → Moved S) → Node S → Input → Moved (Node S)
numbered_machine machine node given = numbered_move node.number (machine node.number node.state given)
