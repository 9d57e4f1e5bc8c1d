-- The world that the nodes of the opening are.
use Rattle.std.proofs.Common.{◌≡◌, [], ap}
use Rattle.curp_model.specs.World.{opening}
use Rattle.curp_msg.specs.declared.script.Header.{Header}
use Rattle.curp_cluster.specs.Marked.{MarkedNodes, marked_of, seen}
use Rattle.curp_cluster.specs.Nodes.{NodeStates, nodes_of}

-- nodes of the opening, with no mark
pub marked_opening : (h : Header) (nodes : NodeStates) → nodes ≡ nodes_of (opening h)
    → let m : MarkedNodes = record { nodes = nodes; marks = [] } in m ≡ marked_of (opening h)
unfolding opening
marked_opening h nodes are = ap (λ (n : NodeStates). record { nodes = n; marks = [] }) are

-- a world of the opening's nodes, in which nothing was done, is the opening
pub seen_opening : (h : Header) (m : MarkedNodes) → m ≡ marked_of (opening h) → seen m [] [] [] ≡ opening h
unfolding opening
seen_opening h m are = ap (λ (n : MarkedNodes). seen n [] [] []) are
