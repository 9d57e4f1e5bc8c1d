-- What an input does to a serving master.
use Rattle.curp_model.specs.Master.{MasterState, unless_it_ends}
use Rattle.curp_msg.specs.Moved.{Moved, Node, numbered_move}

-- a move of the numbered master, unless a number of its own ends by it
abbrev pub move_of : Node MasterState → Moved MasterState → Moved (Node MasterState)
move_of m r = numbered_move m.number (unless_it_ends m.state r)
