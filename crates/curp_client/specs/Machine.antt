-- The machine of a client: what an input does to it.
use Rattle.curp_msg.specs.Moved.{Moved, Node, numbered_move}
use Rattle.curp_msg.specs.Input.{Input}
use Rattle.curp_model.specs.Client.{ClientState, client_input}

unfoldable pub client_machine : Node ClientState → Input → Moved (Node ClientState)
client_machine c given = numbered_move c.number (client_input c.number c.state given)
