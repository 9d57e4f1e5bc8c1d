use Rattle.std.proofs.Common.{◌≡◌, ◌∷◌, take}
use Rattle.curp_cmd.specs.Node.{client_node}
use Rattle.curp_msg.specs.Moved.{says, says_each}
use Rattle.curp_client.proofs.sending.to_all.Given as goal

-- the master's message, and one to each witness so far
abbrev pub invariant-loop-witness : goal.invariant-loop-witness
invariant-loop-witness l = l.messages.items ≡ says (client_node l.number) l.part.master l.fn.asked ∷ says_each (client_node l.number) (take l.witness-index l.part.witnesses) l.told
