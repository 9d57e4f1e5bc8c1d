use Rattle.curp_model.specs.Client.{ClientState, invoke}
use Rattle.curp_msg.proofs.Telling.{told_moves, told_refusal}
use Rattle.curp_msg.specs.Moved.{numbered_move, refuses_within}
use Rattle.curp_client.specs.Refusals.{invoke_number, invoke_numbers_refuse}
use Rattle.curp_client.specs.Refused.{invoke_refuses}
use Rattle.curp_client.proofs.client.Client.told_to_invoke.Goals as goal

pub returns-clause-moves : goal.returns-clause-moves
returns-clause-moves c =
    let node = c.args.self.now in
    let command = c.args.command.now in
    rw c.told.ensures
    (told_moves invoke_number node _ (numbered_move node.number (invoke node.number node.state command)) _ invoke_numbers_refuse
    (refuses_within (λ (s : ClientState). record { number = node.number; state = s }) node.state (invoke node.number node.state command) (invoke_refuses node.number node.state command))
    c.invoke.ensures.refused c.invoke.ensures.moves)

pub returns-clause-refused : goal.returns-clause-refused
returns-clause-refused c = rw c.told.ensures (told_refusal invoke_number _ _ c.invoke.ensures.refused)
