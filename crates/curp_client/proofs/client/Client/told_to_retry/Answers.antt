use Rattle.curp_model.specs.Client.{ClientState, retry}
use Rattle.curp_msg.proofs.Telling.{told_moves, told_refusal}
use Rattle.curp_msg.specs.Moved.{numbered_move, refuses_within}
use Rattle.curp_client.specs.Refusals.{retry_number, retry_numbers_refuse}
use Rattle.curp_client.specs.Refused.{retry_refuses}
use Rattle.curp_client.proofs.client.Client.told_to_retry.Goals as goal

pub returns-clause-moves : goal.returns-clause-moves
returns-clause-moves c =
    let node = c.args.self.now in
    let seq = c.args.seq in
    rw c.told.ensures
    (told_moves retry_number node _ (numbered_move node.number (retry node.number node.state seq)) _ retry_numbers_refuse
    (refuses_within (λ (s : ClientState). record { number = node.number; state = s }) node.state (retry node.number node.state seq) (retry_refuses node.number node.state seq))
    c.retry.ensures.refused c.retry.ensures.moves)

pub returns-clause-refused : goal.returns-clause-refused
returns-clause-refused c = rw c.told.ensures (told_refusal retry_number _ _ c.retry.ensures.refused)
