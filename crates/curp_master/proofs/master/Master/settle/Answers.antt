use Rattle.std.proofs.Common.{◌≡◌, ◌∙◌, ap, refl}
use Rattle.curp_model.specs.Master.{MasterState, settle}
use Rattle.curp_msg.specs.Moved.{Node}
use Rattle.curp_rounds.specs.Backups.{raised_by}
use Rattle.curp_master.specs.Settling.{acknowledging, listing}
use Rattle.curp_master.proofs.Settled.{settled_moves}
use Rattle.curp_master.proofs.master.Master.settle.Goals as goal

pub returns : goal.returns
returns c =
    let m : MasterState = c.args.self.now.state in
    let after : MasterState = acknowledging m c.args.more.now in
    let number : c.release.new.self.number ≡ c.args.self.now.number = c.release.ensures.number ∙ c.in_ok-acknowledge.ensures.number in
    let state : c.release.new.self.state ≡ (settle c.args.self.now.number after).state =
    c.release.ensures.state ∙ (λ i. (settle (c.in_ok-acknowledge.ensures.number i) (c.in_ok-acknowledge.ensures.state i)).state)
    in
    let heard = c.raised.ensures ∙ ap (λ (n : Node MasterState). raised_by n.state.acknowledged c.args.more.now) c.self.view_is in
    let backups = c.deref.ensures.value ∙ ap (λ (n : Node MasterState). n.state.backups) c.self.view_is in
    let version = ap (λ (n : Node MasterState). n.state.version) c.self.view_is in
    let sent : c.in_ok-sent.sent.items ≡ (settle c.args.self.now.number after).messages =
    c.in_ok-sent.ensures ∙ (λ i. (settle c.args.self.now.number (listing m (heard i) (backups i) (version i))).messages)
    in
    let moves = settled_moves c.args.self.now c.release.new.self after c.in_ok-sent.sent.items refl refl number state sent in
    record { moves = (moves.0, c.sends.ensures ∙ moves.1) }
