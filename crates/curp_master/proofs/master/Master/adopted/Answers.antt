use Rattle.std.proofs.Common.{◌≡◌, ◌∙◌, subst}
use Rattle.curp_model.specs.Master.{settle}
use Rattle.curp_master.specs.Switching.{IsSettledNext, next_lists, taken_up}
use Rattle.curp_master.proofs.Settled.{adopted_moves}
use Rattle.curp_master.proofs.master.Master.adopted.Goals as goal

pub returns : goal.returns
returns c =
    let number : c.release.new.self.number ≡ c.args.self.now.number = c.release.ensures.number ∙ c.in_ok-take_up.ensures.number in
    let state : c.release.new.self.state ≡ (settle c.args.self.now.number (taken_up c.args.self.now.state)).state =
    c.release.ensures.state ∙ (λ i. (settle (c.in_ok-take_up.ensures.number i) (c.in_ok-take_up.ensures.state i)).state)
    in
    let said = subst (IsSettledNext c.args.self.now c.args.version (next_lists c.args.version c.args.self.now.state.phase)) c.in-Some.is c.in_ok-next.ensures in
    let moves = adopted_moves c.args.self.now c.release.new.self c.args.version c.in-Some.next said number state in
    record { moves = (moves.0, c.sends.ensures ∙ moves.1) }
