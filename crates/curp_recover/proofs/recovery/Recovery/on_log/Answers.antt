use Rattle.std.proofs.Common.{rules, ◌≡◌, true, Option, Some, None, is_some, sym, ◌∙◌, ap}
use Rattle.curp_log.specs.Content.{Content}
use Rattle.curp_model.specs.Log.{is_log}
use Rattle.curp_model.specs.Recovery.{Asking, RecoveryState}
use Rattle.curp_msg.specs.Moved.{Node}
use Rattle.curp_msg.specs.declared.body.Recover.{Recover}
use Rattle.curp_recover.specs.Stage.{phase_of}
use Rattle.curp_recover.specs.declared.stage.RecoveryStage.TheVariants as stage
use Rattle.curp_recover.proofs.Came.{log_there, makes_both}
use Rattle.curp_recover.proofs.recovery.Recovery.on_log.Goals as goal

pub returns-clause-moves : goal.returns-clause-moves
returns-clause-moves c =
    let n = c.args.self.now.number in
    let s = c.args.self.now.state in
    let here = c.in-Asking-None-default in
    let entries = c.args.entries.now in
    let asks : c.self.inside.stage ≡ stage.Asking None here.requests = search rules in
    let order : c.self.inside.order ≡ s.order = ap (λ (v : Node RecoveryState). v.state.order) c.self.view_is in
    let phase : s.phase ≡ Asking None here.requests = sym (ap (λ (v : Node RecoveryState). v.state.phase) c.self.view_is) ∙ ap phase_of asks in
    let log : is_log s.order.lo s.order.hi entries ≡ true =
    sym (ap (λ (o : Recover). is_log o.lo o.hi entries) order) ∙ sym c.in_ok-log.ensures.is_log ∙ ap (λ (l : Option Content). is_some l) c.in-Some.is in
    makes_both n c.self.inside.number s c.self.inside.order c.in_ok-stage.stage c.in_ok-stage.done (Some entries) here.requests _
    (ap (λ (v : Node RecoveryState). v.number) c.self.view_is)
    order c.in_ok-stage.ensures.state c.in_ok-stage.ensures.done
    (log_there n s entries here.requests phase log)
