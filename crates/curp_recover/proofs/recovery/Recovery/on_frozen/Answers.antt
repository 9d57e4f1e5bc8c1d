use Rattle.std.proofs.Common.{◌≡◌, List, Some, None, sym, ◌∙◌, ap}
use Rattle.curp_cmd.specs.declared.command.Request.{Request}
use Rattle.curp_cmd.specs.declared.entry.Entry.{Entry}
use Rattle.curp_model.specs.Recovery.{Asking, RecoveryState, requests_come}
use Rattle.curp_msg.specs.Moved.{Node}
use Rattle.curp_recover.specs.Stage.{phase_of}
use Rattle.curp_recover.specs.declared.stage.RecoveryStage.TheVariants as stage
use Rattle.curp_recover.proofs.Came.{makes_both, requests_there}
use Rattle.curp_recover.proofs.recovery.Recovery.on_frozen.Goals as goal

pub returns-in_ok-stage-in-Asking-Some-None-clause-moves :
    goal.returns-in_ok-stage-in-Asking-Some-None-clause-moves
returns-in_ok-stage-in-Asking-Some-None-clause-moves c =
    let n = c.args.self.now.number in
    let s = c.args.self.now.state in
    let here = c.in-Asking-Some-None in
    let made = c.in_ok-stage-in-Asking-Some-None in
    let entries = c.as_slice-entries.result.now in
    let asks : c.self.inside.stage ≡ stage.Asking (Some here.fenced) None = cc in
    let kept : here.fenced.entries ≡ entries = sym c.take_log.ensures.kept ∙ sym c.as_slice-entries.ensures in
    let phase : s.phase ≡ Asking (Some entries) None =
    sym (ap (λ (v : Node RecoveryState). v.state.phase) c.self.view_is) ∙ ap phase_of asks ∙ ap (λ (xs : List Entry). Asking (Some xs) None) kept in
    let moved =
    ap (λ (rs : List Request). requests_come n s s.order.witness rs s.phase) (sym c.deref.ensures.value)
    ∙ requests_there n s entries c.deref.result.now phase in
    makes_both n c.self.inside.number s c.self.inside.order made.stage made.done (Some entries) (Some c.deref.result.now) _
    (ap (λ (v : Node RecoveryState). v.number) c.self.view_is)
    (ap (λ (v : Node RecoveryState). v.state.order) c.self.view_is)
    made.ensures.state made.ensures.done moved
