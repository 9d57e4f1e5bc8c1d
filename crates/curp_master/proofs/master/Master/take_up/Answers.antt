use Rattle.std.proofs.Common.{◌≡◌, length, ap, sym, ◌∙◌}
use Rattle.curp_model.specs.Master.{MasterState}
use Rattle.curp_msg.specs.Moved.{Node}
use Rattle.curp_master_log.specs.MasterLog.{KeptLog}
use Rattle.curp_rounds.specs.Backups.{stored_by_all}
use Rattle.curp_rounds.specs.Phases.{phase_of}
use Rattle.curp_rounds.specs.declared.phase.MasterPhase.{MasterPhase}
use Rattle.curp_rounds.specs.declared.phase.MasterPhase.TheVariants.{Open, Switching}
use Rattle.curp_master.specs.Switching.{taken_up, taken_up_in}
use Rattle.curp_master.specs.contracts.master.Master.{the_view}
use Rattle.curp_master.proofs.KeptUp.{settled}
use Rattle.curp_master.proofs.master.Master.take_up.Goals as goal

-- what is synced is what all backups of the next list have
pub invariant_of-self-in-Switching : goal.invariant_of-self-in-Switching
invariant_of-self-in-Switching c =
    let m : MasterState = (the_view c.self.inside).state in
    let phase : c.self.inside.phase ≡ Switching c.in-Switching.switch = sym c.replace.ensures.value ∙ c.in-Switching.is in
    settled c.self.invariant
    (
    ap (λ (j : KeptLog). j.synced) c.in_ok-settle_anew.ensures.settled ∙ c.requires
    ∙ ap (λ (n : Node MasterState). stored_by_all n.state.acknowledged (taken_up n.state).backups) (sym c.self.view_is)
    ∙ ap (λ (p : MasterPhase). stored_by_all m.acknowledged (taken_up_in m (phase_of p)).backups) phase
    ∙ ap (stored_by_all m.acknowledged) (sym c.into_vec.ensures)
    )
    (ap (λ (j : KeptLog). length j.entries) c.in_ok-settle_anew.ensures.settled)

-- there is no next list
pub invariant_of-self-in_default : goal.invariant_of-self-in_default
invariant_of-self-in_default c =
    let m : MasterState = (the_view c.self.inside).state in
    let phase : c.self.inside.phase ≡ Open = sym c.replace.ensures.value ∙ c.in_default.is in
    settled c.self.invariant
    (
    ap (λ (j : KeptLog). j.synced) c.in_ok-settle_anew.ensures.settled ∙ c.requires
    ∙ ap (λ (n : Node MasterState). stored_by_all n.state.acknowledged (taken_up n.state).backups) (sym c.self.view_is)
    ∙ ap (λ (p : MasterPhase). stored_by_all m.acknowledged (taken_up_in m (phase_of p)).backups) phase
    )
    (ap (λ (j : KeptLog). length j.entries) c.in_ok-settle_anew.ensures.settled)
