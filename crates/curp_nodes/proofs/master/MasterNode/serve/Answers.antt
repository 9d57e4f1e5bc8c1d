use Rattle.std.proofs.Common.{◌≡◌, ap, sym, ◌∙◌, refl}
use Rattle.curp_recover.specs.declared.recovery.Recovery.{Recovery}
use Rattle.curp_nodes.specs.Stages.{node_of, served}
use Rattle.curp_nodes.specs.declared.stage.Stage.{Stage}
use Rattle.curp_nodes.specs.declared.stage.Stage.TheVariants as stage
use Rattle.curp_nodes.proofs.master.MasterNode.serve.Goals as goal
use Rattle.curp_nodes.proofs.master.MasterNode.serve.Goals.{in-Recovering, in_default}

-- what isn't a recovery stays
stays : (s : Stage) → ((r : Recovery) → s ≡ stage.Recovering r → ⊥) → node_of s ≡ served (node_of s)
stays (stage.Fresh number) other = refl
stays (stage.Recovering r) other = absurd (other r refl)
stays (stage.Serving m) other = refl

-- a recovery is adopted, and what else stands stays
pub returns : goal.returns
returns c =
    let before = ap (λ (s : Stage). served (node_of s)) c.replace-stage.ensures.value ∙ ap served c.self.view_is in
    elim c.match-stage.branch [
      | in-Recovering w ↦
          ap node_of w.t-9-is ∙ w.adopted.ensures ∙ ap (λ (s : Stage). served (node_of s)) (sym w.in-Recovering.is) ∙ before
      | in_default w ↦
          ap node_of w.t-9-is ∙ stays c.replace-stage.result w.in_default.not-Recovering ∙ before
    ]
