-- A delivery keeps a world calm, and where every message is delivered nothing pends.
use Rattle.std.proofs.Common.{◌≡◌, ◌≤◌, ℕ, suc, [], length, arith}
use Rattle.curp_base.specs.Words.{At}
use Rattle.curp_base.proofs.Lists.{at_within}
use Rattle.curp_msg.specs.declared.config.PartConfig.{PartConfig}
use Rattle.curp_msg.specs.declared.message.Message.{Message}
use Rattle.curp_msg.specs.declared.outcome.StepResult.TheVariants.{Done}
use Rattle.curp_msg.specs.declared.script.Step.TheVariants as steps
use Rattle.curp_model.specs.Client.{ClientState}
use Rattle.curp_model.specs.Master.{MasterState}
use Rattle.curp_model.specs.World.{World, messages, step}
use Rattle.curp_law_served.specs.Calm.{Calm, IsUndelivered}
use Rattle.curp_law_served.specs.Grounds.{Grounds, IsCalm}
use Rattle.curp_law_served.proofs.Ends.{none_pends}
use Rattle.curp_law_served.proofs.Kept.{kept}
use Rattle.curp_law_served.proofs.Steps.{delivered}

-- a delivery that is made keeps it calm
pub delivers_on : (w : World) (done : ℕ) (x : Message) → At (messages w) done x
    → (step w (steps.Deliver (suc done))).outcome.result ≡ Done
    → (c : PartConfig) (q : ℕ) (m : MasterState) (cl : ClientState)
    → Calm w done c q m cl → Grounds w done c m cl → IsCalm (step w (steps.Deliver (suc done))).world (suc done) c q
delivers_on w done x at made c q m cl calm grounds = kept w (step w (steps.Deliver (suc done))).world done x at (delivered w done x at made) c q m cl calm grounds

-- where every message is delivered, none is on its way
nothing_due : (w : World) → (x : Message) → IsUndelivered w (length (messages w)) x → ⊥
nothing_due w x due = absurd (omega (arith, due.1, at_within (messages w) due.0 x due.2))

-- then no request pends
pub none_left : (w : World) (c : PartConfig) (q : ℕ) (m : MasterState) (cl : ClientState)
    → Calm w (length (messages w)) c q m cl → 1 ≤ length m.backups → cl.pending ≡ []
none_left w c q m cl calm some = none_pends (IsUndelivered w (length (messages w))) (nothing_due w) q m calm.goes some c cl.pending calm.pends
