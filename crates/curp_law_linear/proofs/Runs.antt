-- In every run what is kept of the order holds.
use Rattle.std.proofs.Common.{List, sym, subst}
use Rattle.curp_msg.specs.declared.script.Header.{Header}
use Rattle.curp_msg.specs.declared.script.Step.{Step}
use Rattle.curp_model.specs.World.{World, step, world}
use Rattle.curp_facts.specs.Growth.{Grows}
use Rattle.curp_msg.specs.Script.{IsRun, IsStep}
use Rattle.curp_law_kept.proofs.Gives.{step_grows, StepCase, ByBackup, ByClient, ByManager, ByMaster, ByWitness, Rests, Stays, step_case, along, known_step, Later, step_goes}
use Rattle.curp_facts.specs.Known.{Known}
use Rattle.curp_law_linear.specs.Ordered.{Ordered}
use Rattle.curp_law_linear.proofs.Always.{KeepsOrder, backup_keeps_order, client_keeps_order, master_keeps_order, ordered_after, rest_keeps_order, stay_keeps_order, witness_keeps_order}
use Rattle.curp_law_linear.proofs.Commands.{commands_step}
use Rattle.curp_law_linear.proofs.ManagersKeep.{manager_keeps_order}
use Rattle.curp_law_linear.proofs.Opened.{ordered_opening}
use Rattle.curp_facts.specs.Kept.{LivesEarly}
use Rattle.curp_law_linear.proofs.LivesEarly.{lives_step, lives_opening}
use Rattle.curp_law_runs.proofs.Gives.{Moving, migrated_now, moving_opening, moving_step}

-- what holds in every run, beside what nodes and messages keep
pub record Orderly (w : World) : Type 0 where
  pub moving : Moving w
  pub ordered : Ordered w
  pub lives : LivesEarly w

module _ {w v : World} (known : Known w) (m : Moving w) (ordered : Ordered w) (grows : Grows w v) (later : Later w v) (now : Known v) (n : Moving v) where
  -- what a step does keeps what is kept of the order
  case_keeps_order : StepCase w v → KeepsOrder w v
  case_keeps_order (Stays is) = subst (KeepsOrder w) (sym is) (stay_keeps_order ordered)
  case_keeps_order (Rests r) = rest_keeps_order known m.chain (migrated_now w known m) ordered r grows later now n.chain
  case_keeps_order (ByClient k given c here for made key is) = client_keeps_order known m.chain (migrated_now w known m) ordered k given c here for made is grows later now n.chain
  case_keeps_order (ByBackup k given b here for events none is) = backup_keeps_order known m.chain (migrated_now w known m) ordered k given b here events none is grows later now n.chain
  case_keeps_order (ByWitness k given x here for events none is) = witness_keeps_order known m.chain (migrated_now w known m) ordered k given x here events none is grows later now n.chain
  case_keeps_order (ByMaster k given s here for events none is) =
      subst (KeepsOrder w) (sym is)
      (master_keeps_order known m.chain m.routes (migrated_now w known m) ordered k given s here for events none
      (subst (Grows w) is grows) (subst (Later w) is later) (subst Known is now) (subst Moving is n).chain (migrated_now _ (subst Known is now) (subst Moving is n)))
  case_keeps_order (ByManager given for events none is) =
      subst (KeepsOrder w) (sym is)
      (manager_keeps_order known m.chain m.routes (migrated_now w known m) ordered events none given for
      (subst (Grows w) is grows) (subst (Later w) is later) (subst Known is now) (subst Moving is n).chain (subst Moving is n).routes)

-- each step does
pub step_keeps_order : (w : World) → Known w → Orderly w → (x : Step) → IsStep x → KeepsOrder w (step w x).world
step_keeps_order w known o x its =
    case_keeps_order known o.moving o.ordered (step_grows w x) (step_goes w (record { names = known.names; nodes = known.nodes }) x).later
    (known_step w known x) (moving_step w known x its o.moving) (step_case w known x its)

orderly_step : (w : World) → Known w → (x : Step) → IsStep x → Orderly w → Orderly (step w x).world
orderly_step w known x its o = record {
  moving = moving_step w known x its o.moving;
  ordered = ordered_after o.ordered (commands_step (step_case w known x its) o.ordered.commands) (step_keeps_order w known o x its);
  lives = lives_step known o.moving.chain (known_step w known x) (step_grows w x) (step_goes w (record { names = known.names; nodes = known.nodes }) x).later (step_case w known x its) o.lives;
}

-- and so each run
pub orderly_all : (h : Header) (steps : List Step) → IsRun h steps → Known (world h steps) × Orderly (world h steps)
orderly_all h steps is = along Orderly orderly_step h steps is (record { moving = moving_opening h; ordered = ordered_opening h is.header; lives = lives_opening h })
