-- The order, late replies, the growth of the order and all that is kept, in every run.
use Rattle.std.proofs.Common.{List}
use Rattle.curp_msg.specs.declared.script.Header.{Header}
use Rattle.curp_msg.specs.declared.script.Step.{Step}
use Rattle.curp_order.specs.Order.{IsHistory, IsOrder}
use Rattle.curp_model.specs.World.{order, step, world}
use Rattle.curp_facts.specs.Kept.{Kept, LateRepliesAgree, ValuesMarked, QuicksMarked}
use Rattle.curp_msg.specs.Script.{IsRun, IsStep}
use Rattle.curp_law_linear.specs.Line.{StandsIn}
use Rattle.curp_law_linear.specs.Grows.{completed_in_order}
use Rattle.curp_law_linear.proofs.AdoptedLogs.{serves_all}
use Rattle.curp_law_linear.proofs.KeptReads.{values_kept}
use Rattle.curp_law_linear.proofs.KeptWorld.{kept_of_world}
use Rattle.curp_law_linear.proofs.Runs.{orderly_all, step_keeps_order}
use Rattle.curp_law_linear.proofs.Statements as statements
use Rattle.curp_law_runs.proofs.Gives.{migrated_now, facts_all, pairs_all}
use Rattle.curp_law_linear.proofs.KeptQuicks.{quicks_kept}

module _ (h : Header) (steps : List Step) (is : IsRun h steps) where
  pub history_all : IsHistory (world h steps).history
  history_all = statements.history_of_world (orderly_all h steps is).1.ordered

  pub order_all : IsOrder (world h steps).history (order (world h steps))
  order_all = statements.order_of_world (orderly_all h steps is).1.ordered

  pub late_all : LateRepliesAgree (world h steps)
  late_all =
      let all = orderly_all h steps is in
      statements.late_replies all.0 all.1.moving.chain (migrated_now (world h steps) all.0 all.1.moving) all.1.ordered

  pub values_all : ValuesMarked (world h steps)
  values_all = let all = orderly_all h steps is in values_kept all.0 all.1.ordered

  pub quicks_all : QuicksMarked (world h steps)
  quicks_all = let all = orderly_all h steps is in quicks_kept all.0 all.1.ordered

  pub grows_all : (s : Step) → IsStep s → StandsIn (completed_in_order (world h steps)) (completed_in_order (step (world h steps) s).world)
  grows_all s its =
      let all = orderly_all h steps is in
      statements.order_grows all.0 all.1.ordered (step_keeps_order (world h steps) all.0 all.1 s its).refines

  pub kept_all : Kept (world h steps)
  kept_all =
      let all = orderly_all h steps is in
      kept_of_world all.0 all.1.moving.chain all.1.moving.routes (migrated_now (world h steps) all.0 all.1.moving) all.1.ordered (serves_all h steps)
      (pairs_all h steps is) (facts_all h steps is) all.1.lives
