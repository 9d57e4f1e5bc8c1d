-- The attempt that an input lets the manager adopt: over which entry it was made, and what its master has replayed.
use Rattle.std.proofs.Common.{◌≡◌, ℕ, ◌+◌, ◌||◌, ◌==◌, Bool, true, false, if◌then◌else◌, refl, ap, sym, ◌∙◌, subst, arith, Option, Some, None}
use Rattle.std.specs.Option.{option_and_then}
use Rattle.std.proofs.lemmas.Bool.Decides.{nat_tests}
use Rattle.curp_base.specs.Cases.{only_if}
use Rattle.curp_base.specs.Words.{numbered, rises_past}
use Rattle.curp_cmd.specs.Node.{manager_node}
use Rattle.curp_cmd.specs.declared.node.NodeId.{NodeId}
use Rattle.curp_msg.specs.Moved.{Moved, quiet, says}
use Rattle.curp_msg.specs.declared.body.Body.{Body}
use Rattle.curp_msg.specs.declared.body.Body.TheVariants as body
use Rattle.curp_msg.specs.declared.body.Recovered.{Recovered}
use Rattle.curp_msg.specs.declared.config.PartConfig.{PartConfig}
use Rattle.curp_msg.specs.Input.{Input}
use Rattle.curp_msg.specs.Input as input
use Rattle.curp_model.specs.Manager as manager
use Rattle.curp_model.specs.Manager.{Attempted, Doing, ManagerState, Recovering, Replacing, Steady, adopted_by, adoption, adopts, attempt_at, counter_ends, finished, last_number, manager_input, on_manager, part_at, recovered_in, recovered_part, unless_numbers_end}
use Rattle.curp_model.specs.World.{World}
use Rattle.curp_facts.specs.Facts.{WasSent}
use Rattle.curp_law_kept.specs.Deeds.{IsFor}
use Rattle.curp_model.proofs.Managers.{counters_stay}

-- the attempt was told to be finished, over the entry of its partition, which it replaces
pub record Finished (w : World) (a : Attempted) (after : Moved ManagerState) : Type 0 where
  pub r : Recovered
  pub from : NodeId
  pub sent : WasSent w (says from manager_node (body.Recovered r))
  pub entry : PartConfig
  pub here : numbered w.manager.config.parts r.part ≡ Some entry
  pub doing : numbered w.manager.doing r.part ≡ Some (Recovering a.master a.order)
  pub its_epoch : a.order.epoch ≡ r.epoch
  pub is : after ≡ adopts w.manager r.part (recovered_part entry a)

module _ (w : World) (a : Attempted) where
  abbrev g : ManagerState
  g = w.manager

  -- the attempt is what is being done
  attempted : (epoch : ℕ) (d : Option Doing) → attempt_at epoch d ≡ Some a → (d ≡ Some (Recovering a.master a.order)) × (a.order.epoch ≡ epoch)
  attempted epoch (Some (Recovering master o)) e = go (o.epoch == epoch) refl e
    where
      one : {x y : Attempted} → Some x ≡ Some y → x ≡ y
      one e = cc

      go : (b : Bool) → (o.epoch == epoch) ≡ b → only_if b (record { master = master; order = o }) ≡ Some a → (Some (Recovering master o) ≡ Some (Recovering a.master a.order)) × (a.order.epoch ≡ epoch)
      go true t e =
          let same = one e in
          let epochs : o.epoch ≡ epoch = grind (arith, nat_tests) in
          (ap (λ (x : Attempted). Some (Recovering x.master x.order)) same, ap (λ (x : Attempted). x.order.epoch) (sym same) ∙ epochs)
      go false t e = absurd cc
  attempted epoch (Some Steady) e = absurd cc
  attempted epoch (Some (Replacing kind fresh version backups witnesses)) e = absurd cc
  attempted epoch None e = absurd cc

  through : (r : Moved ManagerState) (b : Bool) → b ≡ false → (if b then quiet g else r) ≡ r
  through r true e = absurd cc
  through r false e = refl

  recovered : (r : Recovered) → adopted_by g (body.Recovered r) ≡ Some a → (from : NodeId) → WasSent w (says from manager_node (body.Recovered r)) → Finished w a (unless_numbers_end g (manager.on_recovered g r))
  unfolding manager.on_recovered
  recovered r none from sent = by_serial (rises_past last_number g.config.serial (g.config.serial + 1)) refl none
    where
      by_part : rises_past last_number g.config.serial (g.config.serial + 1) ≡ false → finished g r ≡ Some a → (o : Option PartConfig) → part_at g r.part ≡ o
          → option_and_then (λ (c : PartConfig). attempt_at r.epoch (numbered g.doing r.part)) o ≡ Some a → Finished w a (unless_numbers_end g (recovered_in g r (finished g r) (part_at g r.part)))
      by_part low done None is e = absurd cc
      by_part low done (Some c) is e =
          let t = attempted r.epoch (numbered g.doing r.part) e in
          record {
            r = r;
            from = from;
            sent = sent;
            entry = c;
            here = is;
            doing = t.0;
            its_epoch = t.1;
            is = ap (λ (x : Option Attempted). unless_numbers_end g (recovered_in g r x (part_at g r.part))) done
                ∙ ap (λ (x : Option PartConfig). unless_numbers_end g (recovered_in g r (Some a) x)) is
                ∙ through (adopts g r.part (recovered_part c a)) (counter_ends g.next g.next || rises_past last_number g.config.serial (g.config.serial + 1)) (neither (counters_stay g.next) low);
          }
        where
          neither : {x y : Bool} → x ≡ false → y ≡ false → (x || y) ≡ false
          neither p q = cc

      by_serial : (b : Bool) → rises_past last_number g.config.serial (g.config.serial + 1) ≡ b → (if b then None else finished g r) ≡ Some a → Finished w a (unless_numbers_end g (recovered_in g r (finished g r) (part_at g r.part)))
      by_serial true low e = absurd cc
      by_serial false low e = by_part low e (part_at g r.part) refl e

  heard_finished : (from : NodeId) (b : Body) → WasSent w (says from manager_node b) → adopted_by g b ≡ Some a → Finished w a (on_manager g from b)
  unfolding on_manager
  heard_finished from (body.Recovered r) sent e = recovered r e from sent
  heard_finished from _ sent e = absurd cc

  -- the attempt that an input lets the manager adopt
  pub attempt_finished : (given : Input) → IsFor w manager_node given → adoption g given ≡ Some a → Finished w a (manager_input g given)
  attempt_finished (input.Local order) for e = absurd cc
  attempt_finished (input.Message m) for e = heard_finished m.from m.body (subst (λ (to : NodeId). WasSent w (says m.from to m.body)) for.0 for.1) e
