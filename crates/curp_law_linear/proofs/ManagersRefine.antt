-- An input to the manager is at most one move of the machine.
use Rattle.std.proofs.Common.{◌≡◌, List, [], ◌∷◌, length, ap, sym, ◌∙◌, Option, Some, None, ℕ, ◌+◌, subst}
use Rattle.curp_base.specs.Words.{Each, numbered}
use Rattle.curp_cmd.specs.Node.{manager_node}
use Rattle.curp_msg.specs.Moved.{Moved}
use Rattle.curp_msg.specs.Input.{Input}
use Rattle.curp_order.specs.declared.Event.{Event}
use Rattle.curp_msg.specs.declared.config.PartConfig.{PartConfig}
use Rattle.curp_model.specs.Manager.{Attempted, ManagerState, adoption, manager_input}
use Rattle.curp_model.specs.Recovery.{Recovering, RecoveryState, Replayed, Waiting}
use Rattle.curp_model.specs.World.{World}
use Rattle.curp_law_kept.specs.Deeds.{IsFor}
use Rattle.curp_law_kept.specs.ManagerEffect.{ManagerEffect}
use Rattle.curp_facts.specs.Known.{Known}
use Rattle.curp_law_kept.proofs.Gives.{manager_does, Later, manager_moved, one_state}
use Rattle.curp_law_linear.specs.Moves.{Adopts, LineMove}
use Rattle.curp_law_linear.specs.Ordered.{Ordered}
use Rattle.curp_law_linear.specs.Refined.{NoAdoption, Refines, EarlyAfter}
use Rattle.curp_law_linear.proofs.Adopt.{adopt_fits, adopt_leads}
use Rattle.curp_law_linear.proofs.AdoptDone.{adopt}
use Rattle.curp_law_linear.proofs.AdoptRecovery.{Recovery, backup_begins, recovery}
use Rattle.curp_law_linear.proofs.Managers.{steady_refines}
use Rattle.curp_law_linear.proofs.ManagersDeeds.{Leads, Renews, manager_leads}
use Rattle.curp_law_linear.proofs.Parts.{line_logs}
use Rattle.curp_law_linear.proofs.ReadsAdoption.{WaitsFor}
use Rattle.curp_law_linear.proofs.ReadsManager.{AdoptsThat}
use Rattle.curp_facts.specs.Names.{Names}
use Rattle.curp_facts.specs.Predecessors.{Predecessors}
use Rattle.curp_facts.specs.Migrated.{Migrated}
use Rattle.curp_facts.specs.Routes.{Routes}
use Rattle.curp_law_linear.specs.Line.{CutEarly, LineState}
use Rattle.curp_law_linear.specs.OfWorld.{line_of}
use Rattle.curp_model.specs.Marks.{adoptions}
use Rattle.curp_law_linear.proofs.QuickBegins.{cut_early_begins}

-- the moves adopt what the manager adopts, if it does, and as much of its log as was recovered
abbrev pub AdoptsOnly : World → Option Attempted → List LineMove → Type 0
AdoptsOnly w None moves = Each NoAdoption moves
AdoptsOnly w (Some a) moves = (h : WaitsFor w a.master) → Each (AdoptsThat a.order.part h.p.cut) moves

-- moves that lead from the one world to the other, with what they adopt
pub record ManagerRefines (w v : World) (o : Option Attempted) : Type 0 where
  pub its : Refines w v
  pub adopts : AdoptsOnly w o its.moves
  pub early : EarlyAfter w v o

module _ {w : World} (known : Known w) (chain : Predecessors w) (routes : Routes w) (migrated : Migrated w) (ordered : Ordered w) (events : List Event) (none : events ≡ []) where
  -- the recovered log was cut where the backup's log ends
  same_cut : (c : PartConfig) (a : Attempted) (o : Recovery w c a) (h : WaitsFor w a.master) → length o.b.log ≡ h.p.cut
  same_cut c a o h = sym o.cut ∙ ap (λ (p : Replayed). p.cut) (waiting (sym o.phase ∙ ap (λ (s : RecoveryState). s.phase) (state (one_state (numbered w.masters a.master.number) (Recovering o.s) (Recovering h.s) o.is.its_state h.is.its_state)) ∙ h.waits))
    where
      waiting : {p q : Replayed} → Waiting p ≡ Waiting q → p ≡ q
      waiting e = cc

      state : {s t : RecoveryState} → Recovering s ≡ Recovering t → s ≡ t
      state e = cc

  -- by what it does
  leads_refine : (r : Moved ManagerState) → ManagerEffect w r → (o : Option Attempted) → Leads w r.state o → Names (manager_moved w o events r) → Later w (manager_moved w o events r) → Routes (manager_moved w o events r)
      → ManagerRefines w (manager_moved w o events r) o
  leads_refine r does None leads names later after =
      let q = steady_refines known chain routes migrated ordered events none r does names later after leads in
      record { its = q.its; adopts = q.quiet; early = tt }
  leads_refine r does (Some _) (Renews a o parts moving) names later after =
      let rec : Recovery w o.c a = recovery known a o in
      let prefix = backup_begins known o.c a rec in
      record {
        its = record {
          moves = Adopts (adopt known chain routes migrated ordered o.c a rec prefix) ∷ [];
          fit = (adopt_fits known chain routes migrated ordered o.c a rec prefix, line_logs known ordered, tt);
          leads = sym (adopt_leads known chain routes migrated ordered o.c a rec prefix events none r does names later parts moving);
        };
        adopts = λ h. ((sym rec.ok.its_part, same_cut o.c a rec h), tt);
        early = λ id c.
            subst (λ (p : ℕ). CutEarly (line_of (manager_moved w (Some a) events r)) p (adoptions p w.marks + 1) id c) (sym rec.ok.its_part)
            (subst (λ (l : LineState). CutEarly l o.c.part (adoptions o.c.part w.marks + 1) id c) (sym (adopt_leads known chain routes migrated ordered o.c a rec prefix events none r does names later parts moving))
            (cut_early_begins (line_of w) (adopt known chain routes migrated ordered o.c a rec prefix) id c));
      }

  -- whatever comes to the manager
  pub manager_refines : (given : Input) → IsFor w manager_node given
      → Names (manager_moved w (adoption w.manager given) events (manager_input w.manager given))
      → Later w (manager_moved w (adoption w.manager given) events (manager_input w.manager given))
      → Routes (manager_moved w (adoption w.manager given) events (manager_input w.manager given))
      → ManagerRefines w (manager_moved w (adoption w.manager given) events (manager_input w.manager given)) (adoption w.manager given)
  manager_refines given for = leads_refine (manager_input w.manager given) (manager_does known given for) (adoption w.manager given) (manager_leads known.names given for)
