-- A recovery that is adopted: its master waits with what it replayed over the log of a backup and the requests of a witness of the
-- present lists.
use Rattle.std.proofs.Common.{◌≡◌, ℕ, List, [], inl, inr, length, refl, ap, sym, ◌∙◌, subst, arith, Some, None}
use Rattle.curp_base.specs.Words.{IsPrefix}
use Rattle.curp_base.proofs.Lists.{prefix_push}
use Rattle.curp_cmd.specs.Node.{manager_node}
use Rattle.curp_cmd.specs.declared.entry.Entry.{Entry}
use Rattle.curp_cmd.specs.declared.node.NodeId.{NodeId}
use Rattle.curp_msg.specs.Moved.{says}
use Rattle.curp_msg.specs.declared.body.Body.TheVariants as body
use Rattle.curp_msg.specs.declared.body.Recover.{Recover}
use Rattle.curp_msg.specs.declared.config.PartConfig.{PartConfig}
use Rattle.curp_model.specs.Backup.{BackupState}
use Rattle.curp_model.specs.Manager.{Attempted}
use Rattle.curp_model.specs.Named.{IsBackup, IsMaster, IsWitness}
use Rattle.curp_model.specs.Recovery.{Asking, Fresh, MasterStage, Recovering, RecoveryPhase, RecoveryState, Replayed, Serving, Storing, Waiting, replay}
use Rattle.curp_model.specs.Witness.{WitnessState, frozen_requests}
use Rattle.curp_model.specs.World.{World}
use Rattle.curp_facts.specs.Facts.{ByRecovery, IsAdoptedNow, Logged, WasSent, hi_of, lists_of_order, lists_of_part, lo_of, node_log}
use Rattle.curp_facts.specs.Kept.{lists_of_master}
use Rattle.curp_facts.specs.Nodes.{IsWaiting, MasterOk, StageOk}
use Rattle.curp_facts.specs.Said.{RecoveredSaid}
use Rattle.curp_facts.specs.Known.{Known}
use Rattle.curp_law_kept.proofs.Gives.{said}
use Rattle.curp_law_linear.specs.OfWorld.{part_of}
use Rattle.curp_law_linear.proofs.ManagersDeeds.{Recovers}
use Rattle.curp_law_linear.proofs.Parts.{part_log}
use Rattle.curp_facts.specs.Names.{Agree, RecoverOrderOk, RecoveringOk}

-- the master of the attempt waits with its replay over the backup's log and the witness's requests
pub record Recovery (w : World) (c : PartConfig) (a : Attempted) : Type 0 where
  pub now : IsAdoptedNow w c
  pub ok : RecoveringOk w (lists_of_part c) a.master a.order
  pub s : RecoveryState
  pub r : Replayed
  pub is : IsMaster w a.master (Recovering s)
  pub phase : s.phase ≡ Waiting r
  pub b : BackupState
  pub its_backup : IsBackup w a.order.backup b
  pub x : WitnessState
  pub its_witness : IsWitness w a.order.witness x
  pub log : r.log ≡ replay (lo_of w c.part) (hi_of w c.part) b.log (frozen_requests x)
  pub cut : r.cut ≡ length b.log

module _ {w : World} (known : Known w) where
  module _ (a : Attempted) (o : Recovers w a) where
    its : RecoveredSaid w o.from o.told
    its = said known o.from manager_node (body.Recovered o.told) o.sent

    agree : Agree (lists_of_order o.from its.holds.order) (lists_of_order a.master a.order)
    agree = known.names.agree (lists_of_order o.from its.holds.order) (lists_of_order a.master a.order) (ByRecovery o.from its.holds.order its.holds.sent) (ByRecovery a.master a.order o.ok.sent)

    -- it has said so itself
    same_master : o.from ≡ a.master
    same_master = agree.by_late_epoch (omega (arith, its.holds.its_epoch, o.its_epoch, o.ok.later, (known.names.given (lists_of_part o.c) (known.names.top o.c o.now).was.given).epoch.0)) (its.holds.its_epoch ∙ sym o.its_epoch)

    home : RecoverOrderOk w a.master a.order
    home = known.names.manager_says a.master (body.Recover a.order) o.ok.sent

    lo_is : a.order.lo ≡ lo_of w o.c.part
    lo_is = home.its_lo ∙ ap (lo_of w) o.ok.its_part

    hi_is : a.order.hi ≡ hi_of w o.c.part
    hi_is = home.its_hi ∙ ap (hi_of w) o.ok.its_part

    none : {l : Logged} → None ≡ Some l → ⊥
    none e = cc

    by_phase : (s : RecoveryState) → IsMaster w a.master (Recovering s) → s.order ≡ a.order → (p : RecoveryPhase) → s.phase ≡ p → StageOk w s p → IsWaiting p → Recovery w o.c a
    by_phase s is order (Asking log requests) phase ok waits = absurd waits
    by_phase s is order (Storing r) phase ok waits = absurd waits
    by_phase s is order (Waiting r) phase ok waits =
        let re = ok.0.replayed in
        record {
          now = o.now;
          ok = o.ok;
          s = s;
          r = r;
          is = is;
          phase = phase;
          b = re.sources.b;
          its_backup = subst (λ (q : Recover). IsBackup w q.backup re.sources.b) order re.sources.its_backup;
          x = re.sources.x;
          its_witness = subst (λ (q : Recover). IsWitness w q.witness re.sources.x) order re.sources.its_witness;
          log = re.is
              ∙ ap (λ (q : Recover). replay q.lo q.hi re.sources.b.log (frozen_requests re.sources.x)) order
              ∙ ap (λ (lo : ℕ). replay lo a.order.hi re.sources.b.log (frozen_requests re.sources.x)) lo_is
              ∙ ap (λ (hi : ℕ). replay (lo_of w o.c.part) hi re.sources.b.log (frozen_requests re.sources.x)) hi_is;
          cut = re.its_cut;
        }

    by_stage : (m : MasterStage) → IsMaster w o.from m → MasterOk w o.from m → node_log m ≡ Some its.l → Recovery w o.c a
    by_stage Fresh is ok log = absurd (none log)
    by_stage (Recovering s) is ok log =
        by_phase s (subst (λ (node : NodeId). IsMaster w node (Recovering s)) same_master is)
        (known.names.one_order a.master s.order a.order (subst (λ (node : NodeId). WasSent w (says manager_node node (body.Recover s.order))) same_master ok.ordered) o.ok.sent)
        s.phase refl ok.stage (ok.told o.told o.sent)
    by_stage (Serving m) is ok log =
        let l = lists_of_master o.from m in
        let same = (known.names.agree l (lists_of_order a.master a.order) ok.adopted.given (ByRecovery a.master a.order o.ok.sent)).by_master same_master in
        absurd (omega (arith, same.1, o.ok.later, (known.names.top o.c o.now).epochs l ok.adopted (same.0 ∙ o.ok.its_part)))

    -- so it is
    pub recovery : Recovery w o.c a
    recovery = by_stage its.its_log.m its.its_log.is (known.inv.masters o.from its.its_log.m its.its_log.is) its.its_log.its_log

  -- the present log begins with that of the backup
  pub backup_begins : (c : PartConfig) (a : Attempted) (o : Recovery w c a) → IsPrefix o.b.log (part_of w c).log
  backup_begins c a o = elim (known.inv.backups (lists_of_part c) (known.names.top c o.now).was.given a.order.backup o.ok.its_backup o.b o.its_backup).follows [
    | inl none ↦ subst (λ (es : List Entry). IsPrefix es (part_of w c).log) (sym none) (prefix_push [] (part_of w c).log)
    | inr f ↦ subst (IsPrefix o.b.log) (sym (part_log known c (record { now = o.now; its = f.its; its_log = f.its_log }))) f.prefix
  ]
