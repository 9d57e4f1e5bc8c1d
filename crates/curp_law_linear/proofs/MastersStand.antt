-- A master that was adopted and doesn't serve yet keeps its log: it waits, and begins to serve with what it has replayed.
use Rattle.std.proofs.Common.{◌≡◌, ℕ, List, refl, ap, ap₂, sym, ◌∙◌, subst, arith, Option, Some, None}
use Rattle.curp_cmd.specs.Node.{manager_node, master_node}
use Rattle.curp_cmd.specs.declared.node.NodeId.{NodeId}
use Rattle.curp_msg.specs.Moved.{says}
use Rattle.curp_msg.specs.declared.body.Body.{Body}
use Rattle.curp_msg.specs.declared.body.Body.TheVariants as body
use Rattle.curp_msg.specs.declared.body.Recover.{Recover}
use Rattle.curp_msg.specs.declared.body.Recovered.{Recovered}
use Rattle.curp_msg.specs.declared.message.Message.{Message}
use Rattle.curp_model.specs.Backup.{BackupState}
use Rattle.curp_model.specs.Named.{IsBackup, IsMaster, IsWitness}
use Rattle.curp_model.specs.Master.{MasterState}
use Rattle.curp_model.specs.Recovery.{Asking, Fresh, MasterStage, Recovering, RecoveryPhase, RecoveryState, Replayed, Serving, Storing, Waiting, replay}
use Rattle.curp_model.specs.Witness.{WitnessState, frozen_requests}
use Rattle.curp_model.specs.World.{World}
use Rattle.curp_facts.specs.Facts.{ByRecovery, Lists, Logged, ReplayOk, WasAdopted, WasSent, lists_of_order, node_log, phase_log}
use Rattle.curp_facts.specs.Nodes.{IsWaiting, RecovererOk, StageOk}
use Rattle.curp_facts.specs.Known.{Known}
use Rattle.curp_law_kept.proofs.Gives.{StageMove}
use Rattle.curp_law_linear.specs.OfWorld.{logged_entries}
use Rattle.curp_facts.specs.Names.{RecoverOrderOk}
use Rattle.curp_facts.specs.Predecessors.{Predecessor, Predecessors}
use Rattle.curp_law_runs.proofs.Gives.{one_backup, one_witness}

-- the log stays, and so does that there is one
pub record SameLog (m k : MasterStage) : Type 0 where
  pub entries : logged_entries (node_log k) ≡ logged_entries (node_log m)
  pub logged : (y : Logged) → node_log k ≡ Some y → (l : Logged) × (node_log m ≡ Some l) × (y.log ≡ l.log)

module _ {w : World} (known : Known w) (chain : Predecessors w) (n : ℕ) where
  -- a master that was adopted and recovers waits
  pub adopted_waits : (s : RecoveryState) → IsMaster w (master_node n) (Recovering s) → (l : Lists) → WasAdopted w l → l.master ≡ master_node n → IsWaiting s.phase
  adopted_waits s is l was its =
      let ok : RecovererOk w (master_node n) s = known.inv.masters (master_node n) (Recovering s) is in
      let home : RecoverOrderOk w (master_node n) s.order = known.names.manager_says (master_node n) (body.Recover s.order) ok.ordered in
      let agree = known.names.agree l (lists_of_order (master_node n) s.order) was.given (ByRecovery (master_node n) s.order ok.ordered) in
      let epoch : l.epoch ≡ s.order.epoch = (agree.by_master its).1 in
      let first = (known.names.given home.before home.was.given).epoch.0 in
      let p : Predecessor w l = chain l was (omega (arith, epoch, first, home.earlier)) in
      let r : Recovered = record { part = l.part; epoch = l.epoch } in
      ok.told r (subst (λ (x : NodeId). WasSent w (says x manager_node (body.Recovered r))) its p.told)

  -- a replay is the same as long as the order is
  replay_same : (s t : RecoveryState) → t.order ≡ s.order → (r q : Replayed) → ReplayOk w s r → ReplayOk w t q → q.log ≡ r.log
  replay_same s t same r q a b =
      go s.order t.order same a.sources.b b.sources.b a.sources.x b.sources.x a.sources.its_backup b.sources.its_backup a.sources.its_witness b.sources.its_witness a.is b.is
    where
      go : (o p : Recover) → p ≡ o → (b c : BackupState) (x y : WitnessState) → IsBackup w o.backup b → IsBackup w p.backup c → IsWitness w o.witness x → IsWitness w p.witness y
          → r.log ≡ replay o.lo o.hi b.log (frozen_requests x) → q.log ≡ replay p.lo p.hi c.log (frozen_requests y) → q.log ≡ r.log
      go o p same b c x y ib ic ix iy first second =
          let one = one_backup c b (subst (λ (z : Recover). IsBackup w z.backup c) same ic) ib in
          let other = one_witness y x (subst (λ (z : Recover). IsWitness w z.witness y) same iy) ix in
          second ∙ ap (λ (z : Recover). replay z.lo z.hi c.log (frozen_requests y)) same
          ∙ ap₂ (λ (u : BackupState) (z : WitnessState). replay o.lo o.hi u.log (frozen_requests z)) one other ∙ sym first

  -- the logs of two stages that wait
  waiting_same : (s t : RecoveryState) → t.order ≡ s.order → IsWaiting s.phase → IsWaiting t.phase → StageOk w s s.phase → StageOk w t t.phase → SameLog (Recovering s) (Recovering t)
  waiting_same s t same = go s.phase t.phase refl refl
    where
      go : (p q : RecoveryPhase) → s.phase ≡ p → t.phase ≡ q → IsWaiting p → IsWaiting q → StageOk w s p → StageOk w t q → SameLog (Recovering s) (Recovering t)
      go (Waiting r) (Waiting q) is it a b x y =
          let log = replay_same s t same r q x.0.replayed y.0.replayed in
          record {
            entries = ap (λ (z : RecoveryPhase). logged_entries (phase_log z)) it ∙ log ∙ sym (ap (λ (z : RecoveryPhase). logged_entries (phase_log z)) is);
            logged = λ u e.
                let its : q.log ≡ u.log = ap (λ (z : Option Logged). logged_entries z) (sym (ap phase_log it) ∙ e) in
                (record { log = r.log; round = r.round }, ap phase_log is, sym its ∙ log);
          }
      go (Asking log requests) q is it a b x y = absurd a
      go (Storing r) q is it a b x y = absurd a
      go (Waiting r) (Asking log requests) is it a b x y = absurd b
      go (Waiting r) (Storing q) is it a b x y = absurd b

  pub fresh_stands : (t : RecoveryState) → node_log (Recovering t) ≡ None → SameLog Fresh (Recovering t)
  fresh_stands t none = record { entries = ap logged_entries none; logged = λ y e. absurd (let both = sym none ∙ e in cc) }

  pub recovering_stands : (l : Lists) → WasAdopted w l → l.master ≡ master_node n → (s t : RecoveryState) → IsMaster w (master_node n) (Recovering s) → (from : NodeId) (heard : Option Body) (out : List Message)
      → StageMove w n from heard (Recovering s) (Recovering t) out → SameLog (Recovering s) (Recovering t)
  recovering_stands l was its s t is from heard out move =
      let waits = adopted_waits s is l was its in
      let ok : RecovererOk w (master_node n) s = known.inv.masters (master_node n) (Recovering s) is in
      waiting_same s t move.order waits (move.waits waits) ok.stage move.stage

  pub begins_stands : (s : RecoveryState) (k : MasterState) (from : NodeId) (heard : Option Body) (out : List Message)
      → StageMove w n from heard (Recovering s) (Serving k) out → SameLog (Recovering s) (Serving k)
  begins_stands s k from heard out move = record {
    entries = move.log ∙ sym (ap (λ (z : RecoveryPhase). logged_entries (phase_log z)) move.waits);
    logged = λ y e.
        let same : k.log ≡ y.log = ap logged_entries e in
        (record { log = move.r.log; round = move.r.round }, ap phase_log move.waits, sym same ∙ move.log);
  }
