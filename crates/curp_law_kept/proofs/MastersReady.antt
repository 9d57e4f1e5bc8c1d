-- Lists that become ready by an input to their master have its whole log on each of their backups.
use Rattle.std.proofs.Common.{◌≡◌, ◌⊎◌, inl, inr, ℕ, ◌≤◌, true, List, [], length, refl, ap, sym, ◌∙◌, subst, Option, Some}
use Rattle.curp_base.specs.Words.{At, Each, numbered}
use Rattle.curp_base.proofs.Lists.{Each-at, Each-weaker}
use Rattle.curp_cmd.specs.Node.{is_among, manager_node, master_node}
use Rattle.curp_cmd.specs.declared.entry.Entry.{Entry}
use Rattle.curp_cmd.specs.declared.node.NodeId.{NodeId}
use Rattle.curp_msg.specs.Moved.{says, sends}
use Rattle.curp_msg.specs.declared.body.Body.{Body}
use Rattle.curp_msg.specs.declared.body.Body.TheVariants as body
use Rattle.curp_msg.specs.declared.body.Recover.{Recover}
use Rattle.curp_msg.specs.declared.body.Recovered.{Recovered}
use Rattle.curp_msg.specs.declared.message.Message.{Message}
use Rattle.curp_model.specs.Backup.{BackupState}
use Rattle.curp_model.specs.Manager.{ManagerState}
use Rattle.curp_model.specs.Master.{MasterState, Open, Phase, Switch, Switching}
use Rattle.curp_model.specs.Recovery.{Asking, Fresh, MasterStage, Recovering, RecoveryPhase, RecoveryState, Replayed, Serving, Storing, Waiting, all_complete}
use Rattle.curp_model.specs.World.{World}
use Rattle.curp_facts.specs.Facts.{ByRecovery, ByReplacement, HasLog, IsAmong, IsGiven, Lists, Logged, WasSent, lists_of_order, lists_of_prepare, node_log}
use Rattle.curp_facts.specs.Kept.{lists_of_master}
use Rattle.curp_facts.specs.Nodes.{IsWaiting, MasterOk, ServingOk, StageOk, SwitchOk}
use Rattle.curp_facts.specs.Reach.{HasMany, HasStored, IsReady, Whole}
use Rattle.curp_law_kept.proofs.Apart.{not_both}
use Rattle.curp_facts.specs.Known.{Known}
use Rattle.curp_law_kept.proofs.MastersHeard.{one_log}
use Rattle.curp_law_kept.proofs.MastersMoves.{MasterStep, StageMove}
use Rattle.curp_law_kept.proofs.ManagerWorlds.{sent_cases}
use Rattle.curp_law_kept.proofs.Moved.{given_back, sent_back}
use Rattle.curp_law_kept.specs.Moves.{Begins, IsSaidBy, ListsMove, Prepares, PreparedSays, RecoverySays, ServingMove, ServingSays, Stays, TakesUp}
use Rattle.curp_law_kept.specs.Stages.{FreshSays}
use Rattle.curp_law_kept.proofs.Among.{each_tested, found_among}
use Rattle.curp_law_kept.proofs.Synced.{acknowledged_many}
use Rattle.curp_law_kept.proofs.NumberedLists.{among_each}
use Rattle.curp_law_kept.proofs.Words.{Follows, one_state}
use Rattle.curp_law_kept.proofs.Acknowledging.{one_switch}

-- who is open doesn't switch
pub no_switch : {p : Phase} {s : Switch} → p ≡ Open → p ≡ Switching s → ⊥
no_switch a b = cc

-- what each backup that is known to be complete has, each of the order has, once all are
pub all_stored : (w : World) (n : ℕ) (o : Recover) (r : Replayed) → all_complete o r ≡ true → Each (HasStored w n) r.complete → Each (HasStored w n) o.backups
all_stored w n o r all complete = each_tested (HasStored w n) (λ b. is_among b r.complete) o.backups (λ b y. let m = found_among b r.complete y in Each-at (HasStored w n) r.complete complete m.place b m.stands) all

-- a backup that has so many, has so many
pub stored_many : (w : World) (n : ℕ) (node : NodeId) → HasStored w n node → HasMany w n node
stored_many w n node h b is = subst (λ (x : BackupState). n ≤ length x.log) (one_state _ h.b b h.is.its_state is.its_state) h.low

module _ {w v : World} (known : Known w) {n : ℕ} {from : NodeId} {heard : Option Body} {m k : MasterStage} {out : List Message} (s : MasterStep w v n from heard m k out) where
  -- the backups are as they were
  pub many_now : (count : ℕ) (backups : List NodeId) → Each (HasMany w count) backups → Each (HasMany v count) backups
  many_now count backups all = Each-weaker (HasMany w count) (HasMany v count)
      (λ node many b is. many b (record { its_kind = is.its_kind; its_state = subst (λ (bs : List BackupState). numbered bs node.number ≡ Some b) s.backups is.its_state })) backups all

  pub shape_same : v.manager.shape ≡ w.manager.shape
  shape_same = ap (λ (g : ManagerState). g.shape) s.frame.manager

  pub given_was : (l : Lists) → IsGiven v l → IsGiven w l
  given_was = given_back w v out s.frame.sent (master_node n) s.frame.all shape_same s.frame.not_manager

  -- what the manager has sent it has sent before
  pub manager_was : (to : NodeId) (b : Body) → WasSent v (says manager_node to b) → WasSent w (says manager_node to b)
  manager_was to b sent = sent_back w v out s.frame.sent (master_node n) s.frame.all (says manager_node to b) sent s.frame.not_manager

  -- what is said now is of the master that moves
  pub is_mover : (node to : NodeId) (b : Body) → IsAmong (says node to b) out → node ≡ master_node n
  is_mover node to b now = among_each (λ (x : Message). x.from ≡ master_node n) out s.frame.all (says node to b) now

  module _ (l : Lists) (given : IsGiven w l) (its_master : l.master ≡ master_node n) where
    -- each backup of the list has the log of the master that has moved
    whole_now : (log : List Entry) (round : ℕ) → node_log k ≡ Some (record { log = log; round = round }) → (backups : List NodeId) → l.backups ≡ backups → Each (HasMany w (length log)) backups → Whole v l
    whole_now log round is backups same many its has =
        let here : HasLog v (master_node n) its = subst (λ (x : NodeId). HasLog v x its) its_master has in
        let one : its ≡ record { log = log; round = round } = one_log v (master_node n) its _ here (record { m = k; is = s.is; its_log = is }) in
        subst (λ (x : Logged). Each (HasMany v (length x.log)) l.backups) (sym one) (subst (λ (bs : List NodeId). Each (HasMany v (length log)) bs) (sym same) (many_now (length log) backups many))

  -- ---- prepared

  -- the lists to which a master switches were given
  pub next_given : (x : MasterState) (t : Switch) → ServingOk w (master_node n) x → SwitchOk w (master_node n) x t
      → IsGiven w (lists_of_prepare (lists_of_master (master_node n) x) (record { version = t.version; backups = t.backups; witnesses = t.witnesses }))
  next_given x t ok switch = ByReplacement (lists_of_master (master_node n) x) (record { version = t.version; backups = t.backups; witnesses = t.witnesses }) ok.adopted.given switch.ordered

  module _ (l : Lists) (given : IsGiven w l) (its_master : l.master ≡ master_node n) where
    by_switch : (x : MasterState) → m ≡ Serving x → (y : MasterState) → k ≡ Serving y → ServingMove w n x from heard (sends y out) → ServingOk w (master_node n) x → PreparedSays y l.version → IsReady w l ⊎ Whole v l
    by_switch x was y is move ok said = go move.lists
      where
        go : ListsMove n x from heard y out → IsReady w l ⊎ Whole v l
        go (Stays version backups witnesses phase) =
            let sent = (ok.switching said.s (sym phase ∙ said.switches)).prepared said.prepared in
            inl (record {
              given = given;
              told = inr (inl (subst (λ (number : ℕ). WasSent w (says l.master manager_node (body.Prepared number))) said.its_version (subst (λ (node : NodeId). WasSent w (says node manager_node (body.Prepared said.s.version))) (sym its_master) sent)));
            })
        go (Begins version backups witnesses came is_open above same_version same_backups same_witnesses phase round) =
            let one = one_switch y.phase said.s _ said.switches phase in
            absurd (not_both (sym (ap (λ (t : Switch). t.prepared) one) ∙ said.prepared))
        go (Prepares t switches unprepared log all version backups witnesses phase says_so) =
            let one = one_switch y.phase said.s _ said.switches phase in
            let its_version : l.version ≡ t.version = sym said.its_version ∙ ap (λ (u : Switch). u.version) one in
            let next = next_given x t ok (ok.switching t switches) in
            let same = (known.names.agree l _ given next).by_version its_master its_version in
            inr (whole_now l given its_master y.log y.round (ap node_log is) t.backups (ap (λ (u : Lists). u.backups) same) (acknowledged_many w y move.acknowledged (length y.log) t.backups all))
        go (TakesUp t a came version switches prepared takes backups witnesses phase) = absurd (no_switch phase said.switches)

    module _ (b : Body) (now : IsAmong (says l.master manager_node b) out) where
      said : (Say : NodeId → Body → Type 0) → Each (IsSaidBy n Say) out → Say manager_node b
      said Say all = (among_each (IsSaidBy n Say) out all (says l.master manager_node b) now).says_so

      nothing : out ≡ [] → ⊥
      nothing none = let at : At [] now.place (says l.master manager_node b) = subst (λ (xs : List Message). At xs now.place (says l.master manager_node b)) none now.stands in cc

    by_prepared : IsAmong (says l.master manager_node (body.Prepared l.version)) out → IsReady w l ⊎ Whole v l
    by_prepared now = go m refl k refl s.move (known.inv.masters (master_node n) m s.was)
      where
        go : (x : MasterStage) → m ≡ x → (y : MasterStage) → k ≡ y → StageMove w n from heard x y out → MasterOk w (master_node n) x → IsReady w l ⊎ Whole v l
        go Fresh was Fresh is move ok = absurd (said (body.Prepared l.version) now (FreshSays w) move)
        go Fresh was (Recovering t) is move ok = absurd (said (body.Prepared l.version) now (RecoverySays w t) move.move.says)
        go (Recovering x) was (Recovering t) is move ok = absurd (said (body.Prepared l.version) now (RecoverySays w t) move.says)
        go (Recovering x) was (Serving y) is move ok = absurd (nothing (body.Prepared l.version) now move.silent)
        go (Serving x) was (Serving y) is move ok = by_switch x was y is move ok (said (body.Prepared l.version) now (ServingSays w y) move.says).0
        go _ was _ is move ok = absurd move

    -- ---- recovered

    module _ (order : Recover) (ordered : WasSent w (says manager_node (master_node n) (body.Recover order))) (its_version : order.version ≡ l.version) where
      by_waiting : (o : Recover) → o ≡ order → (p : RecoveryPhase) → node_log k ≡ node_log (Recovering (record { order = o; phase = p })) → StageOk w (record { order = o; phase = p }) p → IsWaiting p → Whole v l
      by_waiting o same (Waiting r) is stage waits =
          let stored : Each (HasStored w (length r.log)) o.backups = all_stored w (length r.log) o r stage.1 stage.0.complete in
          let one : l ≡ lists_of_order (master_node n) order = (known.names.agree l (lists_of_order (master_node n) order) given (ByRecovery (master_node n) order ordered)).by_version its_master (sym its_version) in
          whole_now l given its_master r.log r.round is o.backups (ap (λ (x : Lists). x.backups) one ∙ ap (λ (x : Recover). x.backups) (sym same))
          (Each-weaker (HasStored w (length r.log)) (HasMany w (length r.log)) (stored_many w (length r.log)) o.backups stored)
      by_waiting o same (Asking log requests) is stage waits = absurd waits
      by_waiting o same (Storing r) is stage waits = absurd waits

      by_recovered : (r : Recovered) → IsAmong (says l.master manager_node (body.Recovered r)) out → Whole v l
      by_recovered r now = go m k refl s.move (known.inv.masters (master_node n) m s.was)
        where
          go : (x : MasterStage) (y : MasterStage) → k ≡ y → StageMove w n from heard x y out → MasterOk w (master_node n) x → Whole v l
          go Fresh Fresh is move ok = absurd (said (body.Recovered r) now (FreshSays w) move)
          go Fresh (Recovering t) is move ok = absurd (subst (λ (x : RecoveryState). IsWaiting x.phase) move.asks (said (body.Recovered r) now (RecoverySays w t) move.move.says).3)
          go (Recovering x) (Recovering t) is move ok =
              by_waiting t.order (move.order ∙ known.names.one_order (master_node n) x.order order ok.ordered ordered) t.phase (ap node_log is) move.stage (said (body.Recovered r) now (RecoverySays w t) move.says).3
          go (Recovering x) (Serving y) is move ok = absurd (nothing (body.Recovered r) now move.silent)
          go (Serving x) (Serving y) is move ok = absurd (said (body.Recovered r) now (ServingSays w y) move.says)
          go _ _ is move ok = absurd move

  -- ---- ready

  -- lists that are ready now were so before, or each of their backups has their master's whole log
  pub ready_by : (l : Lists) → IsReady v l → IsReady w l ⊎ Whole v l
  ready_by l ready = elim ready.told [
    | inl one ↦ inl (record { given = given; told = inl one })
    | inr told ↦ elim told [
      | inl prepared ↦ elim (sent_cases w v out s.frame.sent _ prepared) [
        | inl was ↦ inl (record { given = given; told = inr (inl was) })
        | inr now ↦ by_prepared l given (is_mover l.master manager_node (body.Prepared l.version) now) now
      ]
      | inr r ↦ elim (sent_cases w v out s.frame.sent _ r.told) [
        | inl was ↦ inl (record { given = given; told = inr (inr (record { order = r.order; ordered = manager_was l.master (body.Recover r.order) r.ordered; its_version = r.its_version; told = was })) })
        | inr now ↦
            let mover = is_mover l.master manager_node _ now in
            inr (by_recovered l given mover r.order (subst (λ (x : NodeId). WasSent w (says manager_node x (body.Recover r.order))) mover (manager_was l.master (body.Recover r.order) r.ordered)) r.its_version _ now)
      ]
    ]
  ]
    where
      given : IsGiven w l
      given = given_was l ready.given

  -- the step leads on
  pub step_follows : Follows w v
  step_follows = record { grows = s.grows; later = s.later; names = known.names; steady = known.steady; ready = ready_by }
