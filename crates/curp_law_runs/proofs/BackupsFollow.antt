-- Each backup follows its master's log, and the master knows no more of it than there is.
use Rattle.std.proofs.Common.{◌≡◌, ◌⊎◌, inl, inr, ◌≤◌, ◌||◌, Bool, true, false, cond, List, [], ◌∷◌, length, refl, ap, sym, subst, arith, Some}
use Rattle.std.specs.List.{list_any}
use Rattle.curp_base.specs.Words.{Each, IsPrefix}
use Rattle.curp_cmd.specs.Node.{is_among, same_node}
use Rattle.curp_cmd.specs.declared.node.NodeId.{NodeId}
use Rattle.curp_cmd.proofs.Nodes.{same_node-true}
use Rattle.curp_model.specs.Backup.{BackupState}
use Rattle.curp_model.specs.Master.{Acknowledged, MasterState, from_backup}
use Rattle.curp_model.specs.Named.{IsBackup, IsMaster}
use Rattle.curp_model.specs.Recovery.{Recovering, RecoveryState, Replayed, Serving, Storing, Waiting}
use Rattle.curp_model.specs.World.{World}
use Rattle.curp_facts.specs.Facts.{IsAmong, IsGiven, Lists, Logged, phase_log}
use Rattle.curp_facts.specs.Invariant.{Invariant}
use Rattle.curp_facts.specs.Kept.{BackupsFollow, KnowsNoMore}
use Rattle.curp_facts.specs.Nodes.{AcknowledgedOk, RecovererOk, ReplayedOk, ServingOk, StageOk}
use Rattle.curp_facts.specs.Reach.{HasStored}
use Rattle.curp_facts.specs.Names.{Names}
use Rattle.curp_law_runs.proofs.Logs.{begins}
use Rattle.curp_law_runs.proofs.Prefixes.{prefix_whole}
use Rattle.curp_law_runs.proofs.Words.{one_backup}

-- what holds of each node of a list holds of one that is found there
found_each : (P : NodeId → Type 0) (nodes : List NodeId) (node : NodeId) → Each P nodes → is_among node nodes ≡ true → P node
found_each P [] node all e = absurd cc
found_each P (x ∷ xs) node all e = go (same_node node x) refl e (found_each P xs node all.1)
  where
    go : (b : Bool) → same_node node x ≡ b → (b || list_any (same_node node) xs) ≡ true → (is_among node xs ≡ true → P node) → P node
    go true same e rest = subst P (sym (same_node-true node x same)) all.0
    go false other e rest = rest e

module _ {w : World} (names : Names w) (inv : Invariant w) where
  -- a backup has what it has acknowledged, in rounds that were begun
  known : (m : MasterState) (node : NodeId) (b : BackupState) → IsBackup w node b → (acks : List Acknowledged) → Each (AcknowledgedOk w m) acks
      → ((from_backup acks node).length ≤ length b.log) × ((from_backup acks node).round ≤ m.round)
  known m node b is [] ok = (omega arith, omega arith)
  known m node b is (a ∷ rest) ok = go (same_node a.backup node) refl (known m node b is rest ok.1)
    where
      own : a.backup ≡ node → (a.length ≤ length b.log) × (a.round ≤ m.round)
      own same =
          let stored : HasStored w a.length a.backup = ok.0.stored in
          let its : IsBackup w node stored.b = subst (λ (n : NodeId). IsBackup w n stored.b) same stored.is in
          (subst (λ (c : BackupState). a.length ≤ length c.log) (one_backup stored.b b its is) stored.low, ok.0.begun)

      go : (t : Bool) → same_node a.backup node ≡ t → ((from_backup rest node).length ≤ length b.log) × ((from_backup rest node).round ≤ m.round)
          → ((cond t a (from_backup rest node)).length ≤ length b.log) × ((cond t a (from_backup rest node)).round ≤ m.round)
      go true same more = own (same_node-true a.backup node same)
      go false other more = more

  module _ (l : Lists) (given : IsGiven w l) (node : NodeId) (named : IsAmong node l.backups) (b : BackupState) (is : IsBackup w node b) where
    -- one that is known to be complete has the whole log
    complete : (s : RecoveryState) (r : Replayed) → IsMaster w l.master (Recovering s) → ReplayedOk w s r
        → phase_log s.phase ≡ Some (record { log = r.log; round = r.round }) → is_among node r.complete ≡ true → IsPrefix r.log b.log
    complete s r recovers ok its_log found =
        let its : Logged = record { log = r.log; round = r.round } in
        let stored : HasStored w (length r.log) node = found_each (HasStored w (length r.log)) r.complete node ok.complete found in
        let long : length r.log ≤ length b.log = subst (λ (c : BackupState). length r.log ≤ length c.log) (one_backup stored.b b stored.is is) stored.low in
        prefix_whole b.log r.log (begins names inv l given its (record { m = Recovering s; is = recovers; its_log = its_log }) node named b is) long

    by_phase : (s : RecoveryState) (r : Replayed) → IsMaster w l.master (Recovering s) → (s.phase ≡ Storing r) ⊎ (s.phase ≡ Waiting r)
        → is_among node r.complete ≡ true → IsPrefix r.log b.log
    by_phase s r recovers phase found =
        let ok : RecovererOk w l.master s = inv.masters l.master (Recovering s) recovers in
        elim phase [
          | inl storing ↦ complete s r recovers (subst (StageOk w s) storing ok.stage) (ap phase_log storing) found
          | inr waiting ↦ complete s r recovers ((subst (StageOk w s) waiting ok.stage).0) (ap phase_log waiting) found
        ]

    no_more : KnowsNoMore w l node b
    no_more = record {
      known = λ m serves. let ok : ServingOk w l.master m = inv.masters l.master (Serving m) serves in known m node b is m.acknowledged ok.acknowledged;
      complete = by_phase;
    }

  -- each backup follows its master's log
  pub backups_follow : BackupsFollow w
  backups_follow l given node named b is = ((inv.backups l given node named b is).follows, no_more l given node named b is)
