-- An input by which the manager adopts a recovery keeps what is kept of reads.
use Rattle.std.proofs.Common.{◌≡◌, ◌⊎◌, inl, inr, ℕ, ◌-◌, List, [], ◌∷◌, drop, set, refl, ap, sym, ◌∙◌, subst, arith, Option, Some, None, ◌≤◌, length}
use Rattle.curp_base.specs.Words.{Each, numbered}
use Rattle.curp_base.proofs.Lists.{Each-weaker}
use Rattle.curp_cmd.specs.Node.{manager_node}
use Rattle.curp_cmd.specs.declared.node.NodeId.{NodeId}
use Rattle.curp_msg.specs.Moved.{Moved, says}
use Rattle.curp_msg.specs.declared.body.Adopted.{Adopted}
use Rattle.curp_msg.specs.declared.body.Body.TheVariants as body
use Rattle.curp_msg.specs.declared.config.PartConfig.{PartConfig}
use Rattle.curp_msg.specs.declared.machine.Completed.{Completed}
use Rattle.curp_msg.specs.Input.{Input}
use Rattle.curp_msg.specs.declared.message.Message.{Message}
use Rattle.curp_order.specs.declared.Event.{Event}
use Rattle.curp_model.specs.Manager.{Attempted, ManagerState, Recovering, adopted_message, adoption, manager_input, recovered_part}
use Rattle.curp_model.specs.Marks as mark
use Rattle.curp_model.specs.Named.{IsMaster, IsBackup}
use Rattle.curp_model.specs.Recovery as recovery
use Rattle.curp_model.specs.Recovery.{Asking, Fresh, MasterStage, RecoveryPhase, RecoveryState, Replayed, Serving, Storing, Waiting}
use Rattle.curp_model.specs.World.{World, marks_adopted, marks_after, op_requests, replayed_in, with_adoption, with_completion}
use Rattle.curp_facts.specs.Facts.{ByRecovery, IsAdoptedNow, WasSent, lists_of_order, lists_of_part, ReplayOk}
use Rattle.curp_facts.specs.Kept.{lists_of_master}
use Rattle.curp_facts.specs.Nodes.{IsWaiting, MasterOk}
use Rattle.curp_facts.specs.Said.{RecoveredSaid}
use Rattle.curp_law_kept.specs.Deeds.{IsFor}
use Rattle.curp_base.proofs.Numbered.{numbered_set_cases, numbered_set_same, place}
use Rattle.curp_law_kept.specs.ManagerEffect.{ManagerEffect, Uttered}
use Rattle.curp_facts.specs.Known.{Known}
use Rattle.curp_law_kept.proofs.Gives.{said, manager_does, manager_moved, moved_messages, Follows}
use Rattle.curp_law_linear.specs.Ordered.{Ordered, StoredFrom, CutsFollow, CutsTimed}
use Rattle.curp_law_linear.specs.Refined.{Refines, EarlyAfter}
use Rattle.curp_law_linear.proofs.ReadsFinished.{Finished, attempt_finished}
use Rattle.curp_law_linear.proofs.ReadsLater.{EntryStays, ReadsOk}
use Rattle.curp_law_linear.proofs.ReadsManager.{AdoptsRecovery, AdoptsThat, ManagerSaid, adoption_reads, cut_stored, cut_within, cut_replay, cut_backup, lives}
use Rattle.curp_law_linear.proofs.ReadsManagerLists.{manager_said, new_entry}
use Rattle.curp_law_linear.proofs.ReadsManagerSteps.{was_heard}
use Rattle.curp_facts.specs.Names.{RecoveringOk}
use Rattle.curp_facts.specs.Predecessors.{Predecessors}
use Rattle.curp_law_runs.proofs.Gives.{manager_adopts}
use Rattle.curp_law_linear.proofs.CutsAdopt.{cuts_follow_adopted, cuts_cases}
use Rattle.curp_law_linear.specs.OfWorld.{log_of}
use Rattle.curp_law_linear.proofs.CutsTimes.{timed_more}

-- a master that waits to be adopted, with what it has replayed
pub record WaitsFor (w : World) (node : NodeId) : Type 0 where
  pub s : RecoveryState
  pub is : IsMaster w node (recovery.Recovering s)
  pub p : Replayed
  pub waits : s.phase ≡ Waiting p

module _ {w : World} (known : Known w) (a : Attempted) {after : Moved ManagerState} (fin : Finished w a after) where
  entry_part : fin.entry.part ≡ fin.r.part
  entry_part = let p = place w.manager.config.parts fin.r.part fin.entry fin.here in omega (arith, p.1, known.names.entries p.0 fin.entry p.2)

  was_now : IsAdoptedNow w fin.entry
  was_now = subst (λ (i : ℕ). numbered w.manager.config.parts i ≡ Some fin.entry) (sym entry_part) fin.here

  attempt_ok : RecoveringOk w (lists_of_part fin.entry) a.master a.order
  attempt_ok = known.names.doing fin.entry (Recovering a.master a.order) was_now (subst (λ (i : ℕ). numbered w.manager.doing i ≡ Some (Recovering a.master a.order)) (sym entry_part) fin.doing)

  -- the one who told it is the attempt's master
  told_by : fin.from ≡ a.master
  told_by =
      let ok : RecoveredSaid w fin.from fin.r = said known fin.from manager_node (body.Recovered fin.r) fin.sent in
      (known.names.agree (lists_of_order fin.from ok.holds.order) (lists_of_order a.master a.order) (ByRecovery fin.from ok.holds.order ok.holds.sent) (ByRecovery a.master a.order attempt_ok.sent)).by_epoch
      (ok.its_part ∙ sym entry_part ∙ sym attempt_ok.its_part) (ok.holds.its_epoch ∙ sym fin.its_epoch)

  pub attempt_waits : WaitsFor w a.master
  attempt_waits =
      let ok : RecoveredSaid w fin.from fin.r = said known fin.from manager_node (body.Recovered fin.r) fin.sent in
      let is : IsMaster w a.master ok.its_log.m = subst (λ (z : NodeId). IsMaster w z ok.its_log.m) told_by ok.its_log.is in
      go ok.its_log.m is (known.inv.masters a.master ok.its_log.m is)
    where
      sent : WasSent w (says a.master manager_node (body.Recovered fin.r))
      sent = subst (λ (z : NodeId). WasSent w (says z manager_node (body.Recovered fin.r))) told_by fin.sent

      phase : (x : RecoveryPhase) → IsWaiting x → (p : Replayed) × (x ≡ Waiting p)
      phase (Waiting p) e = (p, refl)
      phase (Asking log requests) e = absurd e
      phase (Storing r) e = absurd e

      go : (x : MasterStage) → IsMaster w a.master x → MasterOk w a.master x → WaitsFor w a.master
      go Fresh is ok = absurd (ok.untold fin.r sent)
      go (recovery.Recovering s) is ok = let h = phase s.phase (ok.told fin.r sent) in record { s = s; is = is; p = h.0; waits = h.1 }
      go (Serving y) is ok =
          let agree = (known.names.agree (lists_of_master a.master y) (lists_of_order a.master a.order) ok.adopted.given (ByRecovery a.master a.order attempt_ok.sent)).by_master refl in
          let low = (known.names.top fin.entry was_now).epochs (lists_of_master a.master y) ok.adopted (agree.0 ∙ attempt_ok.its_part) in
          absurd (omega (arith, low, agree.1, attempt_ok.later))

  -- the marks follow what its master has replayed
  pub attempt_marks : (h : WaitsFor w a.master) (completed : Option Completed) (adopted : Option Attempted) → completed ≡ None → adopted ≡ Some a
      → with_completion completed (with_adoption w.masters adopted w.marks) ≡ mark.adopted a.master a.order.part a.order.epoch h.p.cut (op_requests (drop h.p.cut h.p.log)) w.marks
  attempt_marks h completed adopted idle is =
      ap (λ (o : Option Completed). with_completion o (with_adoption w.masters adopted w.marks)) idle
      ∙ ap (λ (o : Option Attempted). with_adoption w.masters o w.marks) is
      ∙ ap (λ (o : Option MasterStage). marks_adopted a o w.marks) h.is.its_state
      ∙ ap (λ (x : RecoveryPhase). marks_after a (replayed_in x) w.marks) h.waits

module _ {w : World} (known : Known w) (given : Input) (adopted : Option Attempted) (events : List Event) (a : Attempted) (for : IsFor w manager_node given) (is : adoption w.manager given ≡ Some a) where
  abbrev result : Moved ManagerState
  result = manager_input w.manager given

  abbrev v : World
  v = manager_moved w adopted events result

  fin : Finished w a result
  fin = attempt_finished w a given for is

  abbrev entry : PartConfig
  entry = recovered_part fin.entry a

  parts : result.state.config.parts ≡ set w.manager.config.parts (fin.r.part - 1) entry
  parts = ap (λ (r : Moved ManagerState). r.state.config.parts) fin.is

  entry_now : IsAdoptedNow v entry
  entry_now =
      subst (λ (cs : List PartConfig). numbered cs fin.entry.part ≡ Some entry) (sym parts)
      (subst (λ (i : ℕ). numbered (set w.manager.config.parts (fin.r.part - 1) entry) i ≡ Some entry) (sym (entry_part known a fin)) (numbered_set_same w.manager.config.parts fin.r.part fin.entry entry fin.here))

  entries : (c : PartConfig) → IsAdoptedNow v c → (c ≡ entry) ⊎ EntryStays w c
  entries c here = elim (numbered_set_cases w.manager.config.parts fin.r.part fin.entry entry fin.here c.part c (subst (λ (cs : List PartConfig). numbered cs c.part ≡ Some c) parts here)) [
    | inl other ↦ inr (record { entry = c; now = other.1; its_part = refl; its_epoch = refl; its_master = refl })
    | inr new ↦ inl (sym new.1)
  ]

  told : (c : PartConfig) → result.messages ≡ adopted_message c ∷ [] → (entry.master ≡ c.master) × (entry.version ≡ c.version)
  told c same = go (first (sym (ap (λ (r : Moved ManagerState). r.messages) fin.is) ∙ same))
    where
      first : {x y : Message} → x ∷ [] ≡ y ∷ [] → x ≡ y
      first e = cc

      words : (x y : Adopted) → body.Adopted x ≡ body.Adopted y → x ≡ y
      words x y e = cc

      go : adopted_message entry ≡ adopted_message c → (entry.master ≡ c.master) × (entry.version ≡ c.version)
      go e = (ap (λ (m : Message). m.to) e, ap (λ (x : Adopted). x.version) (words _ _ (ap (λ (m : Message). m.body) e)))

  effect : ManagerEffect w result
  effect = manager_does known given for

  -- an input by which the manager adopts a recovery: the moves adopt it alone, with as much as was recovered
  pub adoption_step_reads : Known v → Predecessors w → Predecessors v → (ordered : Ordered w) → Follows w v → adopted ≡ Some a → (r : Refines w v)
      → ((h : WaitsFor w a.master) → Each (AdoptsThat a.order.part h.p.cut) r.moves) → EarlyAfter w v (Some a) → ReadsOk v
  adoption_step_reads now chain later ordered s adopts r moves early = adoption_reads known now chain later ordered s r more
      its follow
      timed
    where
      more : ManagerSaid w v result.messages
      more = manager_said w adopted events result (Each-weaker (Uttered w) (λ (m : Message). m.from ≡ manager_node) (λ m u. u.from) result.messages effect.messages)

      adoption_of : WaitsFor w a.master → AdoptsRecovery w v r
      adoption_of h = record {
        a = a;
        before = fin.entry;
        was_now = was_now known a fin;
        ok = attempt_ok known a fin;
        s = h.s;
        is = h.is;
        p = h.p;
        waits = h.waits;
        marks = attempt_marks known a fin h result.completed adopted effect.idle adopts;
        entry = entry;
        entry_now = entry_now;
        its_part = sym (attempt_ok known a fin).its_part;
        its_epoch = refl;
        its_master = refl;
        back = new_entry known now s.later result (moved_messages w adopted events result) entry entry_now told (manager_adopts known.names given (was_heard w given for));
        entries = entries;
        moves = moves h;
      }

      its : AdoptsRecovery w v r
      its = adoption_of (attempt_waits known a fin)

      -- the backup that was recovered from
      replayed : ReplayOk w its.s its.p
      replayed = cut_replay known now chain later ordered s r more its

      here : IsBackup v a.order.backup replayed.sources.b
      here = more.backups a.order.backup replayed.sources.b (cut_backup known now chain later ordered s r more its)

      within : its.p.cut ≤ length (log_of w a.order.part its.before.master).log
      within = cut_within known now chain later ordered s r more its

      stored : StoredFrom v a.master a.order.part its.p.cut
      stored = cut_stored known now chain later ordered s r more its

      follow : CutsFollow v
      follow = cuts_follow_adopted known chain now s r its ordered.cuts_follow within stored replayed.sources.b here replayed.its_cut

      timed : CutsTimed v
      timed = timed_more known chain ordered now s r (lives now more) a.order.part (cuts_cases known chain now s r its ordered.cuts_follow within stored replayed.sources.b here replayed.its_cut) early
