-- The logs of masters and of backups are logs of their partition, whose gives bring what lies in their ranges.
use Rattle.std.proofs.Common.{◌≡◌, inl, inr, ℕ, ◌≤◌, List, ◌++◌, take, refl, ap, sym, subst, Some}
use Rattle.curp_base.specs.Words.{At, IsPrefix}
use Rattle.curp_base.proofs.Lists.{Each-at}
use Rattle.curp_cmd.specs.Node.{manager_node}
use Rattle.curp_cmd.specs.declared.entry.Entry.{Entry}
use Rattle.curp_cmd.specs.declared.entry.Entry.TheVariants.{Take, Give}
use Rattle.curp_cmd.specs.declared.migration.Package.{Package}
use Rattle.curp_cmd.specs.declared.node.NodeId.{NodeId}
use Rattle.curp_msg.specs.Moved.{says}
use Rattle.curp_msg.specs.declared.body.Body.TheVariants as body
use Rattle.curp_model.specs.Backup.{BackupState}
use Rattle.curp_model.specs.Log.{meaning}
use Rattle.curp_model.specs.Named.{IsBackup}
use Rattle.curp_model.specs.Ranges.{opening_range}
use Rattle.curp_model.specs.Recovery.{Asking, Fresh, MasterStage, Recovering, RecoveryPhase, RecoveryState, Serving, Storing, Waiting}
use Rattle.curp_model.specs.World.{World}
use Rattle.curp_facts.specs.Entries.{EntryOk, LogOk}
use Rattle.curp_facts.specs.Facts.{ByRecovery, HasLog, IsAmong, IsGiven, Lists, Logged, WasAdopted, WasSent, WasTaken, hi_of, lists_of_order, lo_of, node_log, phase_log}
use Rattle.curp_facts.specs.Kept.{LogsAreLogs, lists_of_master}
use Rattle.curp_facts.specs.Invariant.{Invariant}
use Rattle.curp_facts.specs.Nodes.{MasterOk, StageOk}
use Rattle.curp_facts.specs.Reach.{HasMany, Reach}
use Rattle.curp_facts.specs.Said.{IsTakeOf, StoredEntry}
use Rattle.curp_law_kept.specs.GivesFit.{GivesWithin, PairsWithin}
use Rattle.curp_law_kept.proofs.Gives.{package_within, take_package}
use Rattle.curp_facts.specs.Names.{Names}
use Rattle.curp_law_runs.proofs.Lists.{ready}
use Rattle.curp_law_runs.proofs.Words.{one_log, said}

-- the range of a partition at opening isn't empty
pub range_ordered : (w : World) (part : ℕ) → lo_of w part ≤ hi_of w part
range_ordered w part = (opening_range w.manager.shape.parts part).ordered

module _ {w : World} (inv : Invariant w) where
  -- a master's log is a log of some partition of which it was given lists
  pub has_home : (node : NodeId) (its : Logged) → HasLog w node its → (l : Lists) × IsGiven w l × (l.master ≡ node) × LogOk w l.part its.log
  has_home node its has = go has.m (inv.masters node has.m has.is) has.its_log
    where
      phase : (s : RecoveryState) → WasSent w (says manager_node node (body.Recover s.order)) → (p : RecoveryPhase) → StageOk w s p → phase_log p ≡ Some its
          → (l : Lists) × IsGiven w l × (l.master ≡ node) × LogOk w l.part its.log
      phase s sent (Asking log requests) ok is = absurd (cc (is))
      phase s sent (Storing r) ok is =
          let same : r.log ≡ its.log = cc (is) in
          (lists_of_order node s.order, ByRecovery node s.order sent, refl, subst (LogOk w s.order.part) same ok.log)
      phase s sent (Waiting r) ok is =
          let same : r.log ≡ its.log = cc (is) in
          (lists_of_order node s.order, ByRecovery node s.order sent, refl, subst (LogOk w s.order.part) same ok.0.log)

      go : (m : MasterStage) → MasterOk w node m → node_log m ≡ Some its → (l : Lists) × IsGiven w l × (l.master ≡ node) × LogOk w l.part its.log
      go Fresh ok is = absurd (cc (is))
      go (Recovering s) ok is = phase s ok.ordered s.phase ok.stage is
      go (Serving m) ok is =
          let same : m.log ≡ its.log = cc (is) in
          (lists_of_master node m, ok.adopted.given, refl, subst (LogOk w m.part) same ok.log)

  -- the package of a give lies in its range: it was taken out of another log
  given_within : (part migration : ℕ) (p : Package) → EntryOk w part (Give migration p) → PairsWithin p.lo p.hi p.pairs
  given_within part migration p ok =
      let taken : WasTaken w (record { migration = migration; «package» = p })
      = said inv manager_node ok.0.node (body.GiveIn (record { migration = migration; «package» = p })) ok.0.sent in
      let stored : StoredEntry w taken.node (IsTakeOf migration p)
      = said inv taken.node manager_node (body.Taken (record { migration = migration; «package» = p })) taken.told in
      let home = has_home taken.node stored.l stored.its_log in
      let lo = lo_of w home.0.part in
      let hi = hi_of w home.0.part in
      let at : At stored.l.log stored.index (Take migration p) = subst (At stored.l.log stored.index) stored.is stored.stands in
      subst (λ (q : Package). PairsWithin p.lo p.hi q.pairs) (sym (take_package lo hi stored.l.log stored.index migration p home.3.is_log at))
      (package_within (meaning lo hi (take stored.index stored.l.log)) p.lo p.hi p.ordered)

  -- so it is with all gives of a log
  pub gives_within : (part : ℕ) (log : List Entry) → LogOk w part log → GivesWithin log
  gives_within part log ok k migration p at = given_within part migration p (Each-at (EntryOk w part) log ok.entries k (Give migration p) at)

module _ {w : World} (names : Names w) (inv : Invariant w) where
  -- a master's log is a log of its partition
  pub log_ok : (l : Lists) → IsGiven w l → (its : Logged) → HasLog w l.master its → LogOk w l.part its.log
  log_ok l given its has =
      let home = has_home inv l.master its has in
      subst (λ (part : ℕ). LogOk w part its.log) ((names.agree home.0 l home.1 given).by_master home.2).0 home.3

  -- a backup's log is a beginning of its master's
  pub begins : (l : Lists) → IsGiven w l → (its : Logged) → HasLog w l.master its → (node : NodeId) → IsAmong node l.backups → (b : BackupState) → IsBackup w node b → IsPrefix b.log its.log
  begins l given its has node named b is = elim (inv.backups l given node named b is).follows [
    | inl none ↦ record { rest = its.log; is = ap (λ (es : List Entry). es ++ its.log) none }
    | inr f ↦ subst (λ (x : Logged). IsPrefix b.log x.log) (one_log f.its its f.its_log has) f.prefix
  ]

  -- what is reached is on each backup of each adopted list from that version on
  pub reached : (l : Lists) → WasAdopted w l → (version n : ℕ) → Reach w l.master version n → version ≤ l.version → (node : NodeId) → IsAmong node l.backups → HasMany w n node
  reached l was version n reach above node named =
      Each-at (HasMany w n) l.backups (reach l (ready names inv l was) refl above) named.place node named.stands

  -- so all masters' logs are logs
  pub logs_ok : LogsAreLogs w
  logs_ok l given its has = (log_ok l given its has).is_log
