-- What a message that comes to a master has to say follows from what it says.
use Rattle.std.proofs.Common.{◌≡◌, inl, inr, ℕ, zero, suc, ◌+◌, ◌<◌, ◌≤◌, List, [], ◌++◌, length, refl, ap, sym, ◌∙◌, subst, arith, Some}
use Rattle.curp_base.specs.Words.{At, Each, IsPrefix, numbers_from}
use Rattle.curp_base.proofs.Lists.{Each-at, Each-from_at, prefix_at, prefix_length, at_mapped}
use Rattle.curp_cmd.specs.Node.{manager_node, master_node}
use Rattle.curp_cmd.specs.declared.command.Request.{Request}
use Rattle.curp_cmd.specs.declared.entry.Entry.{Entry}
use Rattle.curp_cmd.specs.declared.entry.Entry.TheVariants.{Take}
use Rattle.curp_cmd.specs.declared.node.NodeId.{NodeId}
use Rattle.curp_msg.specs.Moved.{says}
use Rattle.curp_msg.specs.declared.answer.AppendAnswer.{AppendAnswer}
use Rattle.curp_msg.specs.declared.answer.AppendAnswer.TheVariants.{Stored}
use Rattle.curp_msg.specs.declared.answer.FenceReply.{FenceReply}
use Rattle.curp_msg.specs.declared.answer.FenceReply.TheVariants.{Log}
use Rattle.curp_msg.specs.declared.answer.GcAnswer.{GcAnswer}
use Rattle.curp_msg.specs.declared.answer.GcAnswer.TheVariants.{Suspects}
use Rattle.curp_msg.specs.declared.body.Adopted.{Adopted}
use Rattle.curp_msg.specs.declared.body.Appended.{Appended}
use Rattle.curp_msg.specs.declared.body.Body.{Body}
use Rattle.curp_msg.specs.declared.body.Body.TheVariants as body
use Rattle.curp_msg.specs.declared.body.FenceAnswer.{FenceAnswer}
use Rattle.curp_msg.specs.declared.body.Parcel.{Parcel}
use Rattle.curp_msg.specs.declared.body.Recover.{Recover}
use Rattle.curp_msg.specs.declared.config.PartConfig.{PartConfig}
use Rattle.curp_model.specs.Backup.{BackupState}
use Rattle.curp_model.specs.Manager.{opening_part}
use Rattle.curp_model.specs.Master.{MasterState}
use Rattle.curp_model.specs.Named.{IsMaster}
use Rattle.curp_model.specs.Recovery.{Asking, Fresh, MasterStage, Recovering, RecoveryPhase, RecoveryState, Replayed, Serving, Storing, Waiting}
use Rattle.curp_model.specs.Witness.{HeldRequest}
use Rattle.curp_model.specs.World.{World}
use Rattle.curp_facts.specs.Entries.{EntryOk, LogOk, UpdateOk}
use Rattle.curp_facts.specs.Facts.{AtOpening, ByRecovery, ByReplacement, FencedLogOk, FrozenOk, HasLog, IsGiven, Lists, Logged, WasOrdered, WasSent, WasTaken, hi_of, lo_of, lists_of_order, node_log}
use Rattle.curp_facts.specs.Kept.{AllCompletedBelow, lists_of_master}
use Rattle.curp_facts.specs.Nodes.{BackupOk, MasterOk, RecovererOk, ReplayedOk, ServingOk, StageOk, WasPrepared}
use Rattle.curp_facts.specs.Reach.{RecoveredTo}
use Rattle.curp_facts.specs.Said.{AdoptedSaid, AppendHolds, AppendSaid, AppendedSaid, Says, StoredEntry, IsTakeOf, SuspectsHold}
use Rattle.curp_law_kept.proofs.Apart.{one_some}
use Rattle.curp_facts.specs.Known.{Known}
use Rattle.curp_law_kept.proofs.Known.{from_manager, said}
use Rattle.curp_law_kept.proofs.Frozen.{kept_held}
use Rattle.curp_law_kept.proofs.Logs.{log_prefix}
use Rattle.curp_law_kept.specs.Moves.{Hears, HearsAnswer, HearsLog, HearsStored, HearsSuspects, RecoveryHears}
use Rattle.curp_facts.specs.Names.{RecoverOrderOk, PrepareOk}

-- a master has one log
pub one_log : (w : World) (node : NodeId) (x y : Logged) → HasLog w node x → HasLog w node y → x ≡ y
one_log w node x y p q =
    let same : p.m ≡ q.m = cc (p.is.its_state, q.is.its_state) in
    let a = p.its_log in let b = q.its_log in cc

-- the log of a serving master
abbrev pub serving_log : (w : World) (node : NodeId) (m : MasterState) → IsMaster w node (Serving m) → HasLog w node (record { log = m.log; round = m.round })
serving_log w node m is = record { m = Serving m; is = is; its_log = refl }

-- the beginning of a log is one
pub log_ok_prefix : (w : World) (part : ℕ) (xs ys : List Entry) → IsPrefix xs ys → LogOk w part ys → LogOk w part xs
log_ok_prefix w part xs ys prefix ok = record {
  is_log = log_prefix (lo_of w part) (hi_of w part) xs ys prefix ok.is_log;
  takes = λ j k before after p q low a b. ok.takes j k before after p q low (prefix_at prefix j _ a) (prefix_at prefix k _ b);
  gives = λ j k before after p q low a b. ok.gives j k before after p q low (prefix_at prefix j _ a) (prefix_at prefix k _ b);
  entries = Each-from_at (EntryOk w part) xs (λ k e at. Each-at (EntryOk w part) ys ok.entries k e (prefix_at prefix k e at));
}

-- the empty log is one
log_ok_none : (w : World) (part : ℕ) (xs : List Entry) → xs ≡ [] → LogOk w part xs
log_ok_none w part xs none = subst (LogOk w part) (sym none) (record { is_log = refl; takes = λ j k before after p q low a b. absurd (nothing j a); gives = λ j k before after p q low a b. absurd (nothing j a); entries = tt })
  where
    nothing : (j : ℕ) {e : Entry} → At [] j e → ⊥
    nothing j at = cc

-- the log of a backup of given lists is a beginning of their master's
pub backup_prefix : (u : World) (l : Lists) (its : Logged) → HasLog u l.master its → (b : BackupState) → BackupOk u l b → IsPrefix b.log its.log
backup_prefix u l its has b ok = elim ok.follows [
  | inl none ↦ record { rest = its.log; is = ap (λ (es : List Entry). es ++ its.log) none }
  | inr f ↦ subst (λ (k : Logged). IsPrefix b.log k.log) (one_log u l.master f.its its f.its_log has) f.prefix
]

module _ {w : World} (known : Known w) where
  -- ---- masters and backups by their lists

  -- the log of a master that was given lists is one of their partition
  pub logged_ok : (l : Lists) → IsGiven w l → (its : Logged) → HasLog w l.master its → LogOk w l.part its.log
  logged_ok l given its has = go has.m has.is (known.inv.masters l.master has.m has.is) has.its_log
    where
      same_part : (k : Lists) → IsGiven w k → k.master ≡ l.master → (log : List Entry) → LogOk w k.part log → log ≡ its.log → LogOk w l.part its.log
      same_part k here same log ok e = subst (λ (p : ℕ). LogOk w p its.log) ((known.names.agree k l here given).by_master same).0 (subst (LogOk w k.part) e ok)

      replayed : (s : RecoveryState) (ok : RecovererOk w l.master s) (r : Replayed) → ReplayedOk w s r → Some (record { log = r.log; round = r.round }) ≡ Some its → LogOk w l.part its.log
      replayed s ok r k e = same_part (lists_of_order l.master s.order) (ByRecovery l.master s.order ok.ordered) refl r.log k.log (ap (λ (x : Logged). x.log) (one_some e))

      staged : (s : RecoveryState) (ok : RecovererOk w l.master s) (p : RecoveryPhase) → StageOk w s p → node_log (Recovering (record { order = s.order; phase = p })) ≡ Some its → LogOk w l.part its.log
      staged s ok (Asking log requests) k e = absurd cc
      staged s ok (Storing r) k e = replayed s ok r k e
      staged s ok (Waiting r) k e = replayed s ok r k.0 e

      go : (m : MasterStage) → IsMaster w l.master m → MasterOk w l.master m → node_log m ≡ Some its → LogOk w l.part its.log
      go Fresh is ok e = absurd cc
      go (Recovering s) is ok e = staged s ok s.phase ok.stage e
      go (Serving m) is ok e = same_part (lists_of_master l.master m) ok.adopted.given refl m.log ok.log (ap (λ (x : Logged). x.log) (one_some e))

  -- each list has a backup
  pub filled : (l : Lists) → IsGiven w l → 1 ≤ length l.backups
  filled l given = let many = (known.names.given l given).many_backups in omega (arith, many, known.names.shape.f)

  -- the log of a backup of given lists is one of their partition
  pub backup_log_ok : (l : Lists) → IsGiven w l → (b : BackupState) → BackupOk w l b → LogOk w l.part b.log
  backup_log_ok l given b ok = elim ok.follows [
    | inl none ↦ log_ok_none w l.part b.log none
    | inr f ↦ log_ok_prefix w l.part b.log f.its.log f.prefix (logged_ok l given f.its f.its_log)
  ]

  -- ---- the version of an order

  -- lists of a master that was ordered to recover have no version below that of its order
  pub order_lowest : (node : NodeId) (o : Recover) → WasSent w (says manager_node node (body.Recover o)) → (l : Lists) → IsGiven w l → l.master ≡ node → o.version ≤ l.version
  order_lowest node o sent l given its = go (l.version + 1) l given its (omega arith)
    where
      ordered : RecoverOrderOk w node o
      ordered = known.names.manager_says node (body.Recover o) sent

      late : (k : Lists) → IsGiven w k → k.master ≡ node → k.epoch ≡ 1 → ⊥
      late k here same one =
          let epoch : o.epoch ≡ k.epoch = ((known.names.agree (lists_of_order node o) k (ByRecovery node o sent) here).by_master (sym same)).1 in
          let low = (known.names.given ordered.before ordered.was.given).epoch.0 in
          omega (arith, epoch, one, ordered.earlier, low)

      go : (bound : ℕ) (k : Lists) → IsGiven w k → k.master ≡ node → k.version < bound → o.version ≤ k.version
      go zero k here same low = absurd (omega (arith, low))
      go (suc bound) _ (AtOpening k c at) same low =
          absurd (late _ (AtOpening k c at) same (ap (λ (x : PartConfig). x.epoch) (sym (at_mapped (opening_part w.manager.shape) (numbers_from 1 w.manager.shape.parts) k c at).2)))
      go (suc bound) _ (ByRecovery other q here) same low =
          let one : o ≡ q = known.names.one_order node o q sent (subst (λ (x : NodeId). WasSent w (says manager_node x (body.Recover q))) same here) in
          let version : o.version ≡ q.version = ap (λ (x : Recover). x.version) one in
          omega (arith, version)
      go (suc bound) _ (ByReplacement old p here prepared) same low =
          let ok : PrepareOk w old.master p = known.names.manager_says old.master (body.Prepare p) prepared in
          let before = go bound ok.before ok.was.given (ok.its_master ∙ same) (omega (arith, ok.older, low)) in
          omega (arith, ok.older, before)

  -- ---- what comes to a serving master

  module _ (n : ℕ) where
    module _ (m : MasterState) (is : IsMaster w (master_node n) (Serving m)) where
      ok : ServingOk w (master_node n) m
      ok = known.inv.masters (master_node n) (Serving m) is

      its_log : HasLog w (master_node n) (record { log = m.log; round = m.round })
      its_log = serving_log w (master_node n) m is

      answered : (from : NodeId) (a : Appended) → AppendedSaid w from (master_node n) a → (answer : AppendAnswer) → AppendHolds w from (master_node n) a answer → HearsAnswer w m from a.round answer
      answered from a home (Stored long) k =
          let its : AppendSaid w (master_node n) from k.append = said known (master_node n) from (body.Append k.append) k.sent in
          let log : HasLog w home.lists.master (record { log = m.log; round = m.round }) = subst (λ (x : NodeId). HasLog w x (record { log = m.log; round = m.round })) (sym home.its_master) its_log in
          let within = prefix_length (backup_prefix w home.lists _ log k.b (known.inv.backups home.lists home.given from home.its_backup k.b k.is)) in
          let round : its.holds.l.round ≡ m.round = ap (λ (x : Logged). x.round) (one_log w (master_node n) its.holds.l _ its.holds.its_log its_log) in
          (record { b = k.b; is = k.is; low = k.low }, omega (arith, within, k.low), omega (arith, its.holds.begun, k.its_round, round))
      answered from a home _ k = tt

      suspects : (answer : GcAnswer) → SuspectsHold w answer → HearsSuspects w answer
      suspects (Suspects requests) k = k
      suspects _ k = tt

      ordered : (b : Body) (from : NodeId) → from ≡ manager_node → WasSent w (says from (master_node n) b) → WasOrdered w m.part b
      ordered b from manager sent = record {
        node = master_node n;
        is = record { lists = lists_of_master (master_node n) m; given = ok.adopted.given; its_master = refl; its_part = refl };
        sent = subst (λ (x : NodeId). WasSent w (says x (master_node n) b)) manager sent;
      }

      -- what is adopted was prepared
      prepared : (a : Adopted) → AdoptedSaid w (master_node n) a → WasPrepared m a.version
      prepared a k = elim k.ready.told [
        | inl one ↦ let low = (known.names.given (lists_of_master (master_node n) m) ok.adopted.given).version.0 in inl (omega (arith, low, one, k.its_version))
        | inr told ↦ elim told [
          | inl sent ↦ subst (WasPrepared m) k.its_version (ok.prepared k.lists.version (subst (λ (x : NodeId). WasSent w (says x manager_node (body.Prepared k.lists.version))) k.its_master sent))
          | inr r ↦ recovered r
        ]
      ]
        where
          recovered : RecoveredTo w k.lists → WasPrepared m a.version
          recovered r =
              let low = order_lowest (master_node n) r.order (subst (λ (x : NodeId). WasSent w (says manager_node x (body.Recover r.order))) k.its_master r.ordered) (lists_of_master (master_node n) m) ok.adopted.given refl in
              inl (omega (arith, low, r.its_version, k.its_version))

      -- the first numbers of what was taken
      taken_firsts : (g : Parcel) → WasTaken w g → Each (AllCompletedBelow w) g.package.table.firsts
      taken_firsts g was =
          let k : StoredEntry w was.node (IsTakeOf g.migration g.package) = said known was.node manager_node (body.Taken g) was.told in
          let log : HasLog w k.lists.master k.l = subst (λ (x : NodeId). HasLog w x k.l) (sym k.its_master) k.its_log in
          let e : EntryOk w k.lists.part k.entry = Each-at (EntryOk w k.lists.part) k.l.log (logged_ok k.lists k.adopted.given k.l log).entries k.index k.entry k.stands in
          let t : EntryOk w k.lists.part (Take g.migration g.package) = subst (EntryOk w k.lists.part) k.is e in
          t.1

      pub serving_hears : (from : NodeId) (b : Body) → WasSent w (says from (master_node n) b) → Hears w m from b
      serving_hears from (body.Update ask) sent = let u = said known from (master_node n) (body.Update ask) sent in record { request = u.asked.request; updates = u.updates }
      serving_hears from (body.Sync ask) sent = let u = said known from (master_node n) (body.Sync ask) sent in record { request = u.asked.request; updates = u.updates }
      serving_hears from (body.Read ask) sent = (said known from (master_node n) (body.Read ask) sent).asked.request
      serving_hears from (body.Glance ask) sent =
          ((said known from (master_node n) (body.Glance ask) sent).asked.request, record { from = from; to = master_node n; ask = ask; sent = sent; its_id = refl })
      serving_hears from (body.Appended a) sent = let k = said known from (master_node n) (body.Appended a) sent in answered from a k.0 a.answer k.1
      serving_hears from (body.Collected c) sent = suspects c.answer (said known from (master_node n) (body.Collected c) sent)
      serving_hears from (body.Adopted a) sent = prepared a (said known from (master_node n) (body.Adopted a) sent)
      serving_hears from (body.TakeOut t) sent = ordered (body.TakeOut t) from (from_manager known from (master_node n) (body.TakeOut t) refl sent) sent
      serving_hears from (body.GiveIn g) sent =
          (ordered (body.GiveIn g) from (from_manager known from (master_node n) (body.GiveIn g) refl sent) sent, taken_firsts g (said known from (master_node n) (body.GiveIn g) sent))
      serving_hears from (body.ExpireClient client) sent = ordered (body.ExpireClient client) from (from_manager known from (master_node n) (body.ExpireClient client) refl sent) sent
      serving_hears from _ sent = tt

    -- ---- what comes to a recovering master

    module _ (s : RecoveryState) (is : IsMaster w (master_node n) (Recovering s)) where
      recovery : RecovererOk w (master_node n) s
      recovery = known.inv.masters (master_node n) (Recovering s) is

      home : RecoverOrderOk w (master_node n) s.order
      home = known.names.manager_says (master_node n) (body.Recover s.order) recovery.ordered

      fenced : (from : NodeId) (epoch : ℕ) → epoch ≡ s.order.epoch → (answer : FenceReply) → Says w 0 from (master_node n) (body.FenceAnswer (record { epoch = epoch; answer = answer })) → HearsLog w s from answer
      fenced from epoch e (Log entries) k = λ named.
          let f : FencedLogOk w s.order.backup s.order.epoch entries = subst (λ (x : ℕ). FencedLogOk w s.order.backup x entries) e (subst (λ (x : NodeId). FencedLogOk w x epoch entries) named k.1) in
          let log = backup_log_ok home.before home.was.given f.b (known.inv.backups home.before home.was.given s.order.backup home.its_backup f.b f.is) in
          (f, subst (λ (p : ℕ). LogOk w p entries) home.its_part (subst (LogOk w home.before.part) f.its_log log))
      fenced from epoch e _ k = tt

      asked : (from : NodeId) (a : FenceAnswer) → Says w 0 from (master_node n) (body.FenceAnswer a) → HearsLog w s from a.answer
      asked from a k =
          let one : k.0.0 ≡ s.order = known.names.one_order (master_node n) k.0.0 s.order k.0.1 recovery.ordered in
          fenced from a.epoch (sym k.0.2.0 ∙ ap (λ (o : Recover). o.epoch) one) a.answer k

      frozen : (from : NodeId) (requests : List Request) → FrozenOk w from requests → Each (UpdateOk w) requests
      frozen from requests f = Each-from_at (UpdateOk w) requests (λ k r at.
          let h = kept_held f.x r (record { place = k; stands = subst (λ (rs : List Request). At rs k r) (sym f.its_requests) at }) in
          subst (UpdateOk w) h.3 (Each-at (λ (x : HeldRequest). UpdateOk w x.request) f.x.held (known.inv.witnesses from f.x f.is).held h.0 h.1 h.2))

      stored : (from : NodeId) (a : Appended) (answer : AppendAnswer) → AppendHolds w from (master_node n) a answer → HearsStored w from answer
      stored from a (Stored long) k = record { b = k.b; is = k.is; low = k.low }
      stored from a _ k = tt

      pub recovery_hears : (from : NodeId) (b : Body) → WasSent w (says from (master_node n) b) → RecoveryHears w s from b
      recovery_hears from (body.FenceAnswer a) sent = asked from a (said known from (master_node n) (body.FenceAnswer a) sent)
      recovery_hears from (body.FrozenAnswer requests) sent = let f = said known from (master_node n) (body.FrozenAnswer requests) sent in (f, frozen from requests f)
      recovery_hears from (body.Appended a) sent = stored from a a.answer (said known from (master_node n) (body.Appended a) sent).1
      recovery_hears from _ sent = tt
