-- An input to a backup keeps what nodes and messages keep.
use Rattle.std.proofs.Common.{◌≡◌, inl, inr, ℕ, ◌-◌, List, [], ◌++◌, length, refl, ap, sym, ◌∙◌, subst, arith, Option, Some, None}
use Rattle.curp_base.specs.Words.{IsPrefix}
use Rattle.curp_base.proofs.Lists.{overlap, prefix_trans}
use Rattle.curp_cmd.specs.Node.{backup_node}
use Rattle.curp_cmd.specs.declared.entry.Entry.{Entry}
use Rattle.curp_cmd.specs.declared.node.NodeId.{NodeId}
use Rattle.curp_msg.specs.Moved.{says}
use Rattle.curp_msg.specs.declared.answer.AppendAnswer.{AppendAnswer}
use Rattle.curp_msg.specs.declared.answer.AppendAnswer.TheVariants.{Stored}
use Rattle.curp_msg.specs.declared.answer.FenceReply.{FenceReply}
use Rattle.curp_msg.specs.declared.answer.FenceReply.TheVariants.{Log}
use Rattle.curp_msg.specs.declared.body.Append.{Append}
use Rattle.curp_msg.specs.declared.body.Appended.{Appended}
use Rattle.curp_msg.specs.declared.body.Body.{Body}
use Rattle.curp_msg.specs.declared.body.Body.TheVariants as body
use Rattle.curp_msg.specs.declared.body.FenceAnswer.{FenceAnswer}
use Rattle.curp_msg.specs.Input.{Input}
use Rattle.curp_msg.specs.declared.message.Message.{Message}
use Rattle.curp_model.specs.Backup.{BackupState, longer}
use Rattle.curp_model.specs.Named.{IsBackup}
use Rattle.curp_model.specs.World.{World}
use Rattle.curp_facts.specs.Facts.{FenceReplyOk, HasLog, IsAmong, IsGiven, Lists, Logged, WasSent}
use Rattle.curp_facts.specs.Nodes.{BackupOk}
use Rattle.curp_facts.specs.Said.{AppendHolds, AppendSaid, IsOrderedTo, Says}
use Rattle.curp_law_kept.specs.Deeds.{IsFor}
use Rattle.curp_law_kept.specs.BackupEffect.{AppendAnswerSays, AppendedSays, BackupAnswers, BackupMove, BackupSays, ByAppend, ByFence, ByInstall, Extends, FenceAnswerSays, FenceReplySays, Rests}
use Rattle.curp_law_kept.specs.Brought.{Brings}
use Rattle.curp_law_kept.proofs.Brought.{brought_sent}
use Rattle.curp_facts.specs.Known.{Known}
use Rattle.curp_law_kept.proofs.Known.{from_manager, said}
use Rattle.curp_facts.specs.Names.{InstallOk, RecoverOrderOk}
use Rattle.curp_law_kept.proofs.Nodes.{backup_ok_later}
use Rattle.curp_law_kept.proofs.Words.{Follows, given_stays, log_later, sent_later}

module _ {w v : World} (known : Known w) (s : Follows w v) (n : ℕ) (given : Input) (for : IsFor w (backup_node n) given) (b c : BackupState)
    (was : IsBackup w (backup_node n) b) (is : IsBackup v (backup_node n) c) where
  -- ---- what it says

  append_came : (to : NodeId) (append : Append) → Brings given to (body.Append append) → WasSent w (says to (backup_node n) (body.Append append))
  append_came to append came = brought_sent w (backup_node n) given to (body.Append append) for came

  stored_says : (to : NodeId) (a : Appended) (append : Append) → WasSent w (says to (backup_node n) (body.Append append)) → a.epoch ≡ append.epoch → a.round ≡ append.round
      → (answer : AppendAnswer) → AppendAnswerSays c append answer → AppendHolds v (backup_node n) to a answer
  stored_says to a append sent epoch round (Stored long) ok =
      record { b = c; is = is; low = ok.long_enough; append = append; sent = sent_later s sent; its_epoch = sym epoch; its_round = sym round }
  stored_says to a append sent epoch round _ ok = tt

  appended_says : (place : ℕ) (to : NodeId) (a : Appended) → AppendedSays given c to a → Says v place (backup_node n) to (body.Appended a)
  appended_says place to a ok =
      let sent = append_came to ok.append ok.came in
      let its : AppendSaid w to (backup_node n) ok.append = said known to (backup_node n) (body.Append ok.append) sent in (
        record { lists = its.lists; given = given_stays s its.given; its_master = its.its_master; its_epoch = its.its_epoch ∙ sym ok.epoch; its_backup = its.its_backup },
        stored_says to a ok.append sent ok.epoch ok.round a.answer ok.answer,
      )

  fence_says : (place : ℕ) (to : NodeId) (a : FenceAnswer) → FenceAnswerSays given c to a → Says v place (backup_node n) to (body.FenceAnswer a)
  fence_says place to a ok =
      let o : IsOrderedTo w to (λ o. (o.epoch ≡ a.epoch) × (o.backup ≡ backup_node n))
      = said known to (backup_node n) (body.Fence a.epoch) (brought_sent w (backup_node n) given to (body.Fence a.epoch) for ok.came) in
      let home : RecoverOrderOk w to o.0 = known.names.manager_says to (body.Recover o.0) o.1 in
      ((o.0, sent_later s o.1, o.2), reply a.answer ok.answer home o.2.0 o.2.1)
    where
      reply : (answer : FenceReply) → FenceReplySays c a.epoch answer → {o : _} → RecoverOrderOk w to o → o.epoch ≡ a.epoch → o.backup ≡ backup_node n → FenceReplyOk v (backup_node n) a.epoch answer
      reply (Log entries) k home epoch named = record {
        b = c;
        is = is;
        its_log = sym k.its_log;
        fenced = omega (arith, k.fenced);
        lists = home.before;
        given = given_stays s home.was.given;
        its_backup = subst (λ (x : NodeId). IsAmong x home.before.backups) named home.its_backup;
        earlier = omega (arith, home.earlier, epoch);
      }
      reply _ k home epoch named = tt

  pub backup_says : (place : ℕ) (m : Message) → BackupSays n given c m → Says v place m.from m.to m.body
  backup_says place m ok = subst (λ (from : NodeId). Says v place from m.to m.body) (sym ok.sender) (go m.to m.body ok.says_so)
    where
      go : (to : NodeId) (x : Body) → BackupAnswers given c to x → Says v place (backup_node n) to x
      go to (body.Appended a) k = appended_says place to a k
      go to (body.FenceAnswer a) k = fence_says place to a k
      go to _ k = absurd k

  -- ---- its state

  module _ (l : Lists) (here : IsGiven w l) (named : IsAmong (backup_node n) l.backups) where
    before : BackupOk w l b
    before = known.inv.backups l here (backup_node n) named b was

    same_log : (d : BackupState) → BackupOk v l d → (installed : Option ℕ) → ((epoch : ℕ) → installed ≡ Some epoch → epoch ≡ l.epoch) → (installed ≡ None → d.log ≡ [])
        → (fence : ℕ) → BackupOk v l (record { installed = installed; fence = fence; log = d.log })
    same_log d ok installed own none fence = record { installed = own; empty = none; follows = elim ok.follows [ inl e ↦ inl e | inr f ↦ inr (record { its = f.its; its_log = f.its_log; prefix = f.prefix }) ] }

    extended : Extends given b c → BackupOk v l c
    extended x =
        let sent = append_came x.from x.append x.came in
        let its : AppendSaid w x.from (backup_node n) x.append = said known x.from (backup_node n) (body.Append x.append) sent in
        let master : l.master ≡ its.lists.master = (known.names.agree l its.lists here its.given).by_backup (backup_node n) named its.its_backup in
        let has : HasLog w l.master its.holds.l = subst (λ (node : NodeId). HasLog w node its.holds.l) (sym (master ∙ its.its_master)) its.holds.its_log in
        let o = log_later s l.master its.holds.l has in
        let prefix : IsPrefix b.log its.holds.l.log = begins has in
        let longer_prefix : IsPrefix (longer b.log x.append.base x.append.entries) its.holds.l.log
        = overlap x.append.base (length b.log - x.append.base) b.log x.append.entries its.holds.l.log (omega (arith, x.no_gap)) prefix its.holds.part in
        subst (BackupOk v l) (sym x.after)
        (record {
          installed = before.installed;
          empty = λ none. absurd (installed none x.own_epoch);
          follows = inr (record { its = o.0; its_log = o.1; prefix = prefix_trans longer_prefix o.2 });
        })
      where
        installed : {e : ℕ} → b.installed ≡ None → b.installed ≡ Some e → ⊥
        installed none some = cc

        one_log : (x y : Logged) → HasLog w l.master x → HasLog w l.master y → x ≡ y
        one_log x y p q =
            let same : p.m ≡ q.m = cc (p.is.its_state, q.is.its_state) in
            let a = p.its_log in let b = q.its_log in cc

        begins : {x : Logged} → HasLog w l.master x → IsPrefix b.log x.log
        begins {x} has = elim before.follows [
          | inl none ↦ record { rest = x.log; is = ap (λ (es : List Entry). es ++ x.log) none }
          | inr f ↦ subst (λ (k : Logged). IsPrefix b.log k.log) (one_log f.its x f.its_log has) f.prefix
        ]

    pub backup_keeps : BackupMove given b c → BackupOk v l c
    backup_keeps (Rests same) = subst (BackupOk v l) (sym same) (backup_ok_later s l b before)
    backup_keeps (ByInstall x) =
        let sent = brought_sent w (backup_node n) given x.from (body.Install x.epoch) for x.came in
        let from = from_manager known x.from (backup_node n) (body.Install x.epoch) refl sent in
        let ok : InstallOk w (backup_node n) x.epoch = known.names.manager_says (backup_node n) (body.Install x.epoch) (subst (λ (from : NodeId). WasSent w (says from (backup_node n) (body.Install x.epoch))) from sent) in
        let agree = known.names.agree l ok.lists here ok.given in
        let epoch : l.epoch ≡ ok.lists.epoch = (agree.by_master (agree.by_backup (backup_node n) named ok.named)).1 in
        subst (BackupOk v l) (sym x.after) (same_log b (backup_ok_later s l b before) (Some x.epoch) (λ e some. own e some ∙ ok.its_epoch ∙ sym epoch) (λ none. absurd (some none)) b.fence)
      where
        own : (e : ℕ) → Some x.epoch ≡ Some e → e ≡ x.epoch
        own e some = cc

        some : Some x.epoch ≡ None → ⊥
        some e = cc
    backup_keeps (ByAppend x) = extended x
    backup_keeps (ByFence x) = subst (BackupOk v l) (sym x.after) (same_log b (backup_ok_later s l b before) b.installed before.installed before.empty x.epoch)
