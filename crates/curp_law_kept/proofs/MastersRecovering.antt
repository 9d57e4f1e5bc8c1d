-- What a recovering master says by an input is so.
use Rattle.std.proofs.Common.{◌≡◌, inl, inr, ℕ, true, List, length, drop, refl, ap, sym, ◌∙◌, subst, arith, Option, Some}
use Rattle.curp_base.specs.Words.{Each, IsPrefix, numbered}
use Rattle.curp_base.proofs.Lists.{Each-at, Each-from_at, Each-weaker, prefix_self}
use Rattle.curp_cmd.specs.Node.{manager_node, master_node}
use Rattle.curp_cmd.specs.declared.entry.Entry.{Entry}
use Rattle.curp_cmd.specs.declared.node.NodeId.{NodeId}
use Rattle.curp_msg.specs.Moved.{says}
use Rattle.curp_msg.specs.declared.body.Append.{Append}
use Rattle.curp_msg.specs.declared.body.Body.{Body}
use Rattle.curp_msg.specs.declared.body.Body.TheVariants as body
use Rattle.curp_msg.specs.declared.body.Recover.{Recover}
use Rattle.curp_msg.specs.declared.body.Recovered.{Recovered}
use Rattle.curp_msg.specs.declared.message.Message.{Message}
use Rattle.curp_model.specs.Backup.{BackupState}
use Rattle.curp_model.specs.Named.{IsBackup}
use Rattle.curp_model.specs.Recovery.{Asking, MasterStage, Recovering, RecoveryPhase, RecoveryState, Replayed, Storing, Waiting, all_complete}
use Rattle.curp_model.specs.Witness.{WitnessState}
use Rattle.curp_model.specs.World.{World}
use Rattle.curp_facts.specs.Facts.{ByRecovery, HasLog, IsGiven, Lists, WasSent, lists_of_order, node_log}
use Rattle.curp_facts.specs.Nodes.{IsWaiting, RecovererOk, ReplayedOk, StageOk}
use Rattle.curp_facts.specs.Reach.{HasMany, HasStored, Reach, RecoveredTo}
use Rattle.curp_facts.specs.Said.{AppendSaid, IsOrderedTo, RecoveredSaid, Says}
use Rattle.curp_facts.specs.Known.{Known}
use Rattle.curp_law_kept.proofs.MastersHeard.{backup_prefix}
use Rattle.curp_law_kept.proofs.MastersKept.{master_keeps}
use Rattle.curp_law_kept.proofs.MastersMoves.{MasterStep}
use Rattle.curp_law_kept.proofs.MastersPrepared.{prefix_whole}
use Rattle.curp_law_kept.proofs.MastersReady.{all_stored, given_was, manager_was, many_now, step_follows, stored_many}
use Rattle.curp_law_kept.specs.Moves.{IsWholeLog, RecoverySays}
use Rattle.curp_facts.specs.Names.{RecoverOrderOk}
use Rattle.curp_law_kept.proofs.Entries.{refusal_later}
use Rattle.curp_law_kept.proofs.Nodes.{backup_ok_later}
use Rattle.curp_law_kept.proofs.Words.{Follows, given_stays}

module _ {w v : World} (known : Known w) {n : ℕ} {from : NodeId} {heard : Option Body} {m : MasterStage} {t : RecoveryState} {out : List Message} (s : MasterStep w v n from heard m (Recovering t) out)
    (stage : StageOk w t t.phase) where
  f : Follows w v
  f = step_follows known s

  ok : RecovererOk v (master_node n) t
  ok = master_keeps known s

  ordered : WasSent w (says manager_node (master_node n) (body.Recover t.order))
  ordered = manager_was known s (master_node n) (body.Recover t.order) ok.ordered

  home : RecoverOrderOk w (master_node n) t.order
  home = known.names.manager_says (master_node n) (body.Recover t.order) ordered

  abbrev lists : Lists
  lists = lists_of_order (master_node n) t.order

  given : IsGiven w (lists_of_order (master_node n) t.order)
  given = ByRecovery (master_node n) t.order ordered

  -- ---- appends

  log_now : (r : Replayed) → t.phase ≡ Storing r → HasLog v (master_node n) (record { log = r.log; round = r.round })
  log_now r is = record { m = Recovering t; is = s.is; its_log = go t.phase is }
    where
      go : (p : RecoveryPhase) → p ≡ Storing r → node_log (Recovering (record { order = t.order; phase = p })) ≡ Some (record { log = r.log; round = r.round })
      go p e = ap (λ (q : RecoveryPhase). node_log (Recovering (record { order = t.order; phase = q }))) e

  append_says : (to : NodeId) (a : Append) → RecoverySays w t to (body.Append a) → AppendSaid v (master_node n) to a
  append_says to a k = go t.phase refl k.3
    where
      go : (p : RecoveryPhase) → t.phase ≡ p → IsWholeLog p a → AppendSaid v (master_node n) to a
      go (Storing r) is whole = record {
        lists = lists;
        given = given_stays f given;
        its_master = refl;
        its_epoch = sym k.0;
        its_backup = k.2;
        holds = record {
          l = record { log = r.log; round = r.round };
          its_log = log_now r is;
          part = subst (λ (base : ℕ). IsPrefix a.entries (drop base r.log)) (sym k.1) (subst (λ (es : List Entry). IsPrefix es r.log) (sym whole.0) (prefix_self r.log));
          begun = let round = whole.1 in omega (arith, round);
        };
        within = let base = k.1 in let long : length a.entries ≡ length r.log = ap (λ (es : List Entry). length es) whole.0 in omega (arith, base, long);
      }
      go (Asking log requests) is whole = absurd whole
      go (Waiting r) is whole = absurd whole

  -- ---- recovered

  module _ (r : Replayed) (is : t.phase ≡ Waiting r) (replayed : ReplayedOk w t r) (all : all_complete t.order r ≡ true) where
    stored : Each (HasStored w (length r.log)) t.order.backups
    stored = all_stored w (length r.log) t.order r all replayed.complete

    its_log : HasLog v (master_node n) (record { log = r.log; round = r.round })
    its_log = record { m = Recovering t; is = s.is; its_log = ap (λ (q : RecoveryPhase). node_log (Recovering (record { order = t.order; phase = q }))) is }

    many : Each (HasMany v (length r.log)) t.order.backups
    many = many_now known s (length r.log) t.order.backups (Each-weaker (HasStored w (length r.log)) (HasMany w (length r.log)) (stored_many w (length r.log)) t.order.backups stored)

    backup_was : (node : NodeId) (b : BackupState) → IsBackup v node b → IsBackup w node b
    backup_was node b now = record { its_kind = now.its_kind; its_state = subst (λ (bs : List BackupState). numbered bs node.number ≡ Some b) s.backups now.its_state }

    -- each fresh backup has the whole log
    prefixes : Each (λ node. (b : BackupState) → IsBackup v node b → IsPrefix r.log b.log) t.order.backups
    prefixes = Each-from_at (λ node. (b : BackupState) → IsBackup v node b → IsPrefix r.log b.log) t.order.backups (λ i node at b now.
        let before = known.inv.backups lists given node (record { place = i; stands = at }) b (backup_was node b now) in
        let prefix : IsPrefix b.log r.log = backup_prefix v lists _ its_log b (backup_ok_later f lists b before) in
        let same : b.log ≡ r.log = prefix_whole b.log r.log prefix (Each-at (HasMany v (length r.log)) t.order.backups many i node at b now) in
        subst (λ (es : List Entry). IsPrefix es b.log) same (prefix_self b.log))

    -- only its own lists are ready
    reach : Reach v (master_node n) t.order.version (length r.log)
    reach l ready its_master above = elim ready.told [
      | inl one ↦ let low = (known.names.given home.before home.was.given).version.0 in absurd (omega (arith, one, above, home.older, low))
      | inr told ↦ elim told [
        | inl sent ↦ absurd (ok.unprepared l.version (subst (λ (z : NodeId). WasSent v (says z manager_node (body.Prepared l.version))) its_master sent))
        | inr by ↦ recovered by
      ]
    ]
      where
        recovered : RecoveredTo v l → Each (HasMany v (length r.log)) l.backups
        recovered by =
            let sent : WasSent w (says manager_node (master_node n) (body.Recover by.order)) = subst (λ (z : NodeId). WasSent w (says manager_node z (body.Recover by.order))) its_master (manager_was known s l.master (body.Recover by.order) by.ordered) in
            let one : by.order ≡ t.order = known.names.one_order (master_node n) by.order t.order sent ordered in
            let version : l.version ≡ t.order.version = sym by.its_version ∙ ap (λ (o : Recover). o.version) one in
            let same : l ≡ lists_of_order (master_node n) t.order = (known.names.agree l lists (given_was known s l ready.given) given).by_version its_master version in
            subst (λ (z : Lists). Each (HasMany v (length r.log)) z.backups) (sym same) many

    recovered_says : (x : Recovered) → x.part ≡ t.order.part → x.epoch ≡ t.order.epoch → RecoveredSaid v (master_node n) x
    recovered_says x part epoch =
        let from = replayed.replayed.sources in
        record {
          holds = record {
            order = t.order;
            sent = ok.ordered;
            its_epoch = sym epoch;
            sources = record {
              b = from.b;
              its_backup = record { its_kind = from.its_backup.its_kind; its_state = subst (λ (bs : List BackupState). numbered bs t.order.backup.number ≡ Some from.b) (sym s.backups) from.its_backup.its_state };
              fenced = omega (arith, epoch, from.fenced);
              x = from.x;
              its_witness = record { its_kind = from.its_witness.its_kind; its_state = subst (λ (xs : List WitnessState). numbered xs t.order.witness.number ≡ Some from.x) (sym s.witnesses) from.its_witness.its_state };
              frozen = from.frozen;
            };
            on_all = subst (λ (es : List Entry). Each (λ node. (b : BackupState) → IsBackup v node b → IsPrefix es b.log) t.order.backups) replayed.replayed.is prefixes;
          };
          its_part = sym part;
          prefix = r.log;
          is_replay = replayed.replayed.is;
          l = record { log = r.log; round = r.round };
          its_log = its_log;
          began = prefix_self r.log;
          reach = reach;
        }

  recovered_by : (x : Recovered) → RecoverySays w t manager_node (body.Recovered x) → RecoveredSaid v (master_node n) x
  recovered_by x k = go t.phase refl stage k.3
    where
      go : (p : RecoveryPhase) → t.phase ≡ p → StageOk w t p → IsWaiting p → RecoveredSaid v (master_node n) x
      go (Waiting r) is good waits = recovered_says r is good.0 good.1 x k.0 k.1
      go (Asking log requests) is good waits = absurd waits
      go (Storing r) is good waits = absurd waits

  -- ---- each message

  ordered_to : (Has : Recover → Type 0) → Has t.order → IsOrderedTo v (master_node n) Has
  ordered_to Has has = (t.order, ok.ordered, has)

  pub recovering_says : (place : ℕ) (to : NodeId) (b : Body) → RecoverySays w t to b → Says v place (master_node n) to b
  recovering_says place to (body.Fence epoch) k = ordered_to (λ o. (o.epoch ≡ epoch) × (o.backup ≡ to)) (sym k.0, sym k.1)
  recovering_says place to (body.Freeze epoch) k = ordered_to (λ o. (o.epoch ≡ epoch) × (o.witness ≡ to)) (sym k.0, sym k.1)
  recovering_says place to (body.Append a) k = append_says to a k
  recovering_says place to (body.Recovered x) k = recovered_by x (k.0, k.1, refl, k.3)
  recovering_says place to (body.Refuse x) k = refusal_later f x.id.client x.refusal k.first
  recovering_says place to _ k = absurd k
