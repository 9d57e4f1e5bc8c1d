-- What backups, witnesses and clients keep that don't move, and what is completed, stays so.
use Rattle.std.proofs.Common.{inl, inr, ℕ, true}
use Rattle.curp_base.proofs.Lists.{Each-weaker, prefix_trans}
use Rattle.curp_cmd.specs.Node.{client_node}
use Rattle.curp_cmd.specs.declared.command.Answer.{Answer}
use Rattle.curp_cmd.specs.declared.command.RequestId.{RequestId}
use Rattle.curp_cmd.specs.declared.node.NodeId.{NodeId}
use Rattle.curp_msg.specs.Moved.{says}
use Rattle.curp_msg.specs.declared.body.Body.TheVariants as body
use Rattle.curp_model.specs.Backup.{BackupState}
use Rattle.curp_model.specs.Witness.{HeldRequest, WitnessState}
use Rattle.curp_model.specs.World.{World}
use Rattle.curp_facts.specs.Facts.{Completable, IsWitnessed, Lists, WasSent}
use Rattle.curp_facts.specs.Kept.{FollowsLog}
use Rattle.curp_facts.specs.Nodes.{BackupOk, CompletedBy, ValueWasSent, WitnessOk, WasRead, WasSeen}
use Rattle.curp_facts.specs.Entries.{UpdateOk}
use Rattle.curp_law_kept.proofs.Entries.{update_later}
use Rattle.curp_law_kept.proofs.Words.{Follows, given_stays, log_later, sent_later, adopted_stays}

module _ {w v : World} (s : Follows w v) where
  -- ---- backups and witnesses

  follows_later : (l : Lists) (b : BackupState) → FollowsLog w l b → FollowsLog v l b
  follows_later l b ok = let o = log_later s l.master ok.its ok.its_log in record { its = o.0; its_log = o.1; prefix = prefix_trans ok.prefix o.2 }

  pub backup_ok_later : (l : Lists) (b : BackupState) → BackupOk w l b → BackupOk v l b
  backup_ok_later l b ok = record {
    installed = ok.installed;
    empty = ok.empty;
    follows = elim ok.follows [ inl none ↦ inl none | inr f ↦ inr (follows_later l b f) ];
  }

  pub witness_ok_later : (x : WitnessState) → WitnessOk w x → WitnessOk v x
  witness_ok_later x ok = record {
    started = ok.started;
    held = Each-weaker (λ (h : HeldRequest). UpdateOk w h.request) (λ (h : HeldRequest). UpdateOk v h.request) (λ h u. update_later s u) x.held ok.held;
    apart = ok.apart;
  }

  -- ---- what is completable

  pub completable_later : (part : ℕ) (id : RequestId) (a : Answer) → Completable w part id a → Completable v part id a
  completable_later part id a ok = elim ok [
    | inl k ↦ inl (record { lists = k.lists; given = given_stays s k.given; its_part = k.its_part; reply = k.reply; sent = sent_later s k.sent; its_id = k.its_id; its_answer = k.its_answer; is_synced = k.is_synced })
    | inr k ↦ inr (record {
      lists = k.lists;
      given = given_stays s k.given;
      its_part = k.its_part;
      reply = k.reply;
      sent = sent_later s k.sent;
      its_id = k.its_id;
      its_answer = k.its_answer;
      is_early = k.is_early;
      its_epoch = k.its_epoch;
      its_version = k.its_version;
      accepts = Each-weaker (AcceptSent w k id) (AcceptSent v k id) (λ x sent. sent_later s sent) k.lists.witnesses k.accepts;
    })
  ]
    where
      AcceptSent : (u : World) → IsWitnessed w part id a → RequestId → NodeId → Type 0
      AcceptSent u k id x = WasSent u (says x (client_node id.client) (body.Accepted (record { id = id; epoch = k.lists.epoch })))

  pub value_later : (id : RequestId) (a : Answer) → ValueWasSent w id a → ValueWasSent v id a
  value_later id a k = (k.0, k.1, sent_later s k.2, k.3, k.4)

  pub seen_later : (id : RequestId) (a : Answer) → WasSeen w id a → WasSeen v id a
  seen_later id a k = record {
    lists = k.lists;
    adopted = adopted_stays s k.adopted;
    quick = k.quick;
    sent = sent_later s k.sent;
    its_id = k.its_id;
    its_answer = k.its_answer;
    its_epoch = k.its_epoch;
    its_version = k.its_version;
    lives = Each-weaker (LiveSent w k id) (LiveSent v k id) (λ x sent. sent_later s sent) k.lists.witnesses k.lives;
  }
    where
      LiveSent : (u : World) → WasSeen w id a → RequestId → NodeId → Type 0
      LiveSent u k id x = WasSent u (says x (client_node id.client) (body.Probed (record { id = id; epoch = k.lists.epoch; live = true })))

  pub read_later : (id : RequestId) (a : Answer) → WasRead w id a → WasRead v id a
  read_later id a ok = elim ok [
    | inl k ↦ inl (value_later id a k)
    | inr k ↦ inr (seen_later id a k)
  ]

  pub completed_by_later : (id : RequestId) (a : Answer) → CompletedBy w id a → CompletedBy v id a
  completed_by_later id a ok = elim ok [
    | inl k ↦ inl (k.0, completable_later k.0 id a k.1)
    | inr k ↦ inr (read_later id a k)
  ]
