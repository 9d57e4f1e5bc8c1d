-- What backups and witnesses say stays so.
use Rattle.std.proofs.Common.{◌≡◌, inl, inr, ℕ, ◌<◌, List, [], ◌∷◌, refl, ap, sym, ◌∙◌, subst, arith, Option, Some, None}
use Rattle.curp_base.specs.Words.{Each, IsPrefix}
use Rattle.curp_base.proofs.Lists.{prefix_drop, prefix_length, prefix_trans}
use Rattle.curp_cmd.specs.Node.{witness_node}
use Rattle.curp_cmd.specs.declared.command.Request.{Request}
use Rattle.curp_cmd.specs.declared.entry.Entry.{Entry}
use Rattle.curp_cmd.specs.declared.node.NodeId.{NodeId}
use Rattle.curp_cmd.specs.declared.node.NodeKind.{NodeKind}
use Rattle.curp_msg.specs.Moved.{says}
use Rattle.curp_msg.specs.declared.answer.AppendAnswer.{AppendAnswer}
use Rattle.curp_msg.specs.declared.answer.AppendAnswer.TheVariants.{Stored}
use Rattle.curp_msg.specs.declared.answer.FenceReply.{FenceReply}
use Rattle.curp_msg.specs.declared.answer.FenceReply.TheVariants.{Log}
use Rattle.curp_msg.specs.declared.body.Accepted.{Accepted}
use Rattle.curp_msg.specs.declared.body.Append.{Append}
use Rattle.curp_msg.specs.declared.body.Appended.{Appended}
use Rattle.curp_msg.specs.declared.body.Body.TheVariants as body
use Rattle.curp_model.specs.Backup.{BackupState}
use Rattle.curp_model.specs.Named.{IsBackup, IsWitness}
use Rattle.curp_model.specs.Recovery.{replay}
use Rattle.curp_model.specs.Witness.{WitnessState, frozen_requests}
use Rattle.curp_model.specs.World.{World}
use Rattle.curp_facts.specs.Facts.{WasCollected, FenceReplyOk, FencedLogOk, FrozenOk, IsAmong, IsGiven, Lists, WasSent, ReplaySources, replay_of}
use Rattle.curp_facts.specs.Growth.{BackupGrows, Dropped}
use Rattle.curp_facts.specs.Nodes.{BackupOk}
use Rattle.curp_facts.specs.Reach.{BackupIsThere}
use Rattle.curp_facts.specs.Said.{AcceptedSaid, AppendHolds, AppendSaid, AppendedSaid, ProbedSaid}
use Rattle.curp_law_kept.proofs.Words.{Follows, backup_later, given_stays, log_later, one_state, sent_later, there, witness_later, event_at}
use Rattle.curp_msg.specs.declared.body.Probed.{Probed}

-- the backups of lists that were given are as their master has them
abbrev pub BackupsOk : World → Type 0
BackupsOk w = (l : Lists) → IsGiven w l → (node : NodeId) → IsAmong node l.backups → (b : BackupState) → IsBackup w node b → BackupOk w l b

module _ {w v : World} (s : Follows w v) where
  abbrev pub append_later : (from to : NodeId) (a : Append) → AppendSaid w from to a → AppendSaid v from to a
  append_later from to a ok =
      let o = log_later s from ok.holds.l ok.holds.its_log in
      record {
        lists = ok.lists;
        given = given_stays s ok.given;
        its_master = ok.its_master;
        its_epoch = ok.its_epoch;
        its_backup = ok.its_backup;
        holds = record { l = o.0; its_log = o.1; part = prefix_trans ok.holds.part (prefix_drop a.base o.2); begun = omega (arith, ok.holds.begun, o.3) };
        within = omega (arith, ok.within, prefix_length o.2);
      }

  abbrev pub appended_later : (from to : NodeId) (a : Appended) → AppendedSaid w from to a → AppendedSaid v from to a
  appended_later from to a ok = record { lists = ok.lists; given = given_stays s ok.given; its_master = ok.its_master; its_epoch = ok.its_epoch; its_backup = ok.its_backup }

  pub append_holds_later : (from to : NodeId) (a : Appended) (answer : AppendAnswer) → AppendHolds w from to a answer → AppendHolds v from to a answer
  append_holds_later from to a (Stored long) ok =
      let o = backup_later s from ok.b ok.is in
      record { b = o.0; is = o.1; low = omega (arith, ok.low, prefix_length o.2.log); append = ok.append; sent = sent_later s ok.sent; its_epoch = ok.its_epoch; its_round = ok.its_round }
  append_holds_later from to a _ ok = tt

  -- ---- witnesses

  -- the request is held still, or a collection at the witness's epoch has listed it
  pub accepted_later : (from to : NodeId) (a : Accepted) → AcceptedSaid w from to a → AcceptedSaid v from to a
  accepted_later from to a ok =
      let o = witness_later s from ok.x ok.is in
      record {
        addressee = ok.addressee;
        x = o.0;
        is = o.1;
        its_epoch = o.2.epoch (s.steady.idle from.number ok.x ok.is.its_state) a.epoch ok.its_epoch;
        kept = elim ok.kept [
          | inl held ↦ elim (o.2.held a.id held) [ inl still ↦ inl still | inr gone ↦ inr (dropped gone) ]
          | inr c ↦ inr (record { node = c.node; gc = c.gc; sent = sent_later s c.sent; its_epoch = c.its_epoch; listed = c.listed })
        ];
      }
    where
      named : witness_node from.number ≡ from
      named = ap (λ (k : NodeKind). record { kind = k; number = from.number }) (sym ok.is.its_kind)

      same : (e : ℕ) → ok.x.epoch ≡ Some e → e ≡ a.epoch
      same e h = let its = ok.its_epoch in cc

      dropped : Dropped v from.number ok.x a.id → WasCollected v from a.id a.epoch
      dropped d = record {
        node = d.from;
        gc = d.gc;
        sent = subst (λ (to : NodeId). WasSent v (says d.from to (body.Gc d.gc))) named d.sent;
        its_epoch = same d.gc.epoch d.its_epoch;
        listed = d.listed;
      }

  -- a frozen witness stays
  pub frozen_later : (from : NodeId) (requests : List Request) → FrozenOk w from requests → FrozenOk v from requests
  frozen_later from requests ok =
      let o = witness_later s from ok.x ok.is in
      record { x = ok.x; is = subst (λ (y : WitnessState). IsWitness v from y) (o.2.frozen ok.frozen) o.1; its_requests = ok.its_requests; frozen = ok.frozen }

  -- ---- fenced backups

  -- a backup that is fenced above the epoch of its lists keeps its log
  pub fenced_stays : BackupsOk w → (l : Lists) → IsGiven w l → (node : NodeId) → IsAmong node l.backups → (b c : BackupState) → IsBackup w node b → IsBackup v node c
      → l.epoch < b.fence → c.log ≡ b.log
  fenced_stays backups l given node named b c was is above =
      let o = backup_later s node b was in
      let same : o.0 ≡ c = one_state _ o.0 c o.1.its_state is.its_state in
      subst (λ (x : BackupState). x.log ≡ b.log) same (go b.installed refl o.2)
    where
      go : (i : Option ℕ) → b.installed ≡ i → BackupGrows b (backup_later s node b was).0 → (backup_later s node b was).0.log ≡ b.log
      go None e g = g.absent e
      go (Some k) e g = let home : k ≡ l.epoch = (backups l given node named b was).installed k e in g.fenced k e (omega (arith, home, above))

  -- what a recovery stands on stays as it is, and so does its replay
  pub sources_later : BackupsOk w → (l : Lists) → IsGiven w l → (backup witness : NodeId) (epoch : ℕ) → IsAmong backup l.backups → l.epoch < epoch
      → (sources : ReplaySources w backup witness epoch)
      → (later : ReplaySources v backup witness epoch) × (later.b.log ≡ sources.b.log) × ((lo hi : ℕ) → replay_of lo hi later ≡ replay_of lo hi sources)
  sources_later backups l given backup witness epoch named earlier sources =
      let b = backup_later s backup sources.b sources.its_backup in
      let x = witness_later s witness sources.x sources.its_witness in
      let same : b.0.log ≡ sources.b.log = fenced_stays backups l given backup named sources.b b.0 sources.its_backup b.1 (omega (arith, earlier, sources.fenced)) in (
        record {
          b = b.0;
          its_backup = b.1;
          fenced = omega (arith, sources.fenced, b.2.fence);
          x = sources.x;
          its_witness = subst (λ (y : WitnessState). IsWitness v witness y) (x.2.frozen sources.frozen) x.1;
          frozen = sources.frozen;
        },
        same,
        λ lo hi. ap (λ (es : List Entry). replay lo hi es (frozen_requests sources.x)) same,
      )

  pub fenced_later : BackupsOk w → (from : NodeId) (epoch : ℕ) (entries : List Entry) → FencedLogOk w from epoch entries → FencedLogOk v from epoch entries
  fenced_later backups from epoch entries ok =
      let o = backup_later s from ok.b ok.is in
      record {
        b = o.0;
        is = o.1;
        its_log = fenced_stays backups ok.lists ok.given from ok.its_backup ok.b o.0 ok.is o.1 (omega (arith, ok.earlier, ok.fenced)) ∙ ok.its_log;
        fenced = omega (arith, ok.fenced, o.2.fence);
        lists = ok.lists;
        given = given_stays s ok.given;
        its_backup = ok.its_backup;
        earlier = ok.earlier;
      }

  pub fence_reply_later : BackupsOk w → (from : NodeId) (epoch : ℕ) (answer : FenceReply) → FenceReplyOk w from epoch answer → FenceReplyOk v from epoch answer
  fence_reply_later backups from epoch (Log entries) ok = fenced_later backups from epoch entries ok
  fence_reply_later backups from epoch _ ok = tt

  -- what each backup's log begins with stays so
  pub prefixes_later : (nodes : List NodeId) (prefix : List Entry) → Each (BackupIsThere w) nodes → Each (λ node. (f : BackupState) → IsBackup w node f → IsPrefix prefix f.log) nodes
      → Each (λ node. (f : BackupState) → IsBackup v node f → IsPrefix prefix f.log) nodes
  prefixes_later [] prefix there prefixes = tt
  prefixes_later (node ∷ nodes) prefix there prefixes = (first, prefixes_later nodes prefix there.1 prefixes.1)
    where
      first : (f : BackupState) → IsBackup v node f → IsPrefix prefix f.log
      first f is =
          let o = backup_later s node there.0.0 there.0.1 in
          let same : o.0 ≡ f = one_state _ o.0 f o.1.its_state is.its_state in
          subst (λ (x : BackupState). IsPrefix prefix x.log) same (prefix_trans (prefixes.0 there.0.0 there.0.1) o.2.log)

  pub probed_later : (from to : NodeId) (a : Probed) → ProbedSaid w from to a → ProbedSaid v from to a
  probed_later from to a ok = record {
    addressee = ok.addressee;
    place = ok.place;
    command = ok.command;
    invoked = event_at s ok.place _ ok.invoked;
    reads = ok.reads;
    own = λ live. own_later (ok.own live);
  }
    where
      own_later : ((x : WitnessState) × IsWitness w from x × (x.epoch ≡ Some a.epoch)) → (y : WitnessState) × IsWitness v from y × (y.epoch ≡ Some a.epoch)
      own_later (x, is, e) = let o = witness_later s from x is in (o.0, o.1, o.2.epoch (s.steady.idle from.number x is.its_state) a.epoch e)
