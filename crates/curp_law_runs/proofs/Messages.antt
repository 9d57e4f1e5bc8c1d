-- What each message says stays true.
use Rattle.std.proofs.Common.{◌≡◌, ◌≤◌, ◌^◌, inl, inr, ℕ, ◌+◌, Bool, true, false, refl, sym, ◌∙◌, subst, arith}
use Rattle.curp_base.specs.Words.{At, Each}
use Rattle.curp_base.proofs.Lists.{Each-at, Each-from_at}
use Rattle.curp_cmd.specs.Node.{manager_node}
use Rattle.curp_cmd.specs.declared.node.NodeId.{NodeId}
use Rattle.curp_cmd.specs.declared.node.NodeKind.{NodeKind}
use Rattle.curp_cmd.specs.declared.node.NodeKind.TheVariants as kind
use Rattle.curp_msg.specs.Moved.{says}
use Rattle.curp_msg.specs.declared.answer.AppendAnswer.{AppendAnswer}
use Rattle.curp_msg.specs.declared.answer.AppendAnswer.TheVariants.{Stored}
use Rattle.curp_msg.specs.declared.body.Accepted.{Accepted}
use Rattle.curp_msg.specs.declared.body.Appended.{Appended}
use Rattle.curp_msg.specs.declared.body.Body.{Body}
use Rattle.curp_msg.specs.declared.body.Body.TheVariants as body
use Rattle.curp_msg.specs.declared.body.Gc.{Gc}
use Rattle.curp_msg.specs.declared.body.Reply.{Reply}
use Rattle.curp_model.specs.Backup.{BackupState}
use Rattle.curp_model.specs.Log.{Stands}
use Rattle.curp_model.specs.Named.{IsBackup, IsNode, IsNodeOf}
use Rattle.curp_model.specs.World.{World, messages}
use Rattle.curp_facts.specs.Facts.{AcceptedOk, AppendAnswerOk, BodyOk, HasLog, IsAmong, MessageOk, ReplyOk, HasServed, SyncedOk, WasAdopted, hi_of, lo_of}
use Rattle.curp_facts.specs.Invariant.{Invariant}
use Rattle.curp_facts.specs.Reach.{Reach, SyncedSaid}
use Rattle.curp_facts.specs.Said.{AcceptedSaid, AppendHolds, GcHolds, IsGiveFrom, IsTakeOf, ReplyHolds, ReplySaid, Says}
use Rattle.curp_law_kept.proofs.Gives.{synced_stands, held_kept, stands_here, each_among, is_manager}
use Rattle.curp_facts.specs.Names.{IsOf, Names}
use Rattle.curp_facts.specs.Configs.{Configs}
use Rattle.curp_facts.specs.Fits.{MessageFits, Nodes, sender_kind}
use Rattle.curp_law_runs.specs.GivenStand.{GivenStand}
use Rattle.curp_facts.specs.Predecessors.{Predecessors}
use Rattle.curp_law_runs.proofs.Logs.{begins, reached}
use Rattle.curp_law_runs.proofs.Ranges.{config_ok}
use Rattle.curp_law_runs.proofs.Requests.{held_there}
use Rattle.curp_law_runs.proofs.PairsTold.{is_server, package_ok, taken_on_adopted}
use Rattle.curp_law_runs.proofs.Words.{said}

-- a node of a kind is a node
of_is_node : (w : World) (k : NodeKind) (node : NodeId) → IsOf w k node → IsNode w node
of_is_node w k node of = subst (λ (x : NodeKind). IsNodeOf w x node.number) (sym of.0) of.1

append_answer : (w : World) (from to : NodeId) (a : Appended) (answer : AppendAnswer) → AppendHolds w from to a answer → AppendAnswerOk w from to a answer
append_answer w from to a (Stored long) ok = ok
append_answer w from to a _ ok = tt

-- what is accepted is held, or was collected
accepted_ok : {w : World} (from to : NodeId) (a : Accepted) → AcceptedSaid w from to a → AcceptedOk w from a
accepted_ok from to a ok = elim ok.kept [
  | inl held ↦
      let h = held_there ok.x a.id held in
      inl (record { x = ok.x; is = ok.is; request = h.1.request; its_id = h.3; is_held = held_kept ok.x h.0 h.1 h.2 })
  | inr gone ↦ inr gone
]

-- a collection comes from a master that has served
gc_served : {w : World} (place : ℕ) (from to : NodeId) (g : Gc) → GcHolds w place from to g → HasServed w from g.epoch
gc_served {w} place from to g ok = record {
  version = ok.lists.version;
  speaks = record { lists = ok.lists; adopted = was; its_master = ok.its_master; its_epoch = ok.its_epoch; its_version = refl };
}
  where
    was : WasAdopted w ok.lists
    was = record { given = ok.adopted.given; told = elim ok.adopted.told [ inl one ↦ inl one | inr sent ↦ inr (record { place = sent.0; stands = sent.2 }) ] }

module _ {w : World} (names : Names w) (inv : Invariant w) where
  -- the id of a synced reply stands on each backup of that version's list, and of each later one
  synced_ok : (from : NodeId) (r : Reply) → SyncedSaid w from r → SyncedOk w from r
  synced_ok from r s l given master above was = each_among (λ node. (b : BackupState) → IsBackup w node b → Stands (lo_of w l.part) (hi_of w l.part) b.log r.id r.answer) l.backups on_backup
    where
      on_backup : (node : NodeId) → IsAmong node l.backups → (b : BackupState) → IsBackup w node b → Stands (lo_of w l.part) (hi_of w l.part) b.log r.id r.answer
      on_backup node named b is =
          let part : s.lists.part ≡ l.part = ((names.agree s.lists l s.adopted.given given).by_master (s.its_master ∙ sym master)).0 in
          let reach : Reach w l.master r.version (s.stands.index + 1) = subst (λ (n : NodeId). Reach w n r.version (s.stands.index + 1)) (sym master) s.reach in
          let has : HasLog w l.master s.l = subst (λ (n : NodeId). HasLog w n s.l) (sym master) s.its_log in
          let many = reached names inv l was r.version (s.stands.index + 1) reach above node named b is in
          subst (λ (n : ℕ). Stands (lo_of w n) (hi_of w n) b.log r.id r.answer) part
          (synced_stands (lo_of w s.lists.part) (hi_of w s.lists.part) s.l.log b.log s.stands.index r.id r.answer (begins names inv l given s.l has node named b is) (omega (arith, many))
          (stands_here (lo_of w s.lists.part) (hi_of w s.lists.part) s.l.log r.id r.answer s.stands))

  reply_ok : (from to : NodeId) (r : Reply) → ReplySaid w from to r → ReplyOk w from r r.synced
  reply_ok from to r ok = go r.synced ok.holds
    where
      go : (b : Bool) → ReplyHolds w from r b → ReplyOk w from r b
      go true s = (ok.speaks, synced_ok from r s)
      go false e = ok.speaks

  module _ (chain : Predecessors w) (earlier : GivenStand w) (configs : Configs w) (few : w.manager.shape.parts ≤ 2 ^ 64) where
    body_ok : (place : ℕ) (from to : NodeId) (b : Body) → At (messages w) place (says from to b) → IsOf w (sender_kind b) from → Says w place from to b → BodyOk w from to b
    body_ok place from to (body.Append a) at of ok = ok.holds
    body_ok place from to (body.Appended a) at of ok = append_answer w from to a a.answer ok.1
    body_ok place from to (body.FenceAnswer a) at of ok = ok.1
    body_ok place from to (body.FrozenAnswer requests) at of ok = ok
    body_ok place from to (body.Accepted a) at of ok = accepted_ok from to a ok
    body_ok place from to (body.Reply r) at of ok = reply_ok from to r ok
    body_ok place from to (body.Worth v) at of ok = record { version = ok.version; speaks = ok.speaks }
    body_ok place from to (body.Quick q) at of ok = record { lists = ok.lists; adopted = ok.adopted; its_master = ok.its_master; its_epoch = ok.its_epoch; its_version = ok.its_version }
    body_ok place from to (body.Gc g) at of ok = gc_served place from to g ok
    body_ok place from to (body.Taken t) at of ok =
        (is_server from (IsTakeOf t.migration t.package) ok, package_ok from t.migration t.package ok, taken_on_adopted names inv chain from t.migration t.package ok)
    body_ok place from to (body.GiveIn t) at of ok = (ok, package_ok ok.node t.migration t.package (said inv ok.node manager_node (body.Taken t) ok.told))
    body_ok place from to (body.Given migration) at of ok =
        (is_server from (IsGiveFrom migration) ok.0, earlier.stand from to migration (record { place = place; stands = at }))
    body_ok place from to (body.Recovered r) at of ok = ok.holds
    body_ok place from to (body.Prepared version) at of ok = ok
    body_ok place from to (body.Configuration config) at of ok =
        let manager : from ≡ manager_node = is_manager w from of in
        let stands : At (messages w) place (says manager_node to (body.Configuration config)) = subst (λ (x : NodeId). At (messages w) place (says x to (body.Configuration config))) manager at in
        config_ok names few config ok (configs.told to config (record { place = place; stands = stands }))
    body_ok place from to _ at of ok = tt

    -- each message's sender and addressee are nodes, and what it says is so
    pub messages_ok : Nodes w → Each (MessageOk w) (messages w)
    messages_ok nodes = Each-from_at (MessageOk w) (messages w) (λ k m at.
        let fits = Each-at (MessageFits w) (messages w) nodes.said k m at in
        record {
          sender = of_is_node w _ m.from fits.sender;
          addressee = of_is_node w _ m.to fits.addressee;
          says_so = body_ok k m.from m.to m.body at fits.sender (inv.messages k m at);
        })
