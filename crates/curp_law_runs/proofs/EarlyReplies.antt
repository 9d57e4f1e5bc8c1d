-- Each unsynced reply is of a free Op of its sender's log.
use Rattle.std.proofs.Common.{◌≡◌, true, refl, sym, ◌∙◌, subst}
use Rattle.curp_cmd.specs.Node.{client_node}
use Rattle.curp_cmd.specs.declared.node.NodeId.{NodeId}
use Rattle.curp_msg.specs.declared.body.Body.TheVariants as body
use Rattle.curp_msg.specs.declared.body.Reply.{Reply}
use Rattle.curp_model.specs.Master.{MasterState, has}
use Rattle.curp_model.specs.Named.{IsMaster}
use Rattle.curp_model.specs.Recovery.{Serving}
use Rattle.curp_model.specs.World.{World}
use Rattle.curp_facts.specs.Facts.{Lists}
use Rattle.curp_facts.specs.Invariant.{Invariant}
use Rattle.curp_facts.specs.Kept.{EarlyOk, EarlyRepliesOk}
use Rattle.curp_facts.specs.Reach.{EarlySaid}
use Rattle.curp_facts.specs.Said.{ReplyHolds, ReplySaid}
use Rattle.curp_facts.specs.Names.{Names}
use Rattle.curp_law_runs.proofs.Words.{one_master, said}

module _ {w : World} (names : Names w) (inv : Invariant w) where
  early_ok : (from : NodeId) (r : Reply) (e : EarlySaid w from r) → EarlyOk w e.lists r
  early_ok from r e = record {
    its = record { log = e.m.log; round = e.m.round };
    its_log = record { m = Serving e.m; is = serves; its_log = refl };
    done = record { index = e.index; request = e.request; acknowledged = e.acknowledged; stands = e.stands; its_id = e.its_id; its_answer = e.its_answer };
    free = λ m its. subst (λ (k : MasterState). has e.index k.free ≡ true) (same m (one_master (Serving e.m) (Serving m) serves its)) e.free;
    synced = e.synced;
    below = e.below;
    apart = e.apart;
    stored = e.stored;
  }
    where
      serves : IsMaster w e.lists.master (Serving e.m)
      serves = subst (λ (n : NodeId). IsMaster w n (Serving e.m)) (sym e.its_master) e.serves

      same : (m : MasterState) → Serving e.m ≡ Serving m → e.m ≡ m
      same m is = cc

  pub early_replies_ok : EarlyRepliesOk w
  early_replies_ok l given r sent unsynced version =
      let its : ReplySaid w l.master (client_node r.id.client) r = said inv l.master (client_node r.id.client) (body.Reply r) sent in
      let e : EarlySaid w l.master r = subst (ReplyHolds w l.master r) unsynced its.holds in
      subst (λ (k : Lists). EarlyOk w k r) ((names.agree e.lists l e.adopted.given given).by_version e.its_master (e.its_version ∙ version)) (early_ok l.master r e)
