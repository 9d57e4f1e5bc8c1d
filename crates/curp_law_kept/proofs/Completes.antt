-- What completes a client's update has the evidence that it can complete.
use Rattle.std.proofs.Common.{◌≡◌, inl, inr, ℕ, refl, ap, sym, ◌∙◌, subst}
use Rattle.curp_base.proofs.Lists.{Each-weaker}
use Rattle.curp_cmd.specs.Node.{client_node}
use Rattle.curp_cmd.specs.declared.command.Answer.{Answer}
use Rattle.curp_cmd.specs.declared.command.RequestId.{RequestId}
use Rattle.curp_cmd.specs.declared.node.NodeId.{NodeId}
use Rattle.curp_msg.specs.Moved.{says}
use Rattle.curp_msg.specs.declared.body.Body.TheVariants as body
use Rattle.curp_model.specs.World.{World}
use Rattle.curp_facts.specs.Facts.{Completable, EntryWas, WasSent, lists_of_part}
use Rattle.curp_facts.specs.Nodes.{MayCome}
use Rattle.curp_facts.specs.Said.{ReplySaid}
use Rattle.curp_law_kept.specs.ClientEffect.{BySynced, ByAccepts}
use Rattle.curp_facts.specs.Known.{Known}
use Rattle.curp_law_kept.proofs.Known.{said}

module _ {w : World} (known : Known w) (n : ℕ) where
  -- a synced reply that came was sent by a master of the partition
  pub by_synced : (id : RequestId) (a : Answer) → BySynced (MayCome w n) id a → (part : ℕ) × Completable w part id a
  by_synced id a e =
      let ok : ReplySaid w e.from (client_node n) e.reply = said known e.from (client_node n) (body.Reply e.reply) e.came in (
        ok.speaks.lists.part,
        inl (record {
          lists = ok.speaks.lists;
          given = ok.speaks.adopted.given;
          its_part = refl;
          reply = e.reply;
          sent = subst (λ (from : NodeId). WasSent w (says from (client_node e.reply.id.client) (body.Reply e.reply))) (sym ok.speaks.its_master)
              (subst (λ (to : NodeId). WasSent w (says e.from to (body.Reply e.reply))) ok.addressee e.came);
          its_id = e.its_id;
          its_answer = e.its_answer;
          is_synced = e.is_synced;
        }),
      )

  -- an unsynced one that came, and the accepts of all witnesses, were sent by an adopted entry's nodes
  pub by_accepts : (id : RequestId) (a : Answer) → ByAccepts (MayCome w n) (EntryWas w) id a → (part : ℕ) × Completable w part id a
  by_accepts id a e =
      let ok : ReplySaid w e.part.master (client_node n) e.reply = said known e.part.master (client_node n) (body.Reply e.reply) e.came in
      let client : client_node n ≡ client_node id.client = ok.addressee ∙ ap (λ (x : RequestId). client_node x.client) e.its_id in (
        e.part.part,
        inr (record {
          lists = lists_of_part e.part;
          given = e.adopted.given;
          its_part = refl;
          reply = e.reply;
          sent = subst (λ (to : NodeId). WasSent w (says e.part.master to (body.Reply e.reply))) ok.addressee e.came;
          its_id = e.its_id;
          its_answer = e.its_answer;
          is_early = e.unsynced;
          its_epoch = e.epoch;
          its_version = e.version;
          accepts = Each-weaker (Accepts (client_node n)) (Accepts (client_node id.client)) (λ x sent. subst (λ (to : NodeId). Accepts to x) client sent) e.part.witnesses e.accepts;
        }),
      )
    where
      Accepts : NodeId → NodeId → Type 0
      Accepts to x = WasSent w (says x to (body.Accepted (record { id = id; epoch = e.part.epoch })))
