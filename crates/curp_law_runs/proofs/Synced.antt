-- What was answered by a synced reply stands in the log of its sender, and in the log of each backup of its last lists.
use Rattle.std.proofs.Common.{◌≡◌, inl, ℕ, ◌+◌, sym, ◌∙◌, subst, arith}
use Rattle.curp_cmd.specs.Node.{client_node}
use Rattle.curp_cmd.specs.declared.command.Answer.{Answer}
use Rattle.curp_cmd.specs.declared.command.RequestId.{RequestId}
use Rattle.curp_cmd.specs.declared.node.NodeId.{NodeId}
use Rattle.curp_msg.specs.declared.body.Body.TheVariants as body
use Rattle.curp_model.specs.World.{World}
use Rattle.curp_facts.specs.Facts.{HasLog, IsAnswered, hi_of, lo_of}
use Rattle.curp_facts.specs.Invariant.{Invariant}
use Rattle.curp_facts.specs.Reach.{Reach, SyncedSaid}
use Rattle.curp_facts.specs.Said.{ReplyHolds, ReplySaid}
use Rattle.curp_law_kept.specs.Standing.{StandsHere}
use Rattle.curp_law_kept.proofs.Gives.{stands_from_here, synced_stands, stands_here}
use Rattle.curp_facts.specs.Names.{Names}
use Rattle.curp_law_runs.specs.Answered.{AnsweredBy}
use Rattle.curp_law_runs.proofs.Logs.{begins, reached}
use Rattle.curp_law_runs.proofs.Words.{said}

module _ {w : World} (names : Names w) (inv : Invariant w) where
  pub synced_answered : (p : ℕ) (id : RequestId) (a : Answer) → IsAnswered w p id a → AnsweredBy w p id a
  synced_answered p id a ans = go (subst (ReplyHolds w ans.lists.master ans.reply) ans.is_synced its.holds)
    where
      its : ReplySaid w ans.lists.master (client_node ans.reply.id.client) ans.reply
      its = said inv ans.lists.master (client_node ans.reply.id.client) (body.Reply ans.reply) ans.sent

      go : SyncedSaid w ans.lists.master ans.reply → AnsweredBy w p id a
      go s =
          let part : s.lists.part ≡ p = ((names.agree s.lists ans.lists s.adopted.given ans.given).by_master s.its_master).0 ∙ ans.its_part in
          let has : HasLog w s.lists.master s.l = subst (λ (m : NodeId). HasLog w m s.l) (sym s.its_master) s.its_log in
          let reach : Reach w s.lists.master ans.reply.version (s.stands.index + 1) = subst (λ (m : NodeId). Reach w m ans.reply.version (s.stands.index + 1)) (sym s.its_master) s.reach in
          let here : StandsHere (lo_of w p) (hi_of w p) s.l.log s.stands.index id a
          = subst (λ (n : ℕ). StandsHere (lo_of w n) (hi_of w n) s.l.log s.stands.index id a) part
          (subst (λ (i : RequestId). StandsHere (lo_of w s.lists.part) (hi_of w s.lists.part) s.l.log s.stands.index i a) ans.its_id
          (subst (λ (b : Answer). StandsHere (lo_of w s.lists.part) (hi_of w s.lists.part) s.l.log s.stands.index ans.reply.id b) ans.its_answer
          (stands_here (lo_of w s.lists.part) (hi_of w s.lists.part) s.l.log ans.reply.id ans.reply.answer s.stands))) in
          record {
            lists = s.lists;
            adopted = s.adopted;
            its_part = part;
            its = s.l;
            its_log = has;
            in_log = stands_from_here (lo_of w p) (hi_of w p) s.l.log s.stands.index id a here;
            pairs = λ j adopted master last node other named named_too b x is its_witness.
                let agree = (names.agree s.lists j s.adopted.given adopted.given).by_master (sym master) in
                let newer = last s.lists s.adopted agree.0 (omega (arith, agree.1)) in
                let many = reached names inv j adopted ans.reply.version (s.stands.index + 1) (subst (λ (m : NodeId). Reach w m ans.reply.version (s.stands.index + 1)) (sym master) reach) (omega (arith, newer, s.its_version)) node named b is in
                let prefix = begins names inv j adopted.given s.l (subst (λ (m : NodeId). HasLog w m s.l) (sym master) has) node named b is in
                inl (synced_stands (lo_of w p) (hi_of w p) s.l.log b.log s.stands.index id a prefix (omega (arith, many)) here);
          }
