-- Each message that a master sends by an input says what it has to.
use Rattle.std.proofs.Common.{◌≡◌, ℕ, ◌+◌, ◌≤◌, List, length, sym, subst, arith, Option}
use Rattle.curp_base.specs.Words.{At, Each}
use Rattle.curp_base.proofs.Lists.{Each-at, at_within}
use Rattle.curp_cmd.specs.Node.{manager_node, master_node}
use Rattle.curp_cmd.specs.declared.node.NodeId.{NodeId}
use Rattle.curp_msg.specs.Moved.{says}
use Rattle.curp_msg.specs.declared.body.Body.{Body}
use Rattle.curp_msg.specs.declared.body.Body.TheVariants as body
use Rattle.curp_msg.specs.declared.message.Message.{Message}
use Rattle.curp_model.specs.Master.{MasterState}
use Rattle.curp_model.specs.Recovery.{Fresh, MasterStage, Recovering, RecoveryState, Serving}
use Rattle.curp_model.specs.World.{World, messages}
use Rattle.curp_facts.specs.Facts.{IsAmong}
use Rattle.curp_facts.specs.Nodes.{StageOk}
use Rattle.curp_facts.specs.Said.{IsGiveFrom, IsTakeOf, Says}
use Rattle.curp_facts.specs.Known.{Known}
use Rattle.curp_law_kept.proofs.MastersKept.{none_said}
use Rattle.curp_law_kept.proofs.MastersMoves.{MasterStep}
use Rattle.curp_law_kept.proofs.MastersPrepared.{prepared_says}
use Rattle.curp_law_kept.proofs.MastersReady.{step_follows}
use Rattle.curp_law_kept.proofs.MastersRecovering.{recovering_says}
use Rattle.curp_law_kept.proofs.MastersSay.{append_says, entry_says, gc_says, give_ordered, reply_says, worth_says, quick_says}
use Rattle.curp_law_kept.specs.Moves.{IsSaidBy, PreparedSays, RecoverySays, ServingSays}
use Rattle.curp_law_kept.specs.Stages.{FreshSays}
use Rattle.curp_law_kept.proofs.Entries.{refusal_later}
use Rattle.curp_law_kept.proofs.ManagerWorlds.{sent_now}

module _ {w v : World} (known : Known w) {n : ℕ} {from : NodeId} {heard : Option Body} where
  -- ---- by how far it is

  fresh_says : {m k : MasterStage} {out : List Message} (s : MasterStep w v n from heard m k out) (place : ℕ) (to : NodeId) (b : Body) → FreshSays w to b → Says v place (master_node n) to b
  fresh_says s place to (body.Refuse r) k = refusal_later (step_follows known s) r.id.client r.refusal k.first
  fresh_says s place to _ k = absurd k

  module _ {x y : MasterState} {out : List Message} (s : MasterStep w v n from heard (Serving x) (Serving y) out) where
    serving_prepared : (to : NodeId) (version : ℕ) → to ≡ manager_node → PreparedSays y version → IsAmong (says (master_node n) to (body.Prepared version)) out → (place : ℕ) → Says v place (master_node n) to (body.Prepared version)
    serving_prepared to version its k now place = prepared_says known s version (subst (λ (z : NodeId). IsAmong (says (master_node n) z (body.Prepared version)) out) its now) k

    serving_says : (place : ℕ) → length (messages w) ≤ place → place ≤ length (messages v) → (to : NodeId) (b : Body) → IsAmong (says (master_node n) to b) out → ServingSays w y to b → Says v place (master_node n) to b
    serving_says place late near to (body.Reply r) now k = reply_says known s to r k
    serving_says place late near to (body.Worth r) now k = worth_says known s to r k
    serving_says place late near to (body.Quick q) now k = quick_says known s place near to q k
    serving_says place late near to (body.Refuse r) now k = refusal_later (step_follows known s) r.id.client r.refusal k.first
    serving_says place late near to (body.Append a) now k = append_says known s to a k
    serving_says place late near to (body.Gc g) now k = gc_says known s place late to g k
    serving_says place late near to (body.Prepared version) now k = serving_prepared to version k.1 k.0 now place
    serving_says place late near to (body.Taken t) now k = entry_says known s (IsTakeOf t.migration t.package) k.0
    serving_says place late near to (body.Given migration) now k = (entry_says known s (IsGiveFrom migration) k.0, give_ordered known s migration k.2)
    serving_says place late near to _ now k = absurd k

  -- ---- each message

  -- what master n says is so
  pub master_says : (m k : MasterStage) (out : List Message) → MasterStep w v n from heard m k out → (j : ℕ) (x : Message) → At out j x → Says v (length (messages w) + j) x.from x.to x.body
  master_says m k out s j x at = go m k s
    where
      by : (Say : NodeId → Body → Type 0) → Each (IsSaidBy n Say) out → IsSaidBy n Say x
      by Say all = Each-at (IsSaidBy n Say) out all j x at

      serving : (a b : MasterState) (s : MasterStep w v n from heard (Serving a) (Serving b) out) → IsSaidBy n (ServingSays w b) x → Says v (length (messages w) + j) x.from x.to x.body
      serving a b s k =
          let now : IsAmong (says (master_node n) x.to x.body) out = record { place = j; stands = subst (λ (node : NodeId). At out j (says node x.to x.body)) k.sender at } in
          subst (λ (node : NodeId). Says v (length (messages w) + j) node x.to x.body) (sym k.sender) (serving_says s (length (messages w) + j) (omega arith) (omega (arith, at_within (messages v) (length (messages w) + j) _ (sent_now w v out s.frame.sent now).stands)) x.to x.body now k.says_so)

      recovering : (m : MasterStage) (t : RecoveryState) (s : MasterStep w v n from heard m (Recovering t) out) → StageOk w t t.phase → IsSaidBy n (RecoverySays w t) x → Says v (length (messages w) + j) x.from x.to x.body
      recovering m t s stage k = subst (λ (node : NodeId). Says v (length (messages w) + j) node x.to x.body) (sym k.sender) (recovering_says known s stage (length (messages w) + j) x.to x.body k.says_so)

      fresh : (s : MasterStep w v n from heard Fresh Fresh out) → IsSaidBy n (FreshSays w) x → Says v (length (messages w) + j) x.from x.to x.body
      fresh s k = subst (λ (node : NodeId). Says v (length (messages w) + j) node x.to x.body) (sym k.sender) (fresh_says s (length (messages w) + j) x.to x.body k.says_so)

      go : (m k : MasterStage) → MasterStep w v n from heard m k out → Says v (length (messages w) + j) x.from x.to x.body
      go Fresh Fresh s = fresh s (by (FreshSays w) s.move)
      go Fresh (Recovering t) s = recovering Fresh t s s.move.move.stage (by (RecoverySays w t) s.move.move.says)
      go (Recovering a) (Recovering t) s = recovering (Recovering a) t s s.move.stage (by (RecoverySays w t) s.move.says)
      go (Recovering a) (Serving b) s = absurd (none_said known s s.move.silent x (record { place = j; stands = at }))
      go (Serving a) (Serving b) s = serving a b s (by (ServingSays w b) s.move.says)
      go _ _ s = absurd (s.move)
