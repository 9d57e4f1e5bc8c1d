-- How one input leaves a master, by how far it is, in a world that a script reaches.
use Rattle.std.proofs.Common.{◌≡◌, ◌≢◌, ℕ, ◌≤◌, List, [], length, refl, subst, sym, Option, Some, None}
use Rattle.curp_base.specs.Words.{Each, numbered}
use Rattle.curp_base.proofs.Lists.{Each-weaker}
use Rattle.curp_cmd.specs.Node.{manager_node, master_node}
use Rattle.curp_cmd.specs.declared.node.NodeId.{NodeId}
use Rattle.curp_msg.specs.Moved.{Moved, says, sends}
use Rattle.curp_msg.specs.declared.body.Adopted.{Adopted}
use Rattle.curp_msg.specs.declared.body.Body.{Body}
use Rattle.curp_msg.specs.declared.body.Body.TheVariants as body
use Rattle.curp_msg.specs.declared.body.Prepare.{Prepare}
use Rattle.curp_msg.specs.declared.body.Recover.{Recover}
use Rattle.curp_msg.specs.Input.{Input}
use Rattle.curp_msg.specs.Input as input
use Rattle.curp_msg.specs.declared.machine.Local.{Local}
use Rattle.curp_msg.specs.declared.message.Message.{Message}
use Rattle.curp_model.specs.Master.{MasterState, Switch, Switching, on_serving, serving_ordered}
use Rattle.curp_model.specs.Named.{IsMaster}
use Rattle.curp_model.specs.Recovery.{Asking, Fresh, MasterStage, Recovering, RecoveryState, Replayed, Serving, Waiting, master_input, master_ordered, on_master, recovery_ordered}
use Rattle.curp_model.specs.World.{World}
use Rattle.curp_facts.specs.Facts.{ByReplacement, WasSent, lists_of_prepare}
use Rattle.curp_facts.specs.Growth.{Grows}
use Rattle.curp_facts.specs.Kept.{lists_of_master}
use Rattle.curp_facts.specs.Nodes.{RecovererOk, ServingOk}
use Rattle.curp_law_kept.specs.Deeds.{IsFor}
use Rattle.curp_law_kept.proofs.Apart.{one_some}
use Rattle.curp_facts.specs.Known.{Known}
use Rattle.curp_law_kept.proofs.Known.{Frame, from_manager}
use Rattle.curp_law_kept.proofs.MastersHeard.{filled, recovery_hears, serving_hears}
use Rattle.curp_law_kept.specs.Moves.{IsSaidBy, RecoveryMove, RecoverySays, ServingMove, ServingSays}
use Rattle.curp_law_kept.specs.Stages.{BeginningOk, FreshSays}
use Rattle.curp_law_kept.proofs.Inputs.{serving_moves}
use Rattle.curp_law_kept.proofs.Ordered.{serving_ordered_moves}
use Rattle.curp_law_kept.proofs.Recovering.{at, fresh_moves, recovering_moves, recovery_ordered_moves}
use Rattle.curp_facts.specs.Names.{RecoverOrderOk}
use Rattle.curp_law_kept.proofs.Later.{Later}

-- a fresh master gets its order
pub record GetsOrder (w : World) (n : ℕ) (t : RecoveryState) (out : List Message) : Type 0 where
  pub order : Recover
  pub sent : WasSent w (says manager_node (master_node n) (body.Recover order))
  pub asks : t ≡ at order (Asking None None)
  pub move : RecoveryMove w n (at order (Asking None None)) (sends t out)

-- a recovering master that waits is adopted, and serves with what it has replayed
pub record StartsToServe (w : World) (n : ℕ) (s : RecoveryState) (k : MasterState) (out : List Message) : Type 0 where
  pub a : Adopted
  pub sent : WasSent w (says manager_node (master_node n) (body.Adopted a))
  pub r : Replayed
  pub waits : s.phase ≡ Waiting r
  pub log : k.log ≡ r.log
  pub begins : BeginningOk w s k
  pub silent : out ≡ []

-- how master n moves, by how far it is and what it hears, if anything
abbrev pub StageMove : World → ℕ → NodeId → Option Body → MasterStage → MasterStage → List Message → Type 0
StageMove w n from heard Fresh Fresh out = Each (IsSaidBy n (FreshSays w)) out
StageMove w n from heard Fresh (Recovering t) out = GetsOrder w n t out
StageMove w n from heard (Recovering s) (Recovering t) out = RecoveryMove w n s (sends t out)
StageMove w n from heard (Recovering s) (Serving k) out = StartsToServe w n s k out
StageMove w n from heard (Serving m) (Serving k) out = ServingMove w n m from heard (sends k out)
StageMove w n from heard _ _ out = ⊥

-- what is heard was sent to the node
abbrev pub CameTo : World → NodeId → NodeId → Option Body → Type 0
CameTo w to from heard = (b : Body) → heard ≡ Some b → WasSent w (says from to b)

-- master n has moved, and it alone
pub record MasterStep (w v : World) (n : ℕ) (from : NodeId) (heard : Option Body) (m k : MasterStage) (out : List Message) : Type 0 where
  pub grows : Grows w v
  pub later : Later w v
  pub frame : Frame w v out (master_node n)
  pub came : CameTo w (master_node n) from heard
  pub was : IsMaster w (master_node n) m
  pub is : IsMaster v (master_node n) k
  pub others : (node : NodeId) (x : MasterStage) → node ≢ master_node n → IsMaster v node x → IsMaster w node x
  pub backups : v.backups ≡ w.backups
  pub witnesses : v.witnesses ≡ w.witnesses
  pub move : StageMove w n from heard m k out

module _ {w : World} (known : Known w) (n : ℕ) where
  -- it leaves the master so
  abbrev pub Goal : NodeId → Option Body → MasterStage → Moved MasterStage → Type 0
  Goal from heard m r = StageMove w n from heard m r.state r.messages

  recovery_move : (s : RecoveryState) (r : Moved RecoveryState) → RecoveryMove w n s r → RecoveryMove w n s (sends r.state r.messages)
  recovery_move s r k = record { order = k.order; stage = k.stage; waits = k.waits; says = k.says; refused = refl; idle = refl }

  serving_move : (m : MasterState) (from : NodeId) (heard : Option Body) (r : Moved MasterState) → ServingMove w n m from heard r → ServingMove w n m from heard (sends r.state r.messages)
  serving_move m from heard r k = record {
    log = k.log;
    acknowledged = k.acknowledged;
    free = k.free;
    held = k.held;
    queue = k.queue;
    captures = k.captures;
    lists = k.lists;
    reaches = k.reaches;
    since = k.since;
    says = k.says;
    refused = refl;
    idle = refl;
  }

  module _ (m : MasterState) (is : IsMaster w (master_node n) (Serving m)) where
    ok : ServingOk w (master_node n) m
    ok = known.inv.masters (master_node n) (Serving m) is

    own_filled : 1 ≤ length m.backups
    own_filled = filled known (lists_of_master (master_node n) m) ok.adopted.given

    next_filled : (s : Switch) → m.phase ≡ Switching s → 1 ≤ length s.backups
    next_filled s switches =
        let p : Prepare = record { version = s.version; backups = s.backups; witnesses = s.witnesses } in
        filled known (lists_of_prepare (lists_of_master (master_node n) m) p) (ByReplacement (lists_of_master (master_node n) m) p ok.adopted.given (ok.switching s switches).ordered)

  -- a message comes
  message_move : (m : MasterStage) → IsMaster w (master_node n) m → (from : NodeId) (b : Body) → WasSent w (says from (master_node n) b) → Goal from (Some b) m (on_master n m from b)
  unfolding on_master
  message_move Fresh is from b sent = fresh_moves w n b (Goal from (Some b) Fresh) (λ o r it asks k. record {
    order = o;
    sent = ordered o it;
    asks = asks;
    move = recovery_move _ r k;
  }) (λ xs k. k)
    where
      ordered : (o : Recover) → b ≡ body.Recover o → WasSent w (says manager_node (master_node n) (body.Recover o))
      ordered o it =
          let its : WasSent w (says from (master_node n) (body.Recover o)) = subst (λ (x : Body). WasSent w (says from (master_node n) x)) it sent in
          subst (λ (x : NodeId). WasSent w (says x (master_node n) (body.Recover o))) (from_manager known from (master_node n) (body.Recover o) refl its) its
  message_move (Recovering s) is from b sent =
      let recovering : RecovererOk w (master_node n) s = known.inv.masters (master_node n) (Recovering s) is in
      let home : RecoverOrderOk w (master_node n) s.order = known.names.manager_says (master_node n) (body.Recover s.order) recovering.ordered in
      recovering_moves w n s home.its_lo home.its_hi recovering.stage from b (recovery_hears known n s is from b sent) (Goal from (Some b) (Recovering s)) (λ r k. recovery_move s r k)
      (λ a r k it waits log begins. record { a = a; sent = adopted a it; r = r; waits = waits; log = log; begins = begins; silent = refl })
    where
      adopted : (a : Adopted) → b ≡ body.Adopted a → WasSent w (says manager_node (master_node n) (body.Adopted a))
      adopted a it =
          let its : WasSent w (says from (master_node n) (body.Adopted a)) = subst (λ (x : Body). WasSent w (says from (master_node n) x)) it sent in
          subst (λ (x : NodeId). WasSent w (says x (master_node n) (body.Adopted a))) (from_manager known from (master_node n) (body.Adopted a) refl its) its
  message_move (Serving m) is from b sent =
      serving_move m from (Some b) (on_serving n m from b) (serving_moves w n m (ok m is) (own_filled m is) (next_filled m is) from b (serving_hears known n m is from b sent))

  -- an order comes
  order_move : (m : MasterStage) → IsMaster w (master_node n) m → (order : Local) → Goal (master_node n) None m (master_ordered n m order)
  unfolding master_ordered
  order_move Fresh is order = tt
  order_move (Recovering s) is order =
      let recovering : RecovererOk w (master_node n) s = known.inv.masters (master_node n) (Recovering s) is in
      recovery_move s (recovery_ordered n s order) (recovery_ordered_moves w n s recovering.stage order)
  order_move (Serving m) is order =
      serving_move m (master_node n) None (serving_ordered n m order) (serving_ordered_moves w n m (ok m is) (master_node n) None (own_filled m is) order)

  -- nothing completes at a master
  message_idle : (m : MasterStage) → IsMaster w (master_node n) m → (from : NodeId) (b : Body) → WasSent w (says from (master_node n) b) → (on_master n m from b).completed ≡ None
  unfolding on_master
  message_idle Fresh is from b sent = fresh_moves w n b (λ (r : Moved MasterStage). r.completed ≡ None) (λ o r it asks k. k.idle) (λ xs k. refl)
  message_idle (Recovering s) is from b sent =
      let recovering : RecovererOk w (master_node n) s = known.inv.masters (master_node n) (Recovering s) is in
      let home : RecoverOrderOk w (master_node n) s.order = known.names.manager_says (master_node n) (body.Recover s.order) recovering.ordered in
      recovering_moves w n s home.its_lo home.its_hi recovering.stage from b (recovery_hears known n s is from b sent) (λ (r : Moved MasterStage). r.completed ≡ None) (λ r k. k.idle) (λ a r k it waits log begins. refl)
  message_idle (Serving m) is from b sent = (serving_moves w n m (ok m is) (own_filled m is) (next_filled m is) from b (serving_hears known n m is from b sent)).idle

  order_idle : (m : MasterStage) → IsMaster w (master_node n) m → (order : Local) → (master_ordered n m order).completed ≡ None
  unfolding master_ordered
  order_idle Fresh is order = refl
  order_idle (Recovering s) is order =
      let recovering : RecovererOk w (master_node n) s = known.inv.masters (master_node n) (Recovering s) is in
      (recovery_ordered_moves w n s recovering.stage order).idle
  order_idle (Serving m) is order = (serving_ordered_moves w n m (ok m is) (master_node n) None (own_filled m is) order).idle

  -- who is heard, and what
  abbrev pub speaker : Input → NodeId
  speaker (input.Local order) = master_node n
  speaker (input.Message x) = x.from

  abbrev pub heard_in : Input → Option Body
  heard_in (input.Local order) = None
  heard_in (input.Message x) = Some x.body

  pub input_came : (given : Input) → IsFor w (master_node n) given → CameTo w (master_node n) (speaker given) (heard_in given)
  input_came (input.Local order) for b e = absurd cc
  input_came (input.Message x) for b e = came x.body b (one_some e) (subst (λ (to : NodeId). WasSent w (says x.from to x.body)) for.0 for.1)
    where
      came : (c b : Body) → c ≡ b → WasSent w (says x.from (master_node n) c) → WasSent w (says x.from (master_node n) b)
      came c b e sent = subst (λ (y : Body). WasSent w (says x.from (master_node n) y)) e sent

  -- an input comes
  pub input_moves : (m : MasterStage) → IsMaster w (master_node n) m → (given : Input) → IsFor w (master_node n) given → Goal (speaker given) (heard_in given) m (master_input n m given)
  input_moves m is (input.Local order) for = order_move m is order
  input_moves m is (input.Message x) for = message_move m is x.from x.body (input_came (input.Message x) for x.body refl)

  -- in which it alone moves
  abbrev pub input_step : (v : World) (m : MasterStage) (given : Input) → numbered w.masters n ≡ Some m → IsFor w (master_node n) given → Grows w v → Later w v
      → Frame w v (master_input n m given).messages (master_node n) → IsMaster v (master_node n) (master_input n m given).state
      → ((node : NodeId) (x : MasterStage) → node ≢ master_node n → IsMaster v node x → IsMaster w node x) → v.backups ≡ w.backups → v.witnesses ≡ w.witnesses
      → MasterStep w v n (speaker given) (heard_in given) m (master_input n m given).state (master_input n m given).messages
  input_step v m given here for grows later frame is others backups witnesses = record {
    grows = grows;
    later = later;
    frame = frame;
    came = input_came given for;
    was = record { its_kind = refl; its_state = here };
    is = is;
    others = others;
    backups = backups;
    witnesses = witnesses;
    move = input_moves m (record { its_kind = refl; its_state = here }) given for;
  }

  own : (Says : NodeId → Body → Type 0) (out : List Message) → Each (IsSaidBy n Says) out → Each (λ (x : Message). x.from ≡ master_node n) out
  own Says out all = Each-weaker (IsSaidBy n Says) (λ (x : Message). x.from ≡ master_node n) (λ x k. k.sender) out all

  -- nothing completes by an input
  pub input_idle : (m : MasterStage) → IsMaster w (master_node n) m → (given : Input) → IsFor w (master_node n) given → (master_input n m given).completed ≡ None
  input_idle m is (input.Local order) for = order_idle m is order
  input_idle m is (input.Message x) for = message_idle m is x.from x.body (input_came (input.Message x) for x.body refl)

  -- and it says all in its own name
  pub stage_from : (from : NodeId) (heard : Option Body) (m k : MasterStage) (out : List Message) → StageMove w n from heard m k out → Each (λ (x : Message). x.from ≡ master_node n) out
  stage_from from heard Fresh Fresh out move = own (FreshSays w) out move
  stage_from from heard Fresh (Recovering t) out move = own (RecoverySays w t) out move.move.says
  stage_from from heard Fresh (Serving k) out move = absurd move
  stage_from from heard (Recovering s) (Recovering t) out move = own (RecoverySays w t) out move.says
  stage_from from heard (Recovering s) (Serving k) out move = subst (Each (λ (x : Message). x.from ≡ master_node n)) (sym move.silent) tt
  stage_from from heard (Recovering s) Fresh out move = absurd move
  stage_from from heard (Serving m) (Serving k) out move = own (ServingSays w k) out move.says
  stage_from from heard (Serving m) Fresh out move = absurd move
  stage_from from heard (Serving m) (Recovering t) out move = absurd move
