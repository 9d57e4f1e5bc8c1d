-- What a master keeps that doesn't move stays so.
use Rattle.std.proofs.Common.{ℕ, List, length, ap, sym, ◌∙◌, Option, Some, None}
use Rattle.curp_base.specs.Words.{Each}
use Rattle.curp_base.proofs.Lists.{Each-weaker}
use Rattle.curp_cmd.specs.Node.{manager_node}
use Rattle.curp_cmd.specs.declared.command.Request.{Request}
use Rattle.curp_cmd.specs.declared.entry.Entry.{Entry}
use Rattle.curp_cmd.specs.declared.node.NodeId.{NodeId}
use Rattle.curp_msg.specs.Moved.{says}
use Rattle.curp_msg.specs.declared.body.Body.TheVariants as body
use Rattle.curp_msg.specs.declared.body.Recovered.{Recovered}
use Rattle.curp_model.specs.Master.{Acknowledged, Captured, MasterState, Switch}
use Rattle.curp_model.specs.Recovery.{Asking, Fresh, MasterStage, Recovering, RecoveryPhase, RecoveryState, Replayed, Serving, Storing, Waiting}
use Rattle.curp_model.specs.World.{World}
use Rattle.curp_facts.specs.Facts.{ReplayOk, WasSent}
use Rattle.curp_facts.specs.Invariant.{Invariant}
use Rattle.curp_facts.specs.Nodes.{AcknowledgedOk, CameLog, CameRequests, CapturedOk, HasSentAll, MasterOk, RecovererOk, ReplayedOk, ServingOk, StageOk, SwitchOk}
use Rattle.curp_facts.specs.Reach.{HasStored}
use Rattle.curp_facts.specs.Names.{RecoverOrderOk}
use Rattle.curp_law_kept.proofs.Entries.{log_ok_later, updates_later}
use Rattle.curp_law_kept.proofs.KeepersStay.{fenced_later, frozen_later, sources_later}
use Rattle.curp_law_kept.proofs.Words.{Follows, adopted_stays, event_at, hi_later, lo_later, sent_later, stored_later}

-- the node has said neither Prepared nor Recovered for the first time
pub record SaysNoMore (w v : World) (node : NodeId) : Type 0 where
  pub prepared : (version : ℕ) → WasSent v (says node manager_node (body.Prepared version)) → WasSent w (says node manager_node (body.Prepared version))
  pub recovered : (r : Recovered) → WasSent v (says node manager_node (body.Recovered r)) → WasSent w (says node manager_node (body.Recovered r))

module _ {w v : World} (s : Follows w v) where
  pub acknowledged_later : (m : MasterState) (acks : List Acknowledged) → Each (AcknowledgedOk w m) acks → Each (AcknowledgedOk v m) acks
  acknowledged_later m acks ok =
      Each-weaker (AcknowledgedOk w m) (AcknowledgedOk v m) (λ a k. record { stored = stored_later s a.length a.backup k.stored; within = k.within; begun = k.begun }) acks ok

  pub captures_later : (m : MasterState) (captures : List Captured) → Each (CapturedOk w m) captures → Each (CapturedOk v m) captures
  captures_later m captures ok =
      Each-weaker (CapturedOk w m) (CapturedOk v m)
      (λ c k. record { place = k.place; invoked = event_at s k.place _ k.invoked; reads = k.reads; number = k.number; within = k.within; begun = k.begun }) captures ok

  pub sent_all_later : (node : NodeId) (m : MasterState) → HasSentAll w node m → HasSentAll v node m
  sent_all_later node m ok = record { to = ok.to; append = ok.append; sent = sent_later s ok.sent; reaches = ok.reaches }

  pub switch_later : (node : NodeId) (m : MasterState) (x : Switch) → SwitchOk w node m x → SwitchOk v node m x
  switch_later node m x ok = record {
    ordered = sent_later s ok.ordered;
    above = ok.above;
    begun = ok.begun;
    prepared = λ y. sent_later s (ok.prepared y);
    since = ok.since;
    reached = sent_all_later node m ok.reached;
  }

  pub serving_ok_later : (node : NodeId) (m : MasterState) → SaysNoMore w v node → ServingOk w node m → ServingOk v node m
  serving_ok_later node m quiet ok = record {
    adopted = adopted_stays s ok.adopted;
    lo = ok.lo ∙ sym (lo_later s m.part);
    hi = ok.hi ∙ sym (hi_later s m.part);
    log = log_ok_later s m.part m.log ok.log;
    acknowledged = acknowledged_later m m.acknowledged ok.acknowledged;
    prepared = λ version sent. ok.prepared version (quiet.prepared version sent);
    switching = λ x is. switch_later node m x (ok.switching x is);
    free = ok.free;
    held = ok.held;
    queue = ok.queue;
    captures = captures_later m m.captures ok.captures;
  }

  -- ---- recoveries

  pub replay_later : Invariant w → (node : NodeId) (x : RecoveryState) (r : Replayed) → RecoverOrderOk w node x.order → ReplayOk w x r → ReplayOk v x r
  replay_later inv node x r home ok =
      let later = sources_later s inv.backups home.before home.was.given x.order.backup x.order.witness x.order.epoch home.its_backup home.earlier ok.sources in
      record {
        sources = later.0;
        is = ok.is ∙ sym (later.2 x.order.lo x.order.hi);
        its_cut = ok.its_cut ∙ ap length (sym later.1);
      }

  pub replayed_later : Invariant w → (node : NodeId) (x : RecoveryState) (r : Replayed) → RecoverOrderOk w node x.order → ReplayedOk w x r → ReplayedOk v x r
  replayed_later inv node x r home ok = record {
    replayed = replay_later inv node x r home ok.replayed;
    log = log_ok_later s x.order.part r.log ok.log;
    complete = Each-weaker (HasStored w (length r.log)) (HasStored v (length r.log)) (λ b has. stored_later s (length r.log) b has) r.complete ok.complete;
  }

  pub came_log_later : Invariant w → (x : RecoveryState) (log : Option (List Entry)) → CameLog w x log → CameLog v x log
  came_log_later inv x None ok = tt
  came_log_later inv x (Some entries) ok = (fenced_later s inv.backups x.order.backup x.order.epoch entries ok.0, log_ok_later s x.order.part entries ok.1)

  pub came_requests_later : (x : RecoveryState) (requests : Option (List Request)) → CameRequests w x requests → CameRequests v x requests
  came_requests_later x None ok = tt
  came_requests_later x (Some requests) ok = (frozen_later s x.order.witness requests ok.0, updates_later s requests ok.1)

  pub stage_later : Invariant w → (node : NodeId) (x : RecoveryState) (p : RecoveryPhase) → RecoverOrderOk w node x.order → StageOk w x p → StageOk v x p
  stage_later inv node x (Asking log requests) home ok = (came_log_later inv x log ok.0, came_requests_later x requests ok.1)
  stage_later inv node x (Storing r) home ok = replayed_later inv node x r home ok
  stage_later inv node x (Waiting r) home ok = (replayed_later inv node x r home ok.0, ok.1)

  pub recovering_ok_later : Invariant w → (node : NodeId) (x : RecoveryState) → SaysNoMore w v node → RecovererOk w node x → RecovererOk v node x
  recovering_ok_later inv node x quiet ok = record {
    ordered = sent_later s ok.ordered;
    stage = stage_later inv node x x.phase (s.names.manager_says node (body.Recover x.order) ok.ordered) ok.stage;
    unprepared = λ version sent. ok.unprepared version (quiet.prepared version sent);
    told = λ r sent. ok.told r (quiet.recovered r sent);
  }

  -- a master that doesn't move
  pub master_ok_later : Invariant w → (node : NodeId) (m : MasterStage) → SaysNoMore w v node → MasterOk w node m → MasterOk v node m
  master_ok_later inv node Fresh quiet ok =
      record { unprepared = λ version sent. ok.unprepared version (quiet.prepared version sent); untold = λ r sent. ok.untold r (quiet.recovered r sent) }
  master_ok_later inv node (Recovering x) quiet ok = recovering_ok_later inv node x quiet ok
  master_ok_later inv node (Serving m) quiet ok = serving_ok_later node m quiet ok
