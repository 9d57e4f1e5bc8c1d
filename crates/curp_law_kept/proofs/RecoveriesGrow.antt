-- One input grows a master, be it fresh, recovering or serving.
use Rattle.std.proofs.Common.{◌≡◌, ℕ, ◌+◌, ◌&&◌, ◌≤◌, List, drop, length, nat_le, refl, arith, Option, Some, None}
use Rattle.std.proofs.lemmas.Bool.{cond_both}
use Rattle.curp_base.specs.Words.{Each, IsPrefix}
use Rattle.curp_base.proofs.Lists.{prefix_self}
use Rattle.curp_cmd.specs.declared.command.Request.{Request}
use Rattle.curp_cmd.specs.declared.entry.Entry.{Entry}
use Rattle.curp_cmd.specs.declared.node.NodeId.{NodeId}
use Rattle.curp_msg.specs.declared.answer.AppendAnswer.{AppendAnswer}
use Rattle.curp_msg.specs.declared.answer.AppendAnswer.TheVariants.{Stored}
use Rattle.curp_msg.specs.declared.answer.FenceReply.{FenceReply}
use Rattle.curp_msg.specs.declared.answer.FenceReply.TheVariants.{Log}
use Rattle.curp_msg.specs.declared.body.Body.{Body}
use Rattle.curp_msg.specs.declared.body.Body.TheVariants as body
use Rattle.curp_msg.specs.declared.body.Recover.{Recover}
use Rattle.curp_msg.specs.declared.machine.Local.{Local}
use Rattle.curp_msg.specs.declared.machine.Local.TheVariants as local
use Rattle.curp_facts.specs.Facts.{IsOnlyExpire, Logged, node_log, phase_log}
use Rattle.curp_model.specs.Log.{is_log}
use Rattle.curp_cmd.specs.Node.{is_among, same_node}
use Rattle.curp_cmd.specs.Store.{is_update}
use Rattle.curp_base.specs.Words.{rises_past}
use Rattle.curp_model.specs.Master.{MasterState, Switch, Switching, last_round, on_serving, serving_ordered}
use Rattle.curp_msg.specs.Input.{Input}
use Rattle.curp_msg.specs.Input as input
use Rattle.curp_msg.specs.Moved.{Moved}
use Rattle.curp_model.specs.Recovery.{MasterStage, Fresh, Recovering, Serving, RecoveryState, RecoveryPhase, Asking, Storing, Waiting, Replayed, again_in, all_complete, append_answered, both_there, completed_by, fence_answered, log_comes, master_ordered, on_fresh, on_master, on_recovering, master_input, recovery_ordered, requests_come, serves, stored_comes, turns_read_away, with_complete}
use Rattle.curp_facts.specs.Growth.{LogGrows, MasterGrows, ServesOn, core}
use Rattle.curp_law_kept.proofs.MastersGrow.{core_self, serving_grows, serving_ordered_grows}
use Rattle.curp_law_kept.proofs.Switches.{nothing_pushed, switching_little, switching_ordered_little}

log_self : (o : Option Logged) → LogGrows o o
log_self None = tt
log_self (Some l) = (l, refl, prefix_self l.log, omega arith)

-- ---- a recovery

record RecGrows (o : Recover) (p : RecoveryPhase) (s : RecoveryState) : Type 0 where
  order : s.order ≡ o
  log : LogGrows (phase_log p) (phase_log s.phase)

abbrev at : Recover → RecoveryPhase → RecoveryState
at o p = record { order = o; phase = p }

rec_self : (o : Recover) (p : RecoveryPhase) → RecGrows o p (at o p)
rec_self o p = record { order = refl; log = log_self (phase_log p) }

abbrev Goes : Recover → RecoveryPhase → Moved RecoveryState → Type 0
Goes o p r = RecGrows o p r.state

module _ (n : ℕ) (o : Recover) where
  both_goes : (a : Option (List Entry)) (b : Option (List Request)) (l : Option (List Entry)) (r : Option (List Request)) → Goes o (Asking a b) (both_there n o l r)
  both_goes a b (Some log) (Some requests) = record { order = refl; log = tt }
  both_goes a b (Some log) None = record { order = refl; log = tt }
  both_goes a b None r = record { order = refl; log = tt }

  log_goes : (from : NodeId) (entries : List Entry) (p : RecoveryPhase) → Goes o p (log_comes n (at o p) from entries p)
  log_goes from entries (Asking None requests) = cond_both (same_node from o.backup && is_log o.lo o.hi entries) _ _ (Goes o (Asking None requests)) (λ y. both_goes None requests (Some entries) requests) (λ y. rec_self o (Asking None requests))
  log_goes from entries (Asking (Some log) requests) = rec_self o (Asking (Some log) requests)
  log_goes from entries (Storing r) = rec_self o (Storing r)
  log_goes from entries (Waiting r) = rec_self o (Waiting r)

  requests_goes : (from : NodeId) (rs : List Request) (p : RecoveryPhase) → Goes o p (requests_come n (at o p) from rs p)
  requests_goes from rs (Asking log None) = cond_both (same_node from o.witness) _ _ (Goes o (Asking log None)) (λ y. both_goes log None log (Some rs)) (λ y. rec_self o (Asking log None))
  requests_goes from rs (Asking log (Some r)) = rec_self o (Asking log (Some r))
  requests_goes from rs (Storing r) = rec_self o (Storing r)
  requests_goes from rs (Waiting r) = rec_self o (Waiting r)

  record Keeps (r x : Replayed) : Type 0 where
    log : IsPrefix r.log x.log
    round : r.round ≤ x.round

  complete_keeps : (r : Replayed) (from : NodeId) → Keeps r (with_complete r from)
  complete_keeps r from = cond_both (is_among from r.complete) _ _ (Keeps r) (λ y. record { log = prefix_self r.log; round = omega arith }) (λ y. record { log = prefix_self r.log; round = omega arith })

  completed_goes : (r x : Replayed) → Keeps r x → Goes o (Storing r) (completed_by n o x)
  completed_goes r x k = cond_both (all_complete o x) _ _ (Goes o (Storing r)) (λ y. record { order = refl; log = (_, refl, k.log, k.round) }) (λ y. record { order = refl; log = (_, refl, k.log, k.round) })

  stored_goes : (from : NodeId) (long : ℕ) (p : RecoveryPhase) → Goes o p (stored_comes n (at o p) from long p)
  stored_goes from long (Storing r) = cond_both (is_among from o.backups && nat_le (length r.log) long) _ _ (Goes o (Storing r)) (λ y. completed_goes r (with_complete r from) (complete_keeps r from)) (λ y. rec_self o (Storing r))
  stored_goes from long (Asking log requests) = rec_self o (Asking log requests)
  stored_goes from long (Waiting r) = rec_self o (Waiting r)

  again_goes : (p : RecoveryPhase) → Goes o p (again_in n (at o p) p)
  again_goes (Asking log requests) = rec_self o (Asking log requests)
  again_goes (Storing r) = cond_both (rises_past last_round r.round (r.round + 1)) _ _ (Goes o (Storing r)) (λ y. rec_self o (Storing r)) (λ y. record { order = refl; log = (_, refl, prefix_self r.log, omega arith) })
  again_goes (Waiting r) = rec_self o (Waiting r)

  fence_goes : (p : RecoveryPhase) (from : NodeId) (a : FenceReply) → Goes o p (fence_answered n (at o p) from a)
  fence_goes p from (Log entries) = log_goes from entries p
  fence_goes p from _ = rec_self o p

  append_goes : (p : RecoveryPhase) (from : NodeId) (a : AppendAnswer) → Goes o p (append_answered n (at o p) from a)
  append_goes p from (Stored long) = stored_goes from long p
  append_goes p from _ = rec_self o p

  ordered_goes : (p : RecoveryPhase) (order : Local) → Goes o p (recovery_ordered n (at o p) order)
  ordered_goes p local.Sync = again_goes p
  ordered_goes p _ = rec_self o p

-- ---- the master as a node

-- a master that stays
pub master_self : (m : MasterStage) → MasterGrows m m
master_self Fresh = record { life = tt; log = tt; little = tt }
master_self (Recovering s) = record { life = refl; log = log_self (phase_log s.phase); little = tt }
master_self (Serving m) = record { life = core_self (core m); log = log_self (node_log (Serving m)); little = λ s is. nothing_pushed m.log }

recovers : (s t : RecoveryState) → RecGrows s.order s.phase t → MasterGrows (Recovering s) (Recovering t)
recovers s t g = record { life = g.order; log = g.log; little = tt }

goes_on_serving : (m k : MasterState) → ServesOn m k → ((s : Switch) → m.phase ≡ Switching s → Each IsOnlyExpire (drop (length m.log) k.log)) → MasterGrows (Serving m) (Serving k)
goes_on_serving m k g little = record { life = g; log = (_, refl, g.log, g.round); little = little }

serves_grows : (o : Recover) (p : RecoveryPhase) → MasterGrows (Recovering (at o p)) (serves (at o p) p)
serves_grows o (Asking log requests) = master_self (Recovering (at o (Asking log requests)))
serves_grows o (Storing r) = master_self (Recovering (at o (Storing r)))
serves_grows o (Waiting r) = record {
  life = record { part = refl; epoch = refl; version = refl; backups = refl; witnesses = refl; lo = refl; hi = refl; phase = refl };
  log = (_, refl, prefix_self r.log, omega arith);
  little = tt;
}

read_away_grows : (n : ℕ) (m : MasterStage) (r : Request) → MasterGrows m (turns_read_away n m r).state
read_away_grows n m r = cond_both (is_update r.command) _ _ (λ (k : Moved MasterStage). MasterGrows m k.state) (λ y. master_self m) (λ y. master_self m)

fresh_grows : (n : ℕ) (b : Body) → MasterGrows Fresh (on_fresh n b).state
fresh_grows n (body.Recover o) = record { life = tt; log = tt; little = tt }
fresh_grows n (body.Update ask) = master_self Fresh
fresh_grows n (body.Sync ask) = master_self Fresh
fresh_grows n (body.Read ask) = read_away_grows n Fresh ask.request
fresh_grows n (body.Glance ask) = read_away_grows n Fresh ask.request
fresh_grows n _ = master_self Fresh

recovering_grows : (n : ℕ) (s : RecoveryState) (from : NodeId) (b : Body) → MasterGrows (Recovering s) (on_recovering n s from b).state
recovering_grows n s from (body.FenceAnswer a) = recovers s (fence_answered n s from a.answer).state (fence_goes n s.order s.phase from a.answer)
recovering_grows n s from (body.FrozenAnswer requests) = recovers s (requests_come n s from requests s.phase).state (requests_goes n s.order from requests s.phase)
recovering_grows n s from (body.Appended a) = recovers s (append_answered n s from a.answer).state (append_goes n s.order s.phase from a.answer)
recovering_grows n s from (body.Adopted a) = serves_grows s.order s.phase
recovering_grows n s from (body.Update ask) = master_self (Recovering s)
recovering_grows n s from (body.Sync ask) = master_self (Recovering s)
recovering_grows n s from (body.Read ask) = read_away_grows n (Recovering s) ask.request
recovering_grows n s from (body.Glance ask) = read_away_grows n (Recovering s) ask.request
recovering_grows n s from _ = master_self (Recovering s)

-- a message grows a master
pub master_grows : (n : ℕ) (m : MasterStage) (from : NodeId) (b : Body) → MasterGrows m (on_master n m from b).state
unfolding on_master
master_grows n Fresh from b = fresh_grows n b
master_grows n (Recovering s) from b = recovering_grows n s from b
master_grows n (Serving m) from b = goes_on_serving m (on_serving n m from b).state (serving_grows n m from b) (λ s is. (switching_little n m s is from b).pushes)

-- and so does an order
pub master_ordered_grows : (n : ℕ) (m : MasterStage) (order : Local) → MasterGrows m (master_ordered n m order).state
unfolding master_ordered
master_ordered_grows n Fresh order = master_self Fresh
master_ordered_grows n (Recovering s) order = recovers s (recovery_ordered n s order).state (ordered_goes n s.order s.phase order)
master_ordered_grows n (Serving m) order = goes_on_serving m (serving_ordered n m order).state (serving_ordered_grows n m order) (λ s is. (switching_ordered_little n m s is order).pushes)

-- any input grows a master
pub master_input_grows : (n : ℕ) (m : MasterStage) (given : Input) → MasterGrows m (master_input n m given).state
master_input_grows n m (input.Local order) = master_ordered_grows n m order
master_input_grows n m (input.Message x) = master_grows n m x.from x.body
