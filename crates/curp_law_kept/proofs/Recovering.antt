-- What one input leaves of a master that doesn't serve yet.
use Rattle.std.proofs.Common.{◌≡◌, ◌≤◌, ◌&&◌, ℕ, ◌+◌, true, not, List, [], ◌∷◌, ◌++◌, length, map, nat_le, Option, Some, None, refl, ap, sym, ◌∙◌, subst, arith}
use Rattle.std.specs.List.{filter}
use Rattle.std.proofs.lemmas.Bool.{and_parts, cond_both, leb-true}
use Rattle.curp_base.specs.Words.{Each, rises_past}
use Rattle.curp_base.proofs.Lists.{Each-append, Each-at, Each-filter}
use Rattle.curp_cmd.specs.Node.{is_among, same_node}
use Rattle.curp_cmd.specs.Store.{is_update}
use Rattle.curp_cmd.specs.declared.command.Request.{Request}
use Rattle.curp_cmd.specs.declared.command.RequestId.{RequestId}
use Rattle.curp_cmd.specs.declared.entry.Entry.{Entry}
use Rattle.curp_cmd.specs.declared.node.NodeId.{NodeId}
use Rattle.curp_cmd.proofs.Nodes.{same_node-true}
use Rattle.curp_msg.specs.Moved.{Moved, quiet, sends, within}
use Rattle.curp_msg.specs.declared.answer.AppendAnswer.{AppendAnswer}
use Rattle.curp_msg.specs.declared.answer.AppendAnswer.TheVariants.{Stored}
use Rattle.curp_msg.specs.declared.answer.FenceReply.{FenceReply}
use Rattle.curp_msg.specs.declared.answer.FenceReply.TheVariants.{Log}
use Rattle.curp_msg.specs.declared.answer.Refusal.TheVariants as refusal
use Rattle.curp_msg.specs.declared.body.Adopted.{Adopted}
use Rattle.curp_msg.specs.declared.body.Body.{Body}
use Rattle.curp_msg.specs.declared.body.Body.TheVariants as body
use Rattle.curp_msg.specs.declared.body.Recover.{Recover}
use Rattle.curp_msg.specs.declared.machine.Local.{Local}
use Rattle.curp_msg.specs.declared.machine.Local.TheVariants as local
use Rattle.curp_msg.specs.declared.message.Message.{Message}
use Rattle.curp_model.specs.Log.{is_log}
use Rattle.curp_model.specs.Master.{MasterState, beginning, last_round, refuse}
use Rattle.curp_model.specs.Recovery.{Asking, Fresh, MasterStage, Recovering, RecoveryPhase, RecoveryState, Replayed, Serving, Storing, Waiting, again_in, all_complete, append_answered, appends_whole, both_there, completed_by, fence_answered, fence_of, freeze_of, log_comes, next_storing, on_fresh, on_recover, on_recovering, recovered_message, recovery_ordered, replay, requests_come, serves, stored_comes, unanswered_log, unanswered_requests, with_complete}
use Rattle.curp_model.specs.World.{World}
use Rattle.curp_facts.specs.Entries.{LogOk, UpdateOk}
use Rattle.curp_facts.specs.Facts.{FencedLogOk, FrozenOk, IsAmong, ReplayOk, hi_of, lo_of}
use Rattle.curp_facts.specs.Nodes.{AcknowledgedOk, CameLog, CameRequests, IsWaiting, ReplayedOk, StageOk}
use Rattle.curp_facts.specs.Reach.{HasStored}
use Rattle.curp_law_kept.specs.Moves.{HearsLog, HearsStored, IsSaidBy, RecoveryHears, RecoveryMove, RecoverySays}
use Rattle.curp_law_kept.specs.Stages.{BeginningOk, FreshSays}
use Rattle.curp_law_kept.proofs.Among.{each_tested, found_among}
use Rattle.curp_law_kept.proofs.NumberedLists.{each_among}
use Rattle.curp_law_kept.proofs.Replays.{replay_ok}

-- a state of a recovery
abbrev pub at : Recover → RecoveryPhase → RecoveryState
at o p = record { order = o; phase = p }

-- ---- what is kept from one phase to another

came_requests : (w : World) (o : Recover) (p q : RecoveryPhase) (r : Option (List Request)) → CameRequests w (at o p) r → CameRequests w (at o q) r
came_requests w o p q None c = tt
came_requests w o p q (Some requests) c = c

replayed_kept : (w : World) (o : Recover) (p q : RecoveryPhase) (r x : Replayed) → x.log ≡ r.log → x.cut ≡ r.cut → ReplayOk w (at o p) r → ReplayOk w (at o q) x
replayed_kept w o p q r x same cut ok = record { sources = ok.sources; is = same ∙ ok.is; its_cut = cut ∙ ok.its_cut }

-- the same replay in another phase, with another round
rephased : (w : World) (o : Recover) (p q : RecoveryPhase) (r : Replayed) (round : ℕ) → ReplayedOk w (at o p) r → ReplayedOk w (at o q) (record r { round = round })
rephased w o p q r round ok = record { replayed = replayed_kept w o p q r (record r { round = round }) refl refl ok.replayed; log = ok.log; complete = ok.complete }

-- and one more backup that has the whole log
completed : (w : World) (o : Recover) (p q : RecoveryPhase) (r : Replayed) (from : NodeId) → HasStored w (length r.log) from → ReplayedOk w (at o p) r → ReplayedOk w (at o q) (with_complete r from)
completed w o p q r from stored ok = cond_both (is_among from r.complete) r (record r { complete = r.complete ++ from ∷ [] }) (λ (x : Replayed). ReplayedOk w (at o q) x)
    (λ y. rephased w o p q r r.round ok)
    (λ y. record {
      replayed = replayed_kept w o p q r (record r { complete = r.complete ++ from ∷ [] }) refl refl ok.replayed;
      log = ok.log;
      complete = Each-append (HasStored w (length r.log)) r.complete (from ∷ []) ok.complete (stored, tt);
    })

-- both answers are there: the replay is of that backup and of that witness
replay_begins : (w : World) (o : Recover) (p q : RecoveryPhase) (log : List Entry) (requests : List Request) → o.lo ≡ lo_of w o.part → o.hi ≡ hi_of w o.part
    → CameLog w (at o p) (Some log) → CameRequests w (at o p) (Some requests)
    → ReplayedOk w (at o q) (record { log = replay o.lo o.hi log requests; cut = length log; round = 1; complete = [] })
replay_begins w o p q log requests lo hi came asked = record {
  replayed = record {
    sources = record { b = came.0.b; its_backup = came.0.is; fenced = came.0.fenced; x = asked.0.x; its_witness = asked.0.is; frozen = asked.0.frozen };
    is = ap (λ (l : List Entry). replay o.lo o.hi l requests) (sym came.0.its_log) ∙ ap (replay o.lo o.hi came.0.b.log) (sym asked.0.its_requests);
    its_cut = ap length (sym came.0.its_log);
  };
  log = replay_ok w o.part o.lo o.hi log requests lo hi came.1 asked.1;
  complete = tt;
}

-- ---- its moves

module _ (w : World) (n : ℕ) (o : Recover) where
  abbrev Goes : RecoveryPhase → Moved RecoveryState → Type 0
  Goes p r = RecoveryMove w n (at o p) r

  -- a message that it says
  abbrev Says : RecoveryPhase → Message → Type 0
  Says p x = IsSaidBy n (RecoverySays w (at o p)) x

  stays : (p q : RecoveryPhase) → (IsWaiting p → IsWaiting q) → StageOk w (at o q) q → Goes p (quiet (at o q))
  stays p q waits ok = record { order = refl; stage = ok; waits = waits; says = tt; refused = refl; idle = refl }

  tells : (p q : RecoveryPhase) (xs : List Message) → (IsWaiting p → IsWaiting q) → StageOk w (at o q) q → Each (Says q) xs → Goes p (sends (at o q) xs)
  tells p q xs waits ok said = record { order = refl; stage = ok; waits = waits; says = said; refused = refl; idle = refl }

  fences : (p : RecoveryPhase) → Each (Says p) (fence_of n o)
  fences p = (record { sender = refl; says_so = (refl, refl) }, tt)

  freezes : (p : RecoveryPhase) → Each (Says p) (freeze_of n o)
  freezes p = (record { sender = refl; says_so = (refl, refl) }, tt)

  recovered : (r : Replayed) → Each (Says (Waiting r)) (recovered_message n o)
  recovered r = (record { sender = refl; says_so = (refl, refl, refl, tt) }, tt)

  whole : (r : Replayed) (backups : List NodeId) → Each (λ b. IsAmong b o.backups) backups → Each (Says (Storing r)) (appends_whole n o r backups)
  whole r [] all = tt
  whole r (b ∷ bs) all = (record { sender = refl; says_so = (refl, refl, all.0, (refl, refl)) }, whole r bs all.1)

  both_goes : o.lo ≡ lo_of w o.part → o.hi ≡ hi_of w o.part → (p : RecoveryPhase) → (IsWaiting p → ⊥) → (l : Option (List Entry)) (r : Option (List Request)) → CameLog w (at o p) l → CameRequests w (at o p) r → Goes p (both_there n o l r)
  both_goes lo hi p asking (Some log) (Some requests) came asked =
      let r : Replayed = record { log = replay o.lo o.hi log requests; cut = length log; round = 1; complete = [] } in
      tells p (Storing r) (appends_whole n o r o.backups) (λ x. absurd (asking x)) (replay_begins w o p (Storing r) log requests lo hi came asked) (whole r o.backups (each_among (λ b. IsAmong b o.backups) o.backups (λ b m. m)))
  both_goes lo hi p asking (Some log) None came asked = stays p (Asking (Some log) None) (λ x. absurd (asking x)) (came, tt)
  both_goes lo hi p asking None r came asked = stays p (Asking None r) (λ x. absurd (asking x)) (tt, came_requests w o p (Asking None r) r asked)

  log_goes : o.lo ≡ lo_of w o.part → o.hi ≡ hi_of w o.part → (from : NodeId) (entries : List Entry) (p : RecoveryPhase)
      → (from ≡ o.backup → FencedLogOk w o.backup o.epoch entries × LogOk w o.part entries) → StageOk w (at o p) p → Goes p (log_comes n (at o p) from entries p)
  log_goes lo hi from entries (Asking None requests) heard ok = cond_both (same_node from o.backup && is_log o.lo o.hi entries) _ _ (Goes (Asking None requests))
      (λ y. both_goes lo hi (Asking None requests) (λ x. x) (Some entries) requests (heard (same_node-true from o.backup (and_parts (same_node from o.backup) (is_log o.lo o.hi entries) y).0)) ok.1)
      (λ y. stays (Asking None requests) (Asking None requests) (λ x. x) ok)
  log_goes lo hi from entries (Asking (Some log) requests) heard ok = stays (Asking (Some log) requests) (Asking (Some log) requests) (λ x. x) ok
  log_goes lo hi from entries (Storing r) heard ok = stays (Storing r) (Storing r) (λ x. x) ok
  log_goes lo hi from entries (Waiting r) heard ok = stays (Waiting r) (Waiting r) (λ x. x) ok

  requests_goes : o.lo ≡ lo_of w o.part → o.hi ≡ hi_of w o.part → (from : NodeId) (rs : List Request) (p : RecoveryPhase)
      → FrozenOk w from rs × Each (UpdateOk w) rs → StageOk w (at o p) p → Goes p (requests_come n (at o p) from rs p)
  requests_goes lo hi from rs (Asking log None) heard ok = cond_both (same_node from o.witness) _ _ (Goes (Asking log None))
      (λ y. both_goes lo hi (Asking log None) (λ x. x) log (Some rs) ok.0 (subst (λ (x : NodeId). FrozenOk w x rs) (same_node-true from o.witness y) heard.0, heard.1))
      (λ y. stays (Asking log None) (Asking log None) (λ x. x) ok)
  requests_goes lo hi from rs (Asking log (Some r)) heard ok = stays (Asking log (Some r)) (Asking log (Some r)) (λ x. x) ok
  requests_goes lo hi from rs (Storing r) heard ok = stays (Storing r) (Storing r) (λ x. x) ok
  requests_goes lo hi from rs (Waiting r) heard ok = stays (Waiting r) (Waiting r) (λ x. x) ok

  completed_goes : (p : RecoveryPhase) → (IsWaiting p → ⊥) → (r : Replayed) → ((q : RecoveryPhase) → ReplayedOk w (at o q) r) → Goes p (completed_by n o r)
  completed_goes p storing r ok = cond_both (all_complete o r) _ _ (Goes p)
      (λ y. tells p (Waiting r) (recovered_message n o) (λ x. absurd (storing x)) (ok (Waiting r), y) (recovered r)) (λ y. stays p (Storing r) (λ x. absurd (storing x)) (ok (Storing r)))

  stored_goes : (from : NodeId) (long : ℕ) (p : RecoveryPhase) → HasStored w long from → StageOk w (at o p) p → Goes p (stored_comes n (at o p) from long p)
  stored_goes from long (Storing r) heard ok = cond_both (is_among from o.backups && nat_le (length r.log) long) _ _ (Goes (Storing r))
      (λ y. completed_goes (Storing r) (λ x. x) (with_complete r from)
      (λ q. completed w o (Storing r) q r from (record { b = heard.b; is = heard.is; low = omega (arith, heard.low, leb-true (length r.log) long (and_parts (is_among from o.backups) (nat_le (length r.log) long) y).1) }) ok))
      (λ y. stays (Storing r) (Storing r) (λ x. x) ok)
  stored_goes from long (Asking log requests) heard ok = stays (Asking log requests) (Asking log requests) (λ x. x) ok
  stored_goes from long (Waiting r) heard ok = stays (Waiting r) (Waiting r) (λ x. x) ok

  fence_goes : o.lo ≡ lo_of w o.part → o.hi ≡ hi_of w o.part → (p : RecoveryPhase) (from : NodeId) (a : FenceReply) → HearsLog w (at o p) from a → StageOk w (at o p) p → Goes p (fence_answered n (at o p) from a)
  fence_goes lo hi p from (Log entries) heard ok = log_goes lo hi from entries p heard ok
  fence_goes lo hi p from _ heard ok = stays p p (λ x. x) ok

  append_goes : (p : RecoveryPhase) (from : NodeId) (a : AppendAnswer) → HearsStored w from a → StageOk w (at o p) p → Goes p (append_answered n (at o p) from a)
  append_goes p from (Stored long) heard ok = stored_goes from long p heard ok
  append_goes p from _ heard ok = stays p p (λ x. x) ok

  unanswered_logs : (p : RecoveryPhase) (l : Option (List Entry)) → Each (Says p) (unanswered_log n o l)
  unanswered_logs p None = fences p
  unanswered_logs p (Some log) = tt

  unanswered_asked : (p : RecoveryPhase) (r : Option (List Request)) → Each (Says p) (unanswered_requests n o r)
  unanswered_asked p None = freezes p
  unanswered_asked p (Some rs) = tt

  again_goes : (p : RecoveryPhase) → StageOk w (at o p) p → Goes p (again_in n (at o p) p)
  again_goes (Asking log requests) ok =
      let p : RecoveryPhase = Asking log requests in
      tells p p (unanswered_log n o log ++ unanswered_requests n o requests) (λ x. x) ok (Each-append (Says p) (unanswered_log n o log) (unanswered_requests n o requests) (unanswered_logs p log) (unanswered_asked p requests))
  again_goes (Storing r) ok = cond_both (rises_past last_round r.round (r.round + 1)) _ _ (Goes (Storing r)) (λ y. stays (Storing r) (Storing r) (λ x. x) ok)
      (λ y. tells (Storing r) (Storing (next_storing r)) _ (λ x. x) (rephased w o (Storing r) (Storing (next_storing r)) r (r.round + 1) ok)
      (whole (next_storing r) (filter (λ b. not (is_among b r.complete)) o.backups) (Each-filter (λ b. IsAmong b o.backups) (λ b. not (is_among b r.complete)) o.backups (each_among (λ b. IsAmong b o.backups) o.backups (λ b m. m)))))
  again_goes (Waiting r) ok = tells (Waiting r) (Waiting r) (recovered_message n o) (λ x. x) ok (recovered r)

  ordered_goes : (p : RecoveryPhase) (order : Local) → StageOk w (at o p) p → Goes p (recovery_ordered n (at o p) order)
  ordered_goes p local.Sync ok = again_goes p ok
  ordered_goes p _ ok = stays p p (λ x. x) ok

  turned_away : (p : RecoveryPhase) (id : RequestId) → StageOk w (at o p) p → Goes p (sends (at o p) (refuse n id refusal.Switching ∷ []))
  turned_away p id ok = tells p p (refuse n id refusal.Switching ∷ []) (λ x. x) ok (record { sender = refl; says_so = record { addressee = refl; first = tt } }, tt)

-- ---- a recovered master begins to serve

beginning_acknowledged : (w : World) (m : MasterState) (long round : ℕ) (backups : List NodeId) → long ≤ length m.log → round ≤ m.round → Each (HasStored w long) backups
    → Each (AcknowledgedOk w m) (map (λ b. record { backup = b; length = long; round = round }) backups)
beginning_acknowledged w m long round [] within begun all = tt
beginning_acknowledged w m long round (b ∷ bs) within begun all = (record { stored = all.0; within = within; begun = begun }, beginning_acknowledged w m long round bs within begun all.1)

-- with a log that each backup of its list has
begins : (w : World) (o : Recover) (r : Replayed) → ReplayedOk w (at o (Waiting r)) r → all_complete o r ≡ true
    → BeginningOk w (at o (Waiting r)) (beginning o.part o.epoch o.version o.backups o.witnesses o.lo o.hi r.log r.round)
begins w o r ok all = record {
  ordered = record { part = refl; epoch = refl; version = refl; backups = refl; witnesses = refl; lo = refl; hi = refl; phase = refl };
  log = ok.log;
  stored = stored;
  acknowledged = beginning_acknowledged w (beginning o.part o.epoch o.version o.backups o.witnesses o.lo o.hi r.log r.round) (length r.log) r.round o.backups (omega arith) (omega arith) stored;
  free = refl;
  held = refl;
  queue = refl;
  captures = refl;
}
  where
    stored : Each (HasStored w (length r.log)) o.backups
    stored = each_tested (HasStored w (length r.log)) (λ b. is_among b r.complete) o.backups (λ b y. let m = found_among b r.complete y in Each-at (HasStored w (length r.log)) r.complete ok.complete m.place b m.stands) all

-- ---- the master as a node

-- one message leaves a recovering master recovering, or it begins to serve
pub recovering_moves : (w : World) (n : ℕ) (s : RecoveryState) → s.order.lo ≡ lo_of w s.order.part → s.order.hi ≡ hi_of w s.order.part → StageOk w s s.phase → (from : NodeId) (b : Body) → RecoveryHears w s from b
    → (Goal : Moved MasterStage → Type 0) → ((r : Moved RecoveryState) → RecoveryMove w n s r → Goal (within Recovering r))
    → ((a : Adopted) (r : Replayed) (k : MasterState) → b ≡ body.Adopted a → s.phase ≡ Waiting r → k.log ≡ r.log → BeginningOk w s k → Goal (quiet (Serving k))) → Goal (on_recovering n s from b)
recovering_moves w n s lo hi ok from (body.FenceAnswer a) heard Goal on starts = on _ (fence_goes w n s.order lo hi s.phase from a.answer heard ok)
recovering_moves w n s lo hi ok from (body.FrozenAnswer requests) heard Goal on starts = on _ (requests_goes w n s.order lo hi from requests s.phase heard ok)
recovering_moves w n s lo hi ok from (body.Appended a) heard Goal on starts = on _ (append_goes w n s.order s.phase from a.answer heard ok)
recovering_moves w n s lo hi ok from (body.Adopted a) heard Goal on starts = adopts s.phase refl
  where
    adopts : (p : RecoveryPhase) → s.phase ≡ p → Goal (quiet (serves s p))
    adopts (Asking log requests) is = on (quiet s) (stays w n s.order s.phase s.phase (λ x. x) ok)
    adopts (Storing r) is = on (quiet s) (stays w n s.order s.phase s.phase (λ x. x) ok)
    adopts (Waiting r) is = starts a r _ refl is refl (waits s.order s.phase r is ok)
      where
        waits : (o : Recover) (p : RecoveryPhase) (r : Replayed) → p ≡ Waiting r → StageOk w (at o p) p → BeginningOk w (at o p) (beginning o.part o.epoch o.version o.backups o.witnesses o.lo o.hi r.log r.round)
        waits o (Waiting x) r is stage = subst (λ (y : Replayed). BeginningOk w (at o (Waiting x)) (beginning o.part o.epoch o.version o.backups o.witnesses o.lo o.hi y.log y.round)) (same x r is) (begins w o x stage.0 stage.1)
          where
            same : (x y : Replayed) → Waiting x ≡ Waiting y → x ≡ y
            same x y e = cc
        waits o (Asking log requests) r is stage = absurd cc
        waits o (Storing x) r is stage = absurd cc
recovering_moves w n s lo hi ok from (body.Update ask) heard Goal on starts = on _ (turned_away w n s.order s.phase ask.request.id ok)
recovering_moves w n s lo hi ok from (body.Sync ask) heard Goal on starts = on _ (turned_away w n s.order s.phase ask.request.id ok)
recovering_moves w n s lo hi ok from (body.Read ask) heard Goal on starts = cond_both (is_update ask.request.command) _ _ Goal
    (λ y. on (quiet s) (stays w n s.order s.phase s.phase (λ x. x) ok)) (λ y. on _ (turned_away w n s.order s.phase ask.request.id ok))
recovering_moves w n s lo hi ok from (body.Glance ask) heard Goal on starts = cond_both (is_update ask.request.command) _ _ Goal
    (λ y. on (quiet s) (stays w n s.order s.phase s.phase (λ x. x) ok)) (λ y. on _ (turned_away w n s.order s.phase ask.request.id ok))
recovering_moves w n s lo hi ok from _ heard Goal on starts = on (quiet s) (stays w n s.order s.phase s.phase (λ x. x) ok)

-- and so does an order
pub recovery_ordered_moves : (w : World) (n : ℕ) (s : RecoveryState) → StageOk w s s.phase → (order : Local) → RecoveryMove w n s (recovery_ordered n s order)
recovery_ordered_moves w n s ok order = ordered_goes w n s.order s.phase order ok

-- a fresh master asks by its order
asks : (w : World) (n : ℕ) (o : Recover) → RecoveryMove w n (at o (Asking None None)) (on_recover n o)
unfolding on_recover
asks w n o = tells w n o (Asking None None) (Asking None None) (fence_of n o ++ freeze_of n o) (λ x. x) (tt, tt) (Each-append (Says w n o (Asking None None)) (fence_of n o) (freeze_of n o) (fences w n o (Asking None None)) (freezes w n o (Asking None None)))

asked : (n : ℕ) (o : Recover) → (on_recover n o).state ≡ at o (Asking None None)
unfolding on_recover
asked n o = refl

-- one message leaves a fresh master fresh, or it gets its order
pub fresh_moves : (w : World) (n : ℕ) (b : Body) (Goal : Moved MasterStage → Type 0)
    → ((o : Recover) (r : Moved RecoveryState) → b ≡ body.Recover o → r.state ≡ at o (Asking None None) → RecoveryMove w n (at o (Asking None None)) r → Goal (within Recovering r))
    → ((xs : List Message) → Each (IsSaidBy n (FreshSays w)) xs → Goal (sends Fresh xs)) → Goal (on_fresh n b)
fresh_moves w n (body.Recover o) Goal on refuses = on o (on_recover n o) refl (asked n o) (asks w n o)
fresh_moves w n (body.Update ask) Goal on refuses = refuses _ (record { sender = refl; says_so = record { addressee = refl; first = tt } }, tt)
fresh_moves w n (body.Sync ask) Goal on refuses = refuses _ (record { sender = refl; says_so = record { addressee = refl; first = tt } }, tt)
fresh_moves w n (body.Read ask) Goal on refuses = cond_both (is_update ask.request.command) _ _ Goal (λ y. refuses [] tt) (λ y. refuses _ (record { sender = refl; says_so = record { addressee = refl; first = tt } }, tt))
fresh_moves w n (body.Glance ask) Goal on refuses = cond_both (is_update ask.request.command) _ _ Goal (λ y. refuses [] tt) (λ y. refuses _ (record { sender = refl; says_so = record { addressee = refl; first = tt } }, tt))
fresh_moves w n _ Goal on refuses = refuses [] tt
