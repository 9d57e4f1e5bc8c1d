-- No input raises a master's round or its last capture by more than one, and a master refuses none.
use Rattle.std.proofs.Common.{◌≡◌, ◌≤◌, ◌==◌, ◌&&◌, ◌||◌, ℕ, suc, ◌+◌, Bool, true, false, not, List, [], ◌∷◌, length, nat_le, nat_lt, Option, Some, None, refl, ap, ◌∙◌, subst, arith}
use Rattle.std.specs.Bool.{⊤}
use Rattle.std.proofs.lemmas.Bool.{cond_both}
use Rattle.curp_base.specs.Words.{rises_past}
use Rattle.curp_cmd.specs.Hash.{hashes}
use Rattle.curp_cmd.specs.Node.{is_among, same_node}
use Rattle.curp_cmd.specs.Store.{is_update}
use Rattle.curp_cmd.specs.declared.command.Command.{Command}
use Rattle.curp_cmd.specs.declared.command.Command.TheVariants.{Get}
use Rattle.curp_cmd.specs.declared.command.Request.{Request}
use Rattle.curp_cmd.specs.declared.entry.Entry.{Entry}
use Rattle.curp_cmd.specs.declared.node.NodeId.{NodeId}
use Rattle.curp_msg.specs.Moved.{Moved, quiet}
use Rattle.curp_msg.specs.declared.answer.AppendAnswer.{AppendAnswer}
use Rattle.curp_msg.specs.declared.answer.AppendAnswer.TheVariants.{Stored}
use Rattle.curp_msg.specs.declared.answer.FenceReply.{FenceReply}
use Rattle.curp_msg.specs.declared.answer.FenceReply.TheVariants.{Log}
use Rattle.curp_msg.specs.declared.answer.GcAnswer.{GcAnswer}
use Rattle.curp_msg.specs.declared.answer.GcAnswer.TheVariants.{Suspects}
use Rattle.curp_msg.specs.declared.answer.Refusal.{Refusal}
use Rattle.curp_msg.specs.declared.body.Ask.{Ask}
use Rattle.curp_msg.specs.declared.body.Body.{Body}
use Rattle.curp_msg.specs.declared.body.Body.TheVariants as body
use Rattle.curp_msg.specs.declared.body.Parcel.{Parcel}
use Rattle.curp_msg.specs.declared.body.Prepare.{Prepare}
use Rattle.curp_msg.specs.declared.body.TakeOut.{TakeOut}
use Rattle.curp_msg.specs.Input.{Input}
use Rattle.curp_msg.specs.Input as input
use Rattle.curp_msg.specs.declared.machine.Local.{Local}
use Rattle.curp_msg.specs.declared.machine.Local.TheVariants as local
use Rattle.curp_msg.specs.declared.message.Message.{Message}
use Rattle.curp_range.specs.Spans.{is_covered}
use Rattle.curp_model.specs.declared.Check.{Check}
use Rattle.curp_model.specs.declared.Check.TheVariants.{Expired, Stale, Known, New}
use Rattle.curp_model.specs.Log.{LastGive, LastTake, is_log}
use Rattle.curp_model.specs.Master.{MasterState, Open, Phase, Switch, Switching, adopted_in, all_have, by_message, carries_out, collect_in, executes, give_after, glance_command, glance_of, goes_on, is_clean, is_open, last_round, on_appended, on_collected, on_expire, on_give, on_glance, on_read, on_serving, on_stored, on_take, on_update, prepare_in, prepares, push_take, raised, read_command, read_of, read_refusal, serving_ordered, settle, state_of, stored_on, sync_in, synced, take_after, told_again, treat, treated, treats, unless_it_ends, verdict}
use Rattle.curp_model.specs.declared.Verdict.TheVariants.{Deny, Execute, HoldBack, Tell, TellAgain}
use Rattle.curp_model.specs.declared.Verdict.{Verdict}
use Rattle.curp_model.specs.declared.Wish.TheVariants.{AtOnce, WhenSynced}
use Rattle.curp_model.specs.declared.Wish.{Wish}
use Rattle.curp_model.specs.Ranges.{owns_all}
use Rattle.curp_model.specs.Recovery.{Asking, Fresh, MasterStage, Recovering, RecoveryPhase, RecoveryState, Replayed, Serving, Storing, Waiting, again_in, all_complete, append_answered, both_there, completed_by, fence_answered, log_comes, master_input, master_ordered, on_fresh, on_master, on_recover, on_recovering, recovery_ordered, requests_come, serves, stored_comes, turns_read_away, with_complete}
use Rattle.curp_model.specs.Table.{check, is_gone}

-- ---- a serving master

-- its round and its last capture are then at most one above those before, and it isn't refused
record Goes (m : MasterState) (r : Moved MasterState) : Type 0 where
  pub round : r.state.round ≤ m.round + 1
  pub captured : r.state.captured ≤ m.captured + 1
  pub refused : r.refused ≡ 0

-- they are the same
record AsMany (m k : MasterState) : Type 0 where
  pub round : k.round ≡ m.round
  pub captured : k.captured ≡ m.captured

as_many : (m k : MasterState) → AsMany m k → Goes m (quiet k)
as_many m k same = record { round = omega (arith, same.round); captured = omega (arith, same.captured); refused = refl }

treated_same : (m : MasterState) (r : Request) (c : Check) → AsMany m (treated m r c)
treated_same m r (Known a index) = record { round = refl; captured = refl }
treated_same m r (Stale first) = record { round = refl; captured = refl }
treated_same m r Expired = record { round = refl; captured = refl }
treated_same m r New = cond_both (owns_all (state_of m).owned (hashes r.command)) _ _ (AsMany m) (λ y. record { round = refl; captured = refl }) (λ y. record { round = refl; captured = refl })

treat_same : (m : MasterState) (rs : List Request) → AsMany m (treat m rs)
treat_same m [] = record { round = refl; captured = refl }
treat_same m (r ∷ rs) =
    let one = treated_same m r (check (state_of m).table r.id) in
    let more = treat_same (treated m r (check (state_of m).table r.id)) rs in
    record { round = more.round ∙ one.round; captured = more.captured ∙ one.captured }

module _ (n : ℕ) (m : MasterState) where
  rests : {r : Moved MasterState} → r.state ≡ m → r.refused ≡ 0 → Goes m r
  rests same none =
      let round = ap (λ (k : MasterState). k.round) same in let captured = ap (λ (k : MasterState). k.captured) same in
      record { round = omega (arith, round); captured = omega (arith, captured); refused = none }

  executes_goes : (w : Wish) (r : Request) (clean : Bool) → Goes m (executes n m w r clean)
  executes_goes AtOnce r true = record { round = omega arith; captured = omega arith; refused = refl }
  executes_goes AtOnce r false = record { round = omega arith; captured = omega arith; refused = refl }
  executes_goes WhenSynced r true = record { round = omega arith; captured = omega arith; refused = refl }
  executes_goes WhenSynced r false = record { round = omega arith; captured = omega arith; refused = refl }

  carries_goes : (w : Wish) (r : Request) (v : Verdict) → Goes m (carries_out n m w r v)
  carries_goes w r (Deny why) = (rests refl refl)
  carries_goes w r (Tell a) = (rests refl refl)
  carries_goes w r (TellAgain a) = (rests refl refl)
  carries_goes w r (HoldBack index) = record { round = omega arith; captured = omega arith; refused = refl }
  carries_goes w r Execute = executes_goes w r (is_clean m r.command)

  update_goes : (w : Wish) (ask : Ask) → Goes m (on_update n m w ask)
  unfolding on_update
  update_goes w ask = carries_goes w ask.request (verdict m w ask)

  read_of_goes : (r : Request) (key : List ℕ) (o : Option Refusal) → Goes m (read_of n m r key o)
  read_of_goes r key (Some why) = (rests refl refl)
  read_of_goes r key None = record { round = omega arith; captured = omega arith; refused = refl }

  command_goes : (ask : Ask) (c : Command) → Goes m (read_command n m ask c)
  command_goes ask (Get key) = read_of_goes ask.request key (read_refusal m ask)
  command_goes ask _ = (rests refl refl)

  read_goes : (ask : Ask) → Goes m (on_read n m ask)
  unfolding on_read
  read_goes ask = command_goes ask ask.request.command

  glance_of_goes : (r : Request) (key : List ℕ) (o : Option Refusal) → Goes m (glance_of n m r key o)
  glance_of_goes r key (Some why) = (rests refl refl)
  glance_of_goes r key None = cond_both (is_clean m r.command) _ _ (Goes m) (λ y. record { round = omega arith; captured = omega arith; refused = refl }) (λ y. record { round = omega arith; captured = omega arith; refused = refl })

  glance_command_goes : (ask : Ask) (c : Command) → Goes m (glance_command n m ask c)
  glance_command_goes ask (Get key) = glance_of_goes ask.request key (read_refusal m ask)
  glance_command_goes ask _ = (rests refl refl)

  glance_goes : (ask : Ask) → Goes m (on_glance n m ask)
  unfolding on_glance
  glance_goes ask = glance_command_goes ask ask.request.command

  settle_goes : (k : MasterState) → AsMany m k → Goes m (settle n k)
  unfolding settle
  settle_goes k same = record { round = omega (arith, same.round); captured = omega (arith, same.captured); refused = refl }

  prepares_goes : (k : MasterState) (s : Switch) → AsMany m k → Goes m (prepares n k s)
  prepares_goes k s same = cond_both (not s.prepared && all_have k.acknowledged s.backups (length k.log) s.round) _ _ (Goes m)
      (λ y. record { round = omega (arith, same.round); captured = omega (arith, same.captured); refused = refl }) (λ y. as_many m k same)

  goes_on_goes : (k : MasterState) (p : Phase) → AsMany m k → Goes m (goes_on n k p)
  goes_on_goes k Open same = settle_goes k same
  goes_on_goes k (Switching s) same = prepares_goes k s same

  stored_goes : (from : NodeId) (long round : ℕ) → Goes m (on_stored n m from long round)
  stored_goes from long round = cond_both (is_among from (stored_on m)) _ _ (Goes m)
      (λ y. goes_on_goes (record m { acknowledged = raised m.acknowledged from long round }) m.phase (record { round = refl; captured = refl })) (λ y. (rests refl refl))

  appended_goes : (from : NodeId) (round : ℕ) (a : AppendAnswer) → Goes m (on_appended n m from round a)
  unfolding on_appended
  appended_goes from round (Stored long) = stored_goes from long round
  appended_goes from round _ = (rests refl refl)

  treats_goes : (rs : List Request) → Goes m (treats n m rs)
  treats_goes rs =
      let k = treat m rs in
      cond_both (length k.log == length m.log) _ _ (Goes m) (λ y. as_many m k (treat_same m rs)) (λ y. let same = treat_same m rs in record { round = omega (arith, same.round); captured = omega (arith, same.captured); refused = refl })

  collected_goes : (a : GcAnswer) → Goes m (on_collected n m a)
  unfolding on_collected
  collected_goes (Suspects rs) = cond_both (is_open m.phase) _ _ (Goes m) (λ y. treats_goes rs) (λ y. (rests refl refl))
  collected_goes _ = (rests refl refl)

  prepare_goes : (p : Prepare) (at : Phase) → Goes m (prepare_in n m p at)
  prepare_goes p Open = cond_both (nat_lt m.version p.version) _ _ (Goes m) (λ y. record { round = omega arith; captured = omega arith; refused = refl }) (λ y. (rests refl refl))
  prepare_goes p (Switching s) = cond_both (s.version == p.version) _ _ (Goes m) (λ y. record { round = omega arith; captured = omega arith; refused = refl }) (λ y. (rests refl refl))

  adopted_goes : (version : ℕ) (at : Phase) → Goes m (adopted_in n m version at)
  adopted_goes version Open = (rests refl refl)
  adopted_goes version (Switching s) = cond_both (s.version == version) _ _ (Goes m)
      (λ y. settle_goes (record m { version = s.version; backups = s.backups; witnesses = s.witnesses; phase = Open }) (record { round = refl; captured = refl })) (λ y. (rests refl refl))

  told_goes : (index : ℕ) (x : Message) → Goes m (told_again n m index x)
  told_goes index x = cond_both (nat_lt index (synced m)) _ _ (Goes m) (λ y. (rests refl refl)) (λ y. record { round = omega arith; captured = omega arith; refused = refl })

  push_take_goes : (t : TakeOut) → Goes m (push_take n m t)
  push_take_goes t = cond_both (is_covered (state_of m).owned t.lo t.hi) _ _ (Goes m) (λ y. record { round = omega arith; captured = omega arith; refused = refl }) (λ y. (rests refl refl))

  take_goes : (t : TakeOut) (o : Option LastTake) → Goes m (take_after n m t o)
  take_goes t None = push_take_goes t
  take_goes t (Some last) = cond_both (t.migration == last.migration) _ _ (Goes m) (λ y. told_goes last.index _)
      (λ y. cond_both (nat_lt last.migration t.migration) _ _ (Goes m) (λ y. push_take_goes t) (λ y. (rests refl refl)))

  give_goes : (g : Parcel) (o : Option LastGive) → Goes m (give_after n m g o)
  give_goes g None = record { round = omega arith; captured = omega arith; refused = refl }
  give_goes g (Some last) = cond_both (nat_le g.migration last.migration) _ _ (Goes m) (λ y. told_goes last.index _) (λ y. record { round = omega arith; captured = omega arith; refused = refl })

  on_take_goes : (t : TakeOut) → Goes m (on_take n m t)
  on_take_goes t = cond_both (is_open m.phase) _ _ (Goes m) (λ y. take_goes t (state_of m).taken) (λ y. (rests refl refl))

  on_give_goes : (g : Parcel) → Goes m (on_give n m g)
  on_give_goes g = cond_both (is_open m.phase) _ _ (Goes m) (λ y. give_goes g (state_of m).given) (λ y. (rests refl refl))

  expire_goes : (client : ℕ) → Goes m (on_expire n m client)
  expire_goes client = cond_both (is_gone (state_of m).table client) _ _ (Goes m) (λ y. (rests refl refl)) (λ y. record { round = omega arith; captured = omega arith; refused = refl })

  ends_goes : (r : Moved MasterState) → Goes m r → Goes m (unless_it_ends m r)
  ends_goes r g = cond_both (rises_past last_round m.round r.state.round || rises_past last_round m.captured r.state.captured) _ _ (Goes m) (λ y. (rests refl refl)) (λ y. g)

  message_goes : (from : NodeId) (b : Body) → Goes m (by_message n m from b)
  message_goes from (body.Update ask) = update_goes AtOnce ask
  message_goes from (body.Sync ask) = update_goes WhenSynced ask
  message_goes from (body.Read ask) = read_goes ask
  message_goes from (body.Glance ask) = glance_goes ask
  message_goes from (body.Appended a) = appended_goes from a.round a.answer
  message_goes from (body.Collected c) = collected_goes c.answer
  message_goes from (body.Prepare p) = prepare_goes p m.phase
  message_goes from (body.Adopted a) = adopted_goes a.version m.phase
  message_goes from (body.TakeOut t) = on_take_goes t
  message_goes from (body.GiveIn g) = on_give_goes g
  message_goes from (body.ExpireClient client) = expire_goes client
  message_goes from _ = (rests refl refl)

  serving_goes : (from : NodeId) (b : Body) → Goes m (on_serving n m from b)
  unfolding on_serving
  serving_goes from b = ends_goes (by_message n m from b) (message_goes from b)

  sync_goes : (p : Phase) → Goes m (sync_in n m p)
  sync_goes Open = record { round = omega arith; captured = omega arith; refused = refl }
  sync_goes (Switching s) = cond_both s.prepared _ _ (Goes m) (λ y. record { round = omega arith; captured = omega arith; refused = refl }) (λ y. record { round = omega arith; captured = omega arith; refused = refl })

  collect_goes : (p : Phase) → Goes m (collect_in n m p)
  collect_goes Open = record { round = omega arith; captured = omega arith; refused = refl }
  collect_goes (Switching s) = (rests refl refl)

  ordered_goes : (order : Local) → Goes m (serving_ordered n m order)
  unfolding serving_ordered
  ordered_goes local.Sync = ends_goes (sync_in n m m.phase) (sync_goes m.phase)
  ordered_goes local.Collect = collect_goes m.phase
  ordered_goes _ = (rests refl refl)

-- ---- a master by its stage

-- the round of a recovery is at most so high
abbrev PhaseWithin : ℕ → RecoveryPhase → Type 0
PhaseWithin top (Asking log requests) = ⊤
PhaseWithin top (Storing r) = r.round ≤ top
PhaseWithin top (Waiting r) = r.round ≤ top

-- the round and the last capture of a master are
abbrev pub IsWithin : ℕ → MasterStage → Type 0
IsWithin top Fresh = ⊤
IsWithin top (Recovering s) = PhaseWithin top s.phase
IsWithin top (Serving m) = (m.round ≤ top) × (m.captured ≤ top)

phase_higher : (top : ℕ) (p : RecoveryPhase) → PhaseWithin top p → PhaseWithin (suc top) p
phase_higher top (Asking log requests) is = tt
phase_higher top (Storing r) is = omega (arith, is)
phase_higher top (Waiting r) is = omega (arith, is)

pub higher : (top : ℕ) (m : MasterStage) → IsWithin top m → IsWithin (suc top) m
higher top Fresh is = tt
higher top (Recovering s) is = phase_higher top s.phase is
higher top (Serving m) is = (omega (arith, is.0), omega (arith, is.1))

module _ (top n : ℕ) (s : RecoveryState) (within : PhaseWithin top s.phase) where
  abbrev Recovers : Moved RecoveryState → Type 0
  Recovers r = PhaseWithin (suc top) r.state.phase × (r.refused ≡ 0)

  stays : Recovers (quiet s)
  stays = (phase_higher top s.phase within, refl)

  abbrev Stays : Moved MasterStage → Type 0
  Stays r = IsWithin (suc top) r.state × (r.refused ≡ 0)

  held : Stays (quiet (Recovering s))
  held = (phase_higher top s.phase within, refl)

  both_within : (log : Option (List Entry)) (requests : Option (List Request))
      → Recovers (both_there n s.order log requests)
  both_within (Some log) (Some requests) = (omega arith, refl)
  both_within (Some log) None = (tt, refl)
  both_within None requests = (tt, refl)

  log_within : (from : NodeId) (entries : List Entry) (p : RecoveryPhase) → Recovers (log_comes n s from entries p)
  log_within from entries (Asking None requests) = cond_both (same_node from s.order.backup && is_log s.order.lo s.order.hi entries) _ _ Recovers (λ y. both_within (Some entries) requests) (λ y. stays)
  log_within from entries (Asking (Some log) requests) = stays
  log_within from entries (Storing r) = stays
  log_within from entries (Waiting r) = stays

  fenced_within : (from : NodeId) (a : FenceReply) → Recovers (fence_answered n s from a)
  fenced_within from (Log entries) = log_within from entries s.phase
  fenced_within from _ = stays

  requests_within : (from : NodeId) (rs : List Request) (p : RecoveryPhase) → Recovers (requests_come n s from rs p)
  requests_within from rs (Asking log None) = cond_both (same_node from s.order.witness) _ _ Recovers (λ y. both_within log (Some rs)) (λ y. stays)
  requests_within from rs (Asking log (Some requests)) = stays
  requests_within from rs (Storing r) = stays
  requests_within from rs (Waiting r) = stays

  completed_within : (r : Replayed) → r.round ≤ top → Recovers (completed_by n s.order r)
  completed_within r low = cond_both (all_complete s.order r) _ _ Recovers (λ y. (omega (arith, low), refl)) (λ y. (omega (arith, low), refl))

  with_within : (r : Replayed) (from : NodeId) → r.round ≤ top → (with_complete r from).round ≤ top
  with_within r from low = cond_both (is_among from r.complete) _ _ (λ (k : Replayed). k.round ≤ top) (λ y. low) (λ y. low)

  stored_within : (from : NodeId) (long : ℕ) (p : RecoveryPhase) → s.phase ≡ p → Recovers (stored_comes n s from long p)
  stored_within from long (Storing r) is = cond_both (is_among from s.order.backups && nat_le (length r.log) long) _ _ Recovers
      (λ y. completed_within (with_complete r from) (with_within r from (subst (PhaseWithin top) is within))) (λ y. stays)
  stored_within from long (Asking log requests) is = stays
  stored_within from long (Waiting r) is = stays

  append_within : (from : NodeId) (a : AppendAnswer) → Recovers (append_answered n s from a)
  append_within from (Stored long) = stored_within from long s.phase refl
  append_within from _ = stays

  again_within : (p : RecoveryPhase) → s.phase ≡ p → Recovers (again_in n s p)
  again_within (Asking log requests) is = stays
  again_within (Storing r) is = cond_both (rises_past last_round r.round (r.round + 1)) _ _ Recovers (λ y. stays) (λ y. let low : r.round ≤ top = subst (PhaseWithin top) is within in (omega (arith, low), refl))
  again_within (Waiting r) is = stays

  ordered_within : (order : Local) → Recovers (recovery_ordered n s order)
  ordered_within local.Sync = again_within s.phase refl
  ordered_within _ = stays

  serves_within : (p : RecoveryPhase) → s.phase ≡ p → IsWithin (suc top) (serves s p)
  serves_within (Waiting r) is = let low : r.round ≤ top = subst (PhaseWithin top) is within in (omega (arith, low), omega arith)
  serves_within (Asking log requests) is = phase_higher top s.phase within
  serves_within (Storing r) is = phase_higher top s.phase within

  turned : (r : Request) → Stays (turns_read_away n (Recovering s) r)
  turned r = cond_both (is_update r.command) _ _ Stays (λ y. held) (λ y. held)

  recovering_within : (from : NodeId) (b : Body) → Stays (on_recovering n s from b)
  recovering_within from (body.FenceAnswer a) = fenced_within from a.answer
  recovering_within from (body.FrozenAnswer requests) = requests_within from requests s.phase
  recovering_within from (body.Appended a) = append_within from a.answer
  recovering_within from (body.Adopted a) = (serves_within s.phase refl, refl)
  recovering_within from (body.Update ask) = held
  recovering_within from (body.Sync ask) = held
  recovering_within from (body.Read ask) = turned ask.request
  recovering_within from (body.Glance ask) = turned ask.request
  recovering_within from _ = held

module _ (top n : ℕ) where
  abbrev Within : Moved MasterStage → Type 0
  Within r = IsWithin (suc top) r.state × (r.refused ≡ 0)

  read_fresh : (r : Request) → Within (turns_read_away n Fresh r)
  read_fresh r = cond_both (is_update r.command) _ _ Within (λ y. (tt, refl)) (λ y. (tt, refl))

  fresh_within : (b : Body) → Within (on_fresh n b)
  unfolding on_recover
  fresh_within (body.Recover o) = (tt, refl)
  fresh_within (body.Update ask) = (tt, refl)
  fresh_within (body.Sync ask) = (tt, refl)
  fresh_within (body.Read ask) = read_fresh ask.request
  fresh_within (body.Glance ask) = read_fresh ask.request
  fresh_within _ = (tt, refl)

  heard_within : (m : MasterStage) (from : NodeId) (b : Body) → IsWithin top m → Within (on_master n m from b)
  unfolding on_master
  heard_within Fresh from b is = fresh_within b
  heard_within (Recovering s) from b is = recovering_within top n s is from b
  heard_within (Serving m) from b is = let g = serving_goes n m from b in ((omega (arith, is.0, g.round), omega (arith, is.1, g.captured)), g.refused)

  told_within : (m : MasterStage) (order : Local) → IsWithin top m → Within (master_ordered n m order)
  unfolding master_ordered
  told_within Fresh order is = (tt, refl)
  told_within (Recovering s) order is = ordered_within top n s is order
  told_within (Serving m) order is = let g = ordered_goes n m order in ((omega (arith, is.0, g.round), omega (arith, is.1, g.captured)), g.refused)

  -- an input raises them by one at most, and isn't refused
  pub input_within : (m : MasterStage) (given : Input) → IsWithin top m → Within (master_input n m given)
  input_within m (input.Local order) is = told_within m order is
  input_within m (input.Message x) is = heard_within m x.from x.body is
