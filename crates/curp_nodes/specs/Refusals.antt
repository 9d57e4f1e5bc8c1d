-- Masters, backups and witnesses refuse nothing: no message, and no order.
use Rattle.std.proofs.Common.{refl}
use Rattle.std.proofs.lemmas.Bool.{cond_both}
use Rattle.std.specs.Prelude.{◌≡◌, ℕ, ◌+◌, ◌||◌, ◌&&◌, ◌==◌, nat_le, nat_lt, List, Bool, true, false, not, length, Option, Some, None}
use Rattle.curp_base.specs.Words.{rises_past}
use Rattle.curp_cmd.specs.Store.{is_update}
use Rattle.curp_cmd.specs.declared.command.Command.{Command}
use Rattle.curp_cmd.specs.declared.command.Request.{Request}
use Rattle.curp_cmd.specs.declared.node.NodeId.{NodeId}
use Rattle.curp_msg.specs.Moved.{Moved, Node, Refuses, not_refused, quiet}
use Rattle.curp_msg.specs.declared.answer.AppendAnswer.{AppendAnswer}
use Rattle.curp_msg.specs.declared.answer.AppendAnswer.TheVariants as append
use Rattle.curp_msg.specs.declared.answer.FenceReply.{FenceReply}
use Rattle.curp_msg.specs.declared.answer.FenceReply.TheVariants.{Log}
use Rattle.curp_msg.specs.declared.answer.GcAnswer.{GcAnswer}
use Rattle.curp_msg.specs.declared.answer.GcAnswer.TheVariants.{Suspects}
use Rattle.curp_msg.specs.declared.body.Ask.{Ask}
use Rattle.curp_msg.specs.declared.body.Body.{Body}
use Rattle.curp_msg.specs.declared.body.Parcel.{Parcel}
use Rattle.curp_msg.specs.declared.body.Prepare.{Prepare}
use Rattle.curp_msg.specs.declared.body.Recover.{Recover}
use Rattle.curp_msg.specs.declared.body.TakeOut.{TakeOut}
use Rattle.curp_msg.specs.declared.answer.Refusal.{Refusal}
use Rattle.curp_cmd.specs.declared.command.Command.TheVariants.{Get}
use Rattle.curp_msg.specs.declared.body.Body.TheVariants as body
use Rattle.curp_msg.specs.Input as input
use Rattle.curp_msg.specs.declared.machine.Local.{Local}
use Rattle.curp_msg.specs.declared.machine.Local.TheVariants as local
use Rattle.curp_msg.specs.declared.message.Message.{Message}
use Rattle.curp_model.specs.Backup.{BackupState, on_backup}
use Rattle.curp_model.specs.Master.{MasterState, Phase, Open, Switching, carries_out, executes, glance_command, glance_of, goes_on, is_clean, last_round, on_appended, on_collected, on_serving, on_update, raised, serving_ordered, settle, stored_on, sync_in, unless_it_ends, verdict, all_have, adopted_in, collect_in, give_after, is_open, on_expire, on_give, on_glance, on_read, on_take, prepare_in, push_take, read_command, read_of, read_refusal, state_of, synced, take_after, told_again, treat}
use Rattle.curp_model.specs.declared.Verdict.TheVariants.{Deny, Tell, TellAgain, HoldBack, Execute}
use Rattle.curp_model.specs.declared.Verdict.{Verdict}
use Rattle.curp_model.specs.declared.Wish.TheVariants.{AtOnce, WhenSynced}
use Rattle.curp_model.specs.declared.Wish.{Wish}
use Rattle.curp_cmd.specs.Node.{is_among, same_node}
use Rattle.curp_cmd.specs.declared.entry.Entry.{Entry}
use Rattle.curp_model.specs.Log.{LastGive, LastTake, is_log}
use Rattle.curp_model.specs.Recovery.{MasterStage, Fresh, Recovering, Serving, RecoveryState, RecoveryPhase, Asking, Storing, Waiting, Replayed, again_in, all_complete, append_answered, both_there, completed_by, fence_answered, log_comes, master_ordered, on_fresh, on_master, on_recover, on_recovering, recovery_ordered, requests_come, stored_comes, turns_read_away, with_complete}
use Rattle.curp_model.specs.Table.{is_gone}
use Rattle.curp_model.specs.Witness.{WitnessState, on_witness}
use Rattle.curp_range.specs.Spans.{is_covered}
use Rattle.curp_nodes.specs.Machines.{master_machine, backup_machine, witness_machine}

-- ---- masters

executed_taken : (n : ℕ) (m : MasterState) (wish : Wish) (r : Request) (clean : Bool) → (executes n m wish r clean).refused ≡ 0
executed_taken n m AtOnce r true = refl
executed_taken n m AtOnce r false = refl
executed_taken n m WhenSynced r clean = refl

verdict_taken : (n : ℕ) (m : MasterState) (wish : Wish) (r : Request) (v : Verdict) → (carries_out n m wish r v).refused ≡ 0
verdict_taken n m wish r (Deny why) = refl
verdict_taken n m wish r (Tell a) = refl
verdict_taken n m wish r (TellAgain a) = refl
verdict_taken n m wish r (HoldBack index) = refl
verdict_taken n m wish r Execute = executed_taken n m wish r (is_clean m r.command)

update_taken : (n : ℕ) (m : MasterState) (wish : Wish) (ask : Ask) → (on_update n m wish ask).refused ≡ 0
unfolding on_update
update_taken n m wish ask = verdict_taken n m wish ask.request (verdict m wish ask)

settled_or_prepared : (n : ℕ) (m : MasterState) (p : Phase) → (goes_on n m p).refused ≡ 0
unfolding settle
settled_or_prepared n m Open = refl
settled_or_prepared n m (Switching s) =
    cond_both (not s.prepared && all_have m.acknowledged s.backups (length m.log) s.round) _ _ (λ (r : Moved MasterState). r.refused ≡ 0) (λ y. refl) (λ no. refl)

appended_taken : (n : ℕ) (m : MasterState) (from : NodeId) (round : ℕ) (a : AppendAnswer) → (on_appended n m from round a).refused ≡ 0
unfolding on_appended
appended_taken n m from round (append.Stored long) =
    cond_both (is_among from (stored_on m)) _ _ (λ (r : Moved MasterState). r.refused ≡ 0)
    (λ y. settled_or_prepared n (record m { acknowledged = raised m.acknowledged from long round }) m.phase) (λ no. refl)
appended_taken n m from round _ = refl

sync_taken : (n : ℕ) (m : MasterState) (p : Phase) → (sync_in n m p).refused ≡ 0
sync_taken n m Open = refl
sync_taken n m (Switching s) = cond_both s.prepared _ _ (λ (r : Moved MasterState). r.refused ≡ 0) (λ y. refl) (λ no. refl)

ends_taken : (m : MasterState) (r : Moved MasterState) → r.refused ≡ 0 → (unless_it_ends m r).refused ≡ 0
ends_taken m r taken =
    cond_both (rises_past last_round m.round r.state.round || rises_past last_round m.captured r.state.captured) _ _ (λ (x : Moved MasterState). x.refused ≡ 0) (λ y. refl) (λ no. taken)

read_taken : (n : ℕ) (m : MasterState) (ask : Ask) → (on_read n m ask).refused ≡ 0
unfolding on_read
read_taken n m ask = go ask.request.command
  where
    answered : (key : List ℕ) (why : Option Refusal) → (read_of n m ask.request key why).refused ≡ 0
    answered key (Some why) = refl
    answered key None = refl

    go : (command : Command) → (read_command n m ask command).refused ≡ 0
    go (Get key) = answered key (read_refusal m ask)
    go _ = refl

glance_taken : (n : ℕ) (m : MasterState) (ask : Ask) → (on_glance n m ask).refused ≡ 0
unfolding on_glance
glance_taken n m ask = go ask.request.command
  where
    answered : (key : List ℕ) (why : Option Refusal) → (glance_of n m ask.request key why).refused ≡ 0
    answered key (Some why) = refl
    answered key None = cond_both (is_clean m ask.request.command) _ _ (λ (r : Moved MasterState). r.refused ≡ 0) (λ y. refl) (λ no. refl)

    go : (command : Command) → (glance_command n m ask command).refused ≡ 0
    go (Get key) = answered key (read_refusal m ask)
    go _ = refl

prepare_taken : (n : ℕ) (m : MasterState) (p : Prepare) (phase : Phase) → (prepare_in n m p phase).refused ≡ 0
prepare_taken n m p Open = cond_both (nat_lt m.version p.version) _ _ (λ (r : Moved MasterState). r.refused ≡ 0) (λ y. refl) (λ no. refl)
prepare_taken n m p (Switching s) = cond_both (s.version == p.version) _ _ (λ (r : Moved MasterState). r.refused ≡ 0) (λ y. refl) (λ no. refl)

adopted_taken : (n : ℕ) (m : MasterState) (version : ℕ) (phase : Phase) → (adopted_in n m version phase).refused ≡ 0
unfolding settle
adopted_taken n m version Open = refl
adopted_taken n m version (Switching s) = cond_both (s.version == version) _ _ (λ (r : Moved MasterState). r.refused ≡ 0) (λ y. refl) (λ no. refl)

again_taken : (n : ℕ) (m : MasterState) (index : ℕ) (message : Message) → (told_again n m index message).refused ≡ 0
again_taken n m index message = cond_both (nat_lt index (synced m)) _ _ (λ (r : Moved MasterState). r.refused ≡ 0) (λ y. refl) (λ no. refl)

take_taken : (n : ℕ) (m : MasterState) (t : TakeOut) → (on_take n m t).refused ≡ 0
take_taken n m t = cond_both (is_open m.phase) _ _ (λ (r : Moved MasterState). r.refused ≡ 0) (λ y. go (state_of m).taken) (λ no. refl)
  where
    pushed : (push_take n m t).refused ≡ 0
    pushed = cond_both (is_covered (state_of m).owned t.lo t.hi) _ _ (λ (r : Moved MasterState). r.refused ≡ 0) (λ y. refl) (λ no. refl)

    go : (last : Option LastTake) → (take_after n m t last).refused ≡ 0
    go None = pushed
    go (Some last) = cond_both (t.migration == last.migration) _ _ (λ (r : Moved MasterState). r.refused ≡ 0) (λ y. again_taken n m last.index _)
        (λ no. cond_both (nat_lt last.migration t.migration) _ _ (λ (r : Moved MasterState). r.refused ≡ 0) (λ y. pushed) (λ no. refl))

give_taken : (n : ℕ) (m : MasterState) (g : Parcel) → (on_give n m g).refused ≡ 0
give_taken n m g = cond_both (is_open m.phase) _ _ (λ (r : Moved MasterState). r.refused ≡ 0) (λ y. go (state_of m).given) (λ no. refl)
  where
    go : (last : Option LastGive) → (give_after n m g last).refused ≡ 0
    go None = refl
    go (Some last) = cond_both (nat_le g.migration last.migration) _ _ (λ (r : Moved MasterState). r.refused ≡ 0) (λ y. again_taken n m last.index _) (λ no. refl)

expire_taken : (n : ℕ) (m : MasterState) (client : ℕ) → (on_expire n m client).refused ≡ 0
expire_taken n m client = cond_both (is_gone (state_of m).table client) _ _ (λ (r : Moved MasterState). r.refused ≡ 0) (λ y. refl) (λ no. refl)

collect_taken : (n : ℕ) (m : MasterState) (phase : Phase) → (collect_in n m phase).refused ≡ 0
collect_taken n m Open = refl
collect_taken n m (Switching s) = refl

collected_taken : (n : ℕ) (m : MasterState) (a : GcAnswer) → (on_collected n m a).refused ≡ 0
unfolding on_collected
collected_taken n m (Suspects rs) =
    cond_both (is_open m.phase) _ _ (λ (r : Moved MasterState). r.refused ≡ 0)
    (λ y. cond_both (length (treat m rs).log == length m.log) _ _ (λ (r : Moved MasterState). r.refused ≡ 0) (λ same. refl) (λ more. refl)) (λ no. refl)
collected_taken n m _ = refl

serving_taken : (n : ℕ) (m : MasterState) (from : NodeId) (b : Body) → (on_serving n m from b).refused ≡ 0
unfolding on_serving
serving_taken n m from (body.Update ask) = ends_taken m _ (update_taken n m AtOnce ask)
serving_taken n m from (body.Sync ask) = ends_taken m _ (update_taken n m WhenSynced ask)
serving_taken n m from (body.Read ask) = ends_taken m _ (read_taken n m ask)
serving_taken n m from (body.Glance ask) = ends_taken m _ (glance_taken n m ask)
serving_taken n m from (body.Appended a) = ends_taken m _ (appended_taken n m from a.round a.answer)
serving_taken n m from (body.Collected c) = ends_taken m _ (collected_taken n m c.answer)
serving_taken n m from (body.Prepare p) = ends_taken m _ (prepare_taken n m p m.phase)
serving_taken n m from (body.Adopted a) = ends_taken m _ (adopted_taken n m a.version m.phase)
serving_taken n m from (body.TakeOut t) = ends_taken m _ (take_taken n m t)
serving_taken n m from (body.GiveIn g) = ends_taken m _ (give_taken n m g)
serving_taken n m from (body.ExpireClient client) = ends_taken m _ (expire_taken n m client)
serving_taken n m from _ = ends_taken m (quiet m) refl

ordered_taken : (n : ℕ) (m : MasterState) (order : Local) → (serving_ordered n m order).refused ≡ 0
unfolding serving_ordered
ordered_taken n m local.Sync = ends_taken m _ (sync_taken n m m.phase)
ordered_taken n m local.Collect = collect_taken n m m.phase
ordered_taken n m _ = refl

turned_taken : (n : ℕ) (m : MasterStage) (r : Request) → (turns_read_away n m r).refused ≡ 0
turned_taken n m r = cond_both (is_update r.command) _ _ (λ (x : Moved MasterStage). x.refused ≡ 0) (λ y. refl) (λ no. refl)

fresh_taken : (n : ℕ) (b : Body) → (on_fresh n b).refused ≡ 0
unfolding on_recover
fresh_taken n (body.Recover o) = refl
fresh_taken n (body.Update ask) = refl
fresh_taken n (body.Sync ask) = refl
fresh_taken n (body.Read ask) = turned_taken n Fresh ask.request
fresh_taken n (body.Glance ask) = turned_taken n Fresh ask.request
fresh_taken n _ = refl

both_taken : (n : ℕ) (o : Recover) (log : Option (List Entry)) (requests : Option (List Request)) → (both_there n o log requests).refused ≡ 0
both_taken n o (Some log) (Some requests) = refl
both_taken n o (Some log) None = refl
both_taken n o None requests = refl

log_taken : (n : ℕ) (s : RecoveryState) (from : NodeId) (entries : List Entry) (p : RecoveryPhase) → (log_comes n s from entries p).refused ≡ 0
log_taken n s from entries (Asking None requests) =
    cond_both (same_node from s.order.backup && is_log s.order.lo s.order.hi entries) _ _ (λ (x : Moved RecoveryState). x.refused ≡ 0)
    (λ y. both_taken n s.order (Some entries) requests) (λ no. refl)
log_taken n s from entries (Asking (Some log) requests) = refl
log_taken n s from entries (Storing r) = refl
log_taken n s from entries (Waiting r) = refl

fence_taken : (n : ℕ) (s : RecoveryState) (from : NodeId) (a : FenceReply) → (fence_answered n s from a).refused ≡ 0
fence_taken n s from (Log entries) = log_taken n s from entries s.phase
fence_taken n s from _ = refl

requests_taken : (n : ℕ) (s : RecoveryState) (from : NodeId) (rs : List Request) (p : RecoveryPhase) → (requests_come n s from rs p).refused ≡ 0
requests_taken n s from rs (Asking log None) =
    cond_both (same_node from s.order.witness) _ _ (λ (x : Moved RecoveryState). x.refused ≡ 0) (λ y. both_taken n s.order log (Some rs)) (λ no. refl)
requests_taken n s from rs (Asking log (Some requests)) = refl
requests_taken n s from rs (Storing r) = refl
requests_taken n s from rs (Waiting r) = refl

completed_taken : (n : ℕ) (o : Recover) (r : Replayed) → (completed_by n o r).refused ≡ 0
completed_taken n o r = cond_both (all_complete o r) _ _ (λ (x : Moved RecoveryState). x.refused ≡ 0) (λ y. refl) (λ no. refl)

stored_taken : (n : ℕ) (s : RecoveryState) (from : NodeId) (long : ℕ) (p : RecoveryPhase) → (stored_comes n s from long p).refused ≡ 0
stored_taken n s from long (Storing r) =
    cond_both (is_among from s.order.backups && nat_le (length r.log) long) _ _ (λ (x : Moved RecoveryState). x.refused ≡ 0)
    (λ y. completed_taken n s.order (with_complete r from)) (λ no. refl)
stored_taken n s from long (Asking log requests) = refl
stored_taken n s from long (Waiting r) = refl

append_taken : (n : ℕ) (s : RecoveryState) (from : NodeId) (a : AppendAnswer) → (append_answered n s from a).refused ≡ 0
append_taken n s from (append.Stored long) = stored_taken n s from long s.phase
append_taken n s from _ = refl

recovering_taken : (n : ℕ) (s : RecoveryState) (from : NodeId) (b : Body) → (on_recovering n s from b).refused ≡ 0
recovering_taken n s from (body.FenceAnswer a) = fence_taken n s from a.answer
recovering_taken n s from (body.FrozenAnswer requests) = requests_taken n s from requests s.phase
recovering_taken n s from (body.Appended a) = append_taken n s from a.answer
recovering_taken n s from (body.Adopted a) = refl
recovering_taken n s from (body.Update ask) = refl
recovering_taken n s from (body.Sync ask) = refl
recovering_taken n s from (body.Read ask) = turned_taken n (Recovering s) ask.request
recovering_taken n s from (body.Glance ask) = turned_taken n (Recovering s) ask.request
recovering_taken n s from _ = refl

stage_taken : (n : ℕ) (m : MasterStage) (from : NodeId) (b : Body) → (on_master n m from b).refused ≡ 0
unfolding on_master
stage_taken n Fresh from b = fresh_taken n b
stage_taken n (Recovering s) from b = recovering_taken n s from b
stage_taken n (Serving m) from b = serving_taken n m from b

again_sent : (n : ℕ) (s : RecoveryState) (p : RecoveryPhase) → (again_in n s p).refused ≡ 0
again_sent n s (Asking log requests) = refl
again_sent n s (Storing r) = cond_both (rises_past last_round r.round (r.round + 1)) _ _ (λ (x : Moved RecoveryState). x.refused ≡ 0) (λ y. refl) (λ no. refl)
again_sent n s (Waiting r) = refl

recovery_obeys : (n : ℕ) (s : RecoveryState) (order : Local) → (recovery_ordered n s order).refused ≡ 0
recovery_obeys n s local.Sync = again_sent n s s.phase
recovery_obeys n s _ = refl

stage_obeys : (n : ℕ) (m : MasterStage) (order : Local) → (master_ordered n m order).refused ≡ 0
unfolding master_ordered
stage_obeys n Fresh order = refl
stage_obeys n (Recovering s) order = recovery_obeys n s order
stage_obeys n (Serving m) order = ordered_taken n m order

-- a master takes each message
pub master_taken : (m : Node MasterStage) (x : Message) → (master_machine m (input.Message x)).refused ≡ 0
unfolding master_machine
master_taken m x = stage_taken m.number m.state x.from x.body

-- and each order
pub master_obeys : (m : Node MasterStage) (order : Local) → (master_machine m (input.Local order)).refused ≡ 0
unfolding master_machine
master_obeys m order = stage_obeys m.number m.state order

-- so it refuses none
pub master_refusals : (m : Node MasterStage) (order : Local) → Refuses m (master_machine m (input.Local order))
master_refusals m order = not_refused m _ (master_obeys m order)

-- ---- backups and witnesses

backup_takes : (n : ℕ) (b : BackupState) (from : NodeId) (x : Body) → (on_backup n b from x).refused ≡ 0
unfolding on_backup
backup_takes n b from (body.Append a) = refl
backup_takes n b from (body.Install epoch) = refl
backup_takes n b from (body.Fence epoch) = refl
backup_takes n b from _ = refl

-- a backup takes each message
pub backup_taken : (b : Node BackupState) (x : Message) → (backup_machine b (input.Message x)).refused ≡ 0
unfolding backup_machine
backup_taken b x = backup_takes b.number b.state x.from x.body

-- and each order
pub backup_refusals : (b : Node BackupState) (order : Local) → Refuses b (backup_machine b (input.Local order))
unfolding backup_machine
backup_refusals b order = not_refused b _ refl

witness_takes : (n : ℕ) (w : WitnessState) (from : NodeId) (x : Body) → (on_witness n w from x).refused ≡ 0
unfolding on_witness
witness_takes n w from (body.Gc g) = refl
witness_takes n w from (body.Record r) = refl
witness_takes n w from (body.Start s) = refl
witness_takes n w from (body.Freeze epoch) = refl
witness_takes n w from (body.Probe p) = refl
witness_takes n w from _ = refl

-- a witness takes each message: it rejects records by one
pub witness_taken : (w : Node WitnessState) (x : Message) → (witness_machine w (input.Message x)).refused ≡ 0
unfolding witness_machine
witness_taken w x = witness_takes w.number w.state x.from x.body

-- and each order
pub witness_refusals : (w : Node WitnessState) (order : Local) → Refuses w (witness_machine w (input.Local order))
unfolding witness_machine
witness_refusals w order = not_refused w _ refl
