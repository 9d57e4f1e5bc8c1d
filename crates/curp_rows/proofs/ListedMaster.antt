-- A master computes with the pairs of its store as a list.
use Rattle.std.proofs.Common.{◌≡◌, ℕ, ◌+◌, ◌==◌, ◌&&◌, nat_lt, Bool, true, false, not, if◌then◌else◌, List, [], ◌∷◌, ◌++◌, map, length, take, filter, flat_map, slice_get, Option, Some, None, refl, ap, ◌∙◌}
use Rattle.std.specs.FinMap as store
use Rattle.std.specs.Prelude.{option_map}
use Rattle.curp_base.specs.Cases.{first_case, first_there, only_if}
use Rattle.curp_range.specs.Spans.{is_covered}
use Rattle.curp_cmd.specs.Hash.{hashes}
use Rattle.curp_cmd.specs.Node.{is_among, same_node, manager_node, client_node, master_node}
use Rattle.curp_cmd.specs.declared.command.Answer.{Answer}
use Rattle.curp_cmd.specs.declared.command.Answer.TheVariants.{Found}
use Rattle.curp_cmd.specs.declared.command.Command.{Command}
use Rattle.curp_cmd.specs.declared.command.Command.TheVariants.{Get}
use Rattle.curp_cmd.specs.declared.command.Request.{Request}
use Rattle.curp_cmd.specs.declared.entry.Entry.{Entry}
use Rattle.curp_cmd.specs.declared.entry.Entry.TheVariants.{Op, Take}
use Rattle.curp_cmd.specs.declared.migration.Package.{Package}
use Rattle.curp_cmd.specs.declared.node.NodeId.{NodeId}
use Rattle.curp_msg.specs.Moved.{Moved, quiet, sends, says, within}
use Rattle.curp_msg.specs.declared.answer.AppendAnswer.{AppendAnswer}
use Rattle.curp_msg.specs.declared.answer.AppendAnswer.TheVariants.{Stored}
use Rattle.curp_msg.specs.declared.answer.FenceReply.{FenceReply}
use Rattle.curp_msg.specs.declared.answer.FenceReply.TheVariants.{Log}
use Rattle.curp_msg.specs.declared.answer.Refusal.{Refusal}
use Rattle.curp_msg.specs.declared.answer.Refusal.TheVariants as refusal
use Rattle.curp_msg.specs.declared.body.Ask.{Ask}
use Rattle.curp_msg.specs.declared.body.Body.{Body}
use Rattle.curp_msg.specs.declared.body.Body.TheVariants as body
use Rattle.curp_msg.specs.declared.body.TakeOut.{TakeOut}
use Rattle.curp_msg.specs.declared.message.Message.{Message}
use Rattle.curp_model.specs.Log.{LastTake}
use Rattle.curp_model.specs.Master.{MasterState, Captured, Phase, Open, Switching, is_open, state_of, synced, is_clean, stored_on, begins_round, reply, answers_with, by_epoch, by_phase, by_version, by_check, verdict, pushed, marked_free, executes, carries_out, on_update, by_read_check, read_refusal, read_of, read_command, on_read, glance_of, glance_command, on_glance, synced_reply, is_ready, value_of, moved_entry, between, settle, raised, prepares, goes_on, on_appended, adopted_in, told_again, push_take, take_after, on_take, unless_it_ends, by_message, on_serving}
use Rattle.curp_model.specs.declared.Verdict.TheVariants.{Deny, Execute}
use Rattle.curp_model.specs.declared.Verdict.{Verdict}
use Rattle.curp_model.specs.declared.Wish.TheVariants.{AtOnce, WhenSynced}
use Rattle.curp_model.specs.declared.Wish.{Wish}
use Rattle.curp_model.specs.Ranges.{owns_all}
use Rattle.curp_model.specs.Recovery as recovery
use Rattle.curp_model.specs.Recovery.{RecoveryState, RecoveryPhase, Asking, Storing, Waiting, both_there, log_comes, fence_answered, on_recovering, on_master, MasterStage}
use Rattle.curp_model.specs.Table.{check}
use Rattle.curp_rows.proofs.ListedLog.{ListedState, seen_state, listed_meaning, listed_answer, listed_package, is_listed_log, same_meaning, same_answer, same_log}
use Rattle.curp_rows.proofs.ListedStore.{value_in}

abbrev pub listed_state : MasterState → ListedState
listed_state m = listed_meaning m.lo m.hi m.log

same_state : (m : MasterState) → seen_state (state_of m) ≡ listed_state m
same_state m = same_meaning m.lo m.hi m.log

-- ---- updates

-- what becomes of an update, by what the log means
abbrev pub verdict_by : ListedState → MasterState → Wish → Ask → Verdict
verdict_by s m wish ask = first_case (
    option_map Deny (by_epoch m ask)
    ∷ option_map Deny (by_phase m)
    ∷ by_check m wish (check s.table ask.request.id)
    ∷ option_map Deny (by_version m ask)
    ∷ option_map Deny (only_if (not (owns_all s.owned (hashes ask.request.command))) refusal.NotOwner)
    ∷ []) Execute

abbrev pub free_reply : ℕ → MasterState → Request → Answer → Moved MasterState
free_reply n m r a =
    let after = marked_free (pushed m r r.first) (length m.log) true in
    sends after (reply n after false r.id a ∷ [])

abbrev pub listed_executes : ℕ → MasterState → Wish → Request → Bool → Moved MasterState
listed_executes n m AtOnce r true = free_reply n m r (listed_answer m.lo m.hi (take (length m.log) m.log) r.command)
listed_executes n m wish r clean = executes n m wish r clean

same_executes : (n : ℕ) (m : MasterState) (wish : Wish) (r : Request) (clean : Bool) → executes n m wish r clean ≡ listed_executes n m wish r clean
same_executes n m AtOnce r true = ap (free_reply n m r) (same_answer m.lo m.hi (take (length m.log) m.log) r.command)
same_executes n m wish r clean = refl

abbrev pub listed_carries_out : ℕ → MasterState → Wish → Request → Verdict → Moved MasterState
listed_carries_out n m wish r Execute = listed_executes n m wish r (is_clean m r.command)
listed_carries_out n m wish r v = carries_out n m wish r v

same_carries_out : (n : ℕ) (m : MasterState) (wish : Wish) (r : Request) (v : Verdict) → carries_out n m wish r v ≡ listed_carries_out n m wish r v
same_carries_out n m wish r Execute = same_executes n m wish r (is_clean m r.command)
same_carries_out n m wish r v = refl

abbrev pub listed_update : ℕ → MasterState → Wish → Ask → Moved MasterState
listed_update n m wish ask = listed_carries_out n m wish ask.request (verdict_by (listed_state m) m wish ask)

same_update : (n : ℕ) (m : MasterState) (wish : Wish) (ask : Ask) → on_update n m wish ask ≡ listed_update n m wish ask
unfolding on_update
same_update n m wish ask =
    same_carries_out n m wish ask.request (verdict m wish ask)
    ∙ ap (λ (s : ListedState). listed_carries_out n m wish ask.request (verdict_by s m wish ask)) (same_state m)

-- ---- reads

-- why a read isn't captured, by what the log means
abbrev pub read_refusal_by : ListedState → MasterState → Ask → Option Refusal
read_refusal_by s m ask = first_there (
    by_epoch m ask
    ∷ by_phase m
    ∷ by_read_check (check s.table ask.request.id)
    ∷ by_version m ask
    ∷ only_if (not (owns_all s.owned (hashes ask.request.command))) refusal.NotOwner
    ∷ [])

abbrev pub captures_value : ℕ → MasterState → Request → Option (List ℕ) → Moved MasterState
captures_value n m r value =
    let capture : Captured = record {
      number = m.captured + 1;
      id = r.id;
      command = r.command;
      answer = Found value;
      length = length m.log;
      round = m.round + 1;
    } in
    begins_round n (record m { captures = m.captures ++ capture ∷ []; captured = m.captured + 1 })

-- a read that is answered at once has a value
abbrev pub quick_value_of : ℕ → MasterState → Request → Option (List ℕ) → Message
quick_value_of n m r value = says (master_node n) (client_node r.id.client)
    (body.Quick (record { id = r.id; epoch = m.epoch; version = m.version; capture = m.captured + 1; answer = Found value }))

abbrev pub glances_value : ℕ → MasterState → Request → Option (List ℕ) → Moved MasterState
glances_value n m r value =
    if is_clean m r.command
    then sends (record m { captured = m.captured + 1 }) (quick_value_of n m r value ∷ [])
    else captures_value n m r value

-- what a read gets that isn't refused, by its value
abbrev pub Gets : Type 0
Gets = ℕ → MasterState → Request → Option (List ℕ) → Moved MasterState

abbrev pub listed_get_of : Gets → ListedState → ℕ → MasterState → Request → List ℕ → Option Refusal → Moved MasterState
listed_get_of gets s n m r key (Some why) = answers_with n m r.id why
listed_get_of gets s n m r key None = gets n m r (value_in s.pairs key)

abbrev pub listed_get : Gets → ListedState → ℕ → MasterState → Ask → List ℕ → Moved MasterState
listed_get gets s n m ask key = listed_get_of gets s n m ask.request key (read_refusal_by s m ask)

abbrev pub listed_read : Gets → ℕ → MasterState → Ask → Command → Moved MasterState
listed_read gets n m ask (Get key) = listed_get gets (listed_state m) n m ask key
listed_read gets n m ask command = quiet m

same_get : (gets : Gets) (n : ℕ) (m : MasterState) (ask : Ask) (key : List ℕ) → listed_get gets (seen_state (state_of m)) n m ask key ≡ listed_get gets (listed_state m) n m ask key
same_get gets n m ask key = ap (λ (s : ListedState). listed_get gets s n m ask key) (same_state m)

same_read_of : (n : ℕ) (m : MasterState) (r : Request) (key : List ℕ) (why : Option Refusal) → read_of n m r key why ≡ listed_get_of captures_value (seen_state (state_of m)) n m r key why
same_read_of n m r key (Some why) = refl
same_read_of n m r key None = ap (captures_value n m r) (store.get-entries (state_of m).store key)

same_read_command : (n : ℕ) (m : MasterState) (ask : Ask) (command : Command) → read_command n m ask command ≡ listed_read captures_value n m ask command
same_read_command n m ask (Get key) = same_read_of n m ask.request key (read_refusal m ask) ∙ same_get captures_value n m ask key
same_read_command n m ask command = refl

same_read : (n : ℕ) (m : MasterState) (ask : Ask) → on_read n m ask ≡ listed_read captures_value n m ask ask.request.command
unfolding on_read
same_read n m ask = same_read_command n m ask ask.request.command

same_glance_of : (n : ℕ) (m : MasterState) (r : Request) (key : List ℕ) (why : Option Refusal) → glance_of n m r key why ≡ listed_get_of glances_value (seen_state (state_of m)) n m r key why
same_glance_of n m r key (Some why) = refl
same_glance_of n m r key None = ap (glances_value n m r) (store.get-entries (state_of m).store key)

same_glance_command : (n : ℕ) (m : MasterState) (ask : Ask) (command : Command) → glance_command n m ask command ≡ listed_read glances_value n m ask command
same_glance_command n m ask (Get key) = same_glance_of n m ask.request key (read_refusal m ask) ∙ same_get glances_value n m ask key
same_glance_command n m ask command = refl

same_glance : (n : ℕ) (m : MasterState) (ask : Ask) → on_glance n m ask ≡ listed_read glances_value n m ask ask.request.command
unfolding on_glance
same_glance n m ask = same_glance_command n m ask ask.request.command

-- ---- settling

abbrev pub listed_reply : ℕ → MasterState → ℕ → Option Entry → List Message
listed_reply n m index (Some (Op r acknowledged)) = reply n m true r.id (listed_answer m.lo m.hi (take index m.log) r.command) ∷ []
listed_reply n m index _ = []

same_reply : (n : ℕ) (m : MasterState) (index : ℕ) (e : Option Entry) → synced_reply n m index e ≡ listed_reply n m index e
same_reply n m index (Some (Op r acknowledged)) = ap (λ a. reply n m true r.id a ∷ []) (same_answer m.lo m.hi (take index m.log) r.command)
same_reply n m index e = refl

abbrev pub due_below : MasterState → List ℕ
due_below m = filter (λ index. nat_lt index (synced m)) m.held

abbrev pub settled_with : ℕ → MasterState → List Message → Moved MasterState
settled_with n m replies = sends
    (record m {
      held = filter (λ index. not (nat_lt index (synced m))) m.held;
      captures = filter (λ c. not (is_ready m c)) m.captures;
      settled = synced m;
    })
    (replies ++ map (value_of n m) (filter (is_ready m) m.captures) ++ flat_map (moved_entry n) (between m.settled (synced m) m.log))

abbrev pub listed_settle : ℕ → MasterState → Moved MasterState
listed_settle n m = settled_with n m (flat_map (λ index. listed_reply n m index (slice_get m.log index)) (due_below m))

same_settle : (n : ℕ) (m : MasterState) → settle n m ≡ listed_settle n m
unfolding settle
same_settle n m = λ i. settled_with n m (flat_map (λ index. same_reply n m index (slice_get m.log index) i) (due_below m))

abbrev pub listed_goes_on : ℕ → MasterState → Phase → Moved MasterState
listed_goes_on n m Open = listed_settle n m
listed_goes_on n m (Switching s) = prepares n m s

same_goes_on : (n : ℕ) (m : MasterState) (p : Phase) → goes_on n m p ≡ listed_goes_on n m p
same_goes_on n m Open = same_settle n m
same_goes_on n m (Switching s) = refl

abbrev pub listed_appended : ℕ → MasterState → NodeId → ℕ → AppendAnswer → Moved MasterState
listed_appended n m from round (Stored long) =
    if is_among from (stored_on m)
    then listed_goes_on n (record m { acknowledged = raised m.acknowledged from long round }) m.phase
    else quiet m
listed_appended n m from round _ = quiet m

same_appended : (n : ℕ) (m : MasterState) (from : NodeId) (round : ℕ) (a : AppendAnswer) → on_appended n m from round a ≡ listed_appended n m from round a
unfolding on_appended
same_appended n m from round (Stored long) =
    ap (λ moved. if is_among from (stored_on m) then moved else quiet m) (same_goes_on n (record m { acknowledged = raised m.acknowledged from long round }) m.phase)
same_appended n m from round a = refl

abbrev pub listed_adopted : ℕ → MasterState → ℕ → Phase → Moved MasterState
listed_adopted n m version Open = quiet m
listed_adopted n m version (Switching s) =
    if s.version == version
    then listed_settle n (record m { version = s.version; backups = s.backups; witnesses = s.witnesses; phase = Open })
    else quiet m

same_adopted : (n : ℕ) (m : MasterState) (version : ℕ) (p : Phase) → adopted_in n m version p ≡ listed_adopted n m version p
same_adopted n m version Open = refl
same_adopted n m version (Switching s) =
    ap (λ moved. if s.version == version then moved else quiet m) (same_settle n (record m { version = s.version; backups = s.backups; witnesses = s.witnesses; phase = Open }))

-- ---- migrations

abbrev pub take_with : ℕ → MasterState → TakeOut → Package → Moved MasterState
take_with n m t carried =
    if is_covered (state_of m).owned t.lo t.hi
    then begins_round n (record m { log = m.log ++ Take t.migration carried ∷ [] })
    else quiet m

abbrev pub listed_push_take : ℕ → MasterState → TakeOut → Moved MasterState
listed_push_take n m t = take_with n m t (listed_package (listed_state m) t.lo t.hi t.ordered)

same_push_take : (n : ℕ) (m : MasterState) (t : TakeOut) → push_take n m t ≡ listed_push_take n m t
same_push_take n m t = ap (λ s. take_with n m t (listed_package s t.lo t.hi t.ordered)) (same_state m)

abbrev pub take_after_last : ℕ → MasterState → TakeOut → LastTake → Moved MasterState → Moved MasterState
take_after_last n m t last moved =
    if t.migration == last.migration
    then told_again n m last.index (says (master_node n) manager_node (body.Taken (record { migration = last.migration; «package» = last.taken })))
    else if nat_lt last.migration t.migration then moved
    else quiet m

abbrev pub listed_take_after : ℕ → MasterState → TakeOut → Option LastTake → Moved MasterState
listed_take_after n m t None = listed_push_take n m t
listed_take_after n m t (Some last) = take_after_last n m t last (listed_push_take n m t)

same_take_after : (n : ℕ) (m : MasterState) (t : TakeOut) (last : Option LastTake) → take_after n m t last ≡ listed_take_after n m t last
same_take_after n m t None = same_push_take n m t
same_take_after n m t (Some last) = ap (take_after_last n m t last) (same_push_take n m t)

abbrev pub listed_take_out : ℕ → MasterState → TakeOut → Moved MasterState
listed_take_out n m t = if is_open m.phase then listed_take_after n m t (state_of m).taken else quiet m

same_take_out : (n : ℕ) (m : MasterState) (t : TakeOut) → on_take n m t ≡ listed_take_out n m t
same_take_out n m t = ap (λ moved. if is_open m.phase then moved else quiet m) (same_take_after n m t (state_of m).taken)

-- ---- a serving master

abbrev pub listed_by_message : ℕ → MasterState → NodeId → Body → Moved MasterState
listed_by_message n m from (body.Update ask) = listed_update n m AtOnce ask
listed_by_message n m from (body.Sync ask) = listed_update n m WhenSynced ask
listed_by_message n m from (body.Read ask) = listed_read captures_value n m ask ask.request.command
listed_by_message n m from (body.Glance ask) = listed_read glances_value n m ask ask.request.command
listed_by_message n m from (body.Appended a) = listed_appended n m from a.round a.answer
listed_by_message n m from (body.Adopted a) = listed_adopted n m a.version m.phase
listed_by_message n m from (body.TakeOut t) = listed_take_out n m t
listed_by_message n m from b = by_message n m from b

same_by_message : (n : ℕ) (m : MasterState) (from : NodeId) (b : Body) → by_message n m from b ≡ listed_by_message n m from b
same_by_message n m from (body.Update ask) = same_update n m AtOnce ask
same_by_message n m from (body.Sync ask) = same_update n m WhenSynced ask
same_by_message n m from (body.Read ask) = same_read n m ask
same_by_message n m from (body.Glance ask) = same_glance n m ask
same_by_message n m from (body.Appended a) = same_appended n m from a.round a.answer
same_by_message n m from (body.Adopted a) = same_adopted n m a.version m.phase
same_by_message n m from (body.TakeOut t) = same_take_out n m t
same_by_message n m from b = refl

abbrev pub listed_serving : ℕ → MasterState → NodeId → Body → Moved MasterState
listed_serving n m from b = unless_it_ends m (listed_by_message n m from b)

same_serving : (n : ℕ) (m : MasterState) (from : NodeId) (b : Body) → on_serving n m from b ≡ listed_serving n m from b
unfolding on_serving
same_serving n m from b = ap (unless_it_ends m) (same_by_message n m from b)

-- ---- a recovering master

abbrev pub log_with : ℕ → RecoveryState → NodeId → List Entry → Option (List Request) → Bool → Moved RecoveryState
log_with n s from entries requests is = if same_node from s.order.backup && is then both_there n s.order (Some entries) requests else quiet s

abbrev pub listed_log_comes : ℕ → RecoveryState → NodeId → List Entry → RecoveryPhase → Moved RecoveryState
listed_log_comes n s from entries (Asking None requests) = log_with n s from entries requests (is_listed_log s.order.lo s.order.hi entries)
listed_log_comes n s from entries phase = quiet s

same_log_comes : (n : ℕ) (s : RecoveryState) (from : NodeId) (entries : List Entry) (phase : RecoveryPhase) → log_comes n s from entries phase ≡ listed_log_comes n s from entries phase
same_log_comes n s from entries (Asking None requests) = ap (log_with n s from entries requests) (same_log s.order.lo s.order.hi entries)
same_log_comes n s from entries phase = refl

abbrev pub listed_fence : ℕ → RecoveryState → NodeId → FenceReply → Moved RecoveryState
listed_fence n s from (Log entries) = listed_log_comes n s from entries s.phase
listed_fence n s from _ = quiet s

same_fence : (n : ℕ) (s : RecoveryState) (from : NodeId) (a : FenceReply) → fence_answered n s from a ≡ listed_fence n s from a
same_fence n s from (Log entries) = same_log_comes n s from entries s.phase
same_fence n s from a = refl

abbrev pub listed_recovering : ℕ → RecoveryState → NodeId → Body → Moved MasterStage
listed_recovering n s from (body.FenceAnswer a) = within recovery.Recovering (listed_fence n s from a.answer)
listed_recovering n s from b = on_recovering n s from b

same_recovering : (n : ℕ) (s : RecoveryState) (from : NodeId) (b : Body) → on_recovering n s from b ≡ listed_recovering n s from b
same_recovering n s from (body.FenceAnswer a) = ap (within recovery.Recovering) (same_fence n s from a.answer)
same_recovering n s from b = refl

-- ---- a master

abbrev pub listed_master : ℕ → MasterStage → NodeId → Body → Moved MasterStage
listed_master n (recovery.Recovering s) from b = listed_recovering n s from b
listed_master n (recovery.Serving m) from b = within recovery.Serving (listed_serving n m from b)
listed_master n recovery.Fresh from b = on_master n recovery.Fresh from b

pub same_master : (n : ℕ) (m : MasterStage) (from : NodeId) (b : Body) → on_master n m from b ≡ listed_master n m from b
unfolding on_master
same_master n (recovery.Recovering s) from b = same_recovering n s from b
same_master n (recovery.Serving m) from b = ap (within recovery.Serving) (same_serving n m from b)
same_master n recovery.Fresh from b = refl
