-- The recovering master (after CURP's recovery): it takes the log of one backup and the requests of one witness, which from
-- then on serve no superseded master, replays the requests behind the log, and stores the whole on fresh backups.
use Rattle.std.specs.Prelude.{ℕ, ◌+◌, ◌&&◌, nat_le, if◌then◌else◌, Bool, not, List, [], ◌∷◌, ◌++◌, length, Option, Some, None}
use Rattle.std.specs.List.{filter, list_all}
use Rattle.curp_base.specs.Words.{rises_past}
use Rattle.curp_cmd.specs.Hash.{hashes}
use Rattle.curp_cmd.specs.Node.{manager_node, master_node, is_among, same_node}
use Rattle.curp_cmd.specs.Store.{is_update}
use Rattle.curp_cmd.specs.declared.command.Request.{Request}
use Rattle.curp_cmd.specs.declared.command.RequestId.{RequestId}
use Rattle.curp_cmd.specs.declared.entry.Entry.{Entry}
use Rattle.curp_cmd.specs.declared.entry.Entry.TheVariants.{Op}
use Rattle.curp_cmd.specs.declared.node.NodeId.{NodeId}
use Rattle.curp_msg.specs.Moved.{Moved, quiet, sends, says, says_each, within}
use Rattle.curp_msg.specs.declared.answer.AppendAnswer.{AppendAnswer}
use Rattle.curp_msg.specs.declared.answer.AppendAnswer.TheVariants.{Stored}
use Rattle.curp_msg.specs.declared.answer.FenceReply.{FenceReply}
use Rattle.curp_msg.specs.declared.answer.FenceReply.TheVariants.{Log}
use Rattle.curp_msg.specs.declared.answer.Refusal.TheVariants as refusal
use Rattle.curp_msg.specs.declared.body.Body.{Body}
use Rattle.curp_msg.specs.declared.body.Body.TheVariants as body
use Rattle.curp_msg.specs.declared.body.Recover.{Recover}
use Rattle.curp_msg.specs.Input.{Input}
use Rattle.curp_msg.specs.Input as input
use Rattle.curp_msg.specs.declared.machine.Local.{Local}
use Rattle.curp_msg.specs.declared.machine.Local.TheVariants as local
use Rattle.curp_msg.specs.declared.message.Message.{Message}
use Rattle.curp_model.specs.Log.{LogState, meaning, is_log, is_new}
use Rattle.curp_model.specs.Master.{MasterState, beginning, last_round, on_serving, refuse, serving_ordered}
use Rattle.curp_model.specs.Ranges.{owns_all}
use Rattle.curp_model.specs.Table.{check}

-- ---- the replay

-- a request is replayed where all its hashes are owned and it is new over what stands so far
abbrev pub replays : LogState → Request → Bool
replays s r = owns_all s.owned (hashes r.command) && is_new (check s.table r.id)

-- a log, followed by each request that is replayed, in order, as an Op that acknowledges nothing
abbrev pub replay : ℕ → ℕ → List Entry → List Request → List Entry
replay lo hi log [] = log
replay lo hi log (r ∷ rs) =
    if replays (meaning lo hi log) r then replay lo hi (log ++ Op r 0 ∷ []) rs else replay lo hi log rs

-- ---- the state

-- the replayed log, the length of the log before the replay, the last round, and the fresh backups that have the whole log
pub record Replayed : Type 0 where
  pub log : List Entry
  pub cut : ℕ
  pub round : ℕ
  pub complete : List NodeId

-- first it asks for the log and the requests, then it stores, and then it waits to be adopted
pub data RecoveryPhase : Type 0 where
  Asking : Option (List Entry) → Option (List Request) → RecoveryPhase
  Storing : Replayed → RecoveryPhase
  Waiting : Replayed → RecoveryPhase

-- the order that it was given, and how far it is
pub record RecoveryState : Type 0 where
  pub order : Recover
  pub phase : RecoveryPhase

-- how far a master is: fresh until it gets its order, recovering then, and serving once it is adopted
pub data MasterStage : Type 0 where
  Fresh : MasterStage
  Recovering : RecoveryState → MasterStage
  Serving : MasterState → MasterStage

-- ---- asking

-- the backup is asked for its log
abbrev pub fence_of : ℕ → Recover → List Message
fence_of n o = says (master_node n) o.backup (body.Fence o.epoch) ∷ []

-- the witness is asked for what it holds
abbrev pub freeze_of : ℕ → Recover → List Message
freeze_of n o = says (master_node n) o.witness (body.Freeze o.epoch) ∷ []

-- it asks the named backup and the named witness
unfoldable pub on_recover : ℕ → Recover → Moved RecoveryState
on_recover n o = sends (record { order = o; phase = Asking None None }) (fence_of n o ++ freeze_of n o)

-- ---- storing

-- the whole log to each of these backups
abbrev pub appends_whole : ℕ → Recover → Replayed → List NodeId → List Message
appends_whole n o r backups =
    says_each (master_node n) backups (body.Append (record { epoch = o.epoch; base = 0; round = r.round; entries = r.log }))

-- the manager is told that all is stored
abbrev pub recovered_message : ℕ → Recover → List Message
recovered_message n o = says (master_node n) manager_node (body.Recovered (record { part = o.part; epoch = o.epoch })) ∷ []

-- once both answers are there, the replayed log goes to each fresh backup, in round 1
abbrev pub both_there : ℕ → Recover → Option (List Entry) → Option (List Request) → Moved RecoveryState
both_there n o (Some log) (Some requests) =
    let r : Replayed = record { log = replay o.lo o.hi log requests; cut = length log; round = 1; complete = [] } in
    sends (record { order = o; phase = Storing r }) (appends_whole n o r o.backups)
both_there n o log requests = quiet (record { order = o; phase = Asking log requests })

-- the log of the named backup, where it is a log; else it counts as not delivered
abbrev pub log_comes : ℕ → RecoveryState → NodeId → List Entry → RecoveryPhase → Moved RecoveryState
log_comes n s from entries (Asking None requests) =
    if same_node from s.order.backup && is_log s.order.lo s.order.hi entries then both_there n s.order (Some entries) requests else quiet s
log_comes n s from entries _ = quiet s

-- the requests of the named witness
abbrev pub requests_come : ℕ → RecoveryState → NodeId → List Request → RecoveryPhase → Moved RecoveryState
requests_come n s from rs (Asking log None) = if same_node from s.order.witness then both_there n s.order log (Some rs) else quiet s
requests_come n s from rs _ = quiet s

-- a fresh backup has the whole log
abbrev pub with_complete : Replayed → NodeId → Replayed
with_complete r from = if is_among from r.complete then r else record r { complete = r.complete ++ from ∷ [] }

-- all fresh backups have the whole log
abbrev pub all_complete : Recover → Replayed → Bool
all_complete o r = list_all (λ b. is_among b r.complete) o.backups

-- when all fresh backups have the whole log, it says so to the manager
abbrev pub completed_by : ℕ → Recover → Replayed → Moved RecoveryState
completed_by n o r =
    if all_complete o r
    then sends (record { order = o; phase = Waiting r }) (recovered_message n o)
    else quiet (record { order = o; phase = Storing r })

-- a fresh backup has so much of the log
abbrev pub stored_comes : ℕ → RecoveryState → NodeId → ℕ → RecoveryPhase → Moved RecoveryState
stored_comes n s from long (Storing r) =
    if is_among from s.order.backups && nat_le (length r.log) long then completed_by n s.order (with_complete r from) else quiet s
stored_comes n s from long _ = quiet s

-- ---- again

-- the fence again, where the log is not there yet
abbrev pub unanswered_log : ℕ → Recover → Option (List Entry) → List Message
unanswered_log n o None = fence_of n o
unanswered_log n o (Some log) = []

-- the freeze again, where the requests are not there yet
abbrev pub unanswered_requests : ℕ → Recover → Option (List Request) → List Message
unanswered_requests n o None = freeze_of n o
unanswered_requests n o (Some requests) = []

-- a new round of storing
abbrev pub next_storing : Replayed → Replayed
next_storing r = record r { round = r.round + 1 }

-- what the phase waits for is sent again; appends in a new round, which isn't begun where its number would pass 2^64 - 1
abbrev pub again_in : ℕ → RecoveryState → RecoveryPhase → Moved RecoveryState
again_in n s (Asking log requests) = sends s (unanswered_log n s.order log ++ unanswered_requests n s.order requests)
again_in n s (Storing r) =
    if rises_past last_round r.round (r.round + 1)
    then quiet s
    else sends (record s { phase = Storing (next_storing r) })
    (appends_whole n s.order (next_storing r) (filter (λ b. not (is_among b r.complete)) s.order.backups))
again_in n s (Waiting r) = sends s (recovered_message n s.order)

-- ---- the master as a node

-- a request is refused as switching
abbrev pub turns_away : ℕ → MasterStage → RequestId → Moved MasterStage
turns_away n m id = sends m (refuse n id refusal.Switching ∷ [])

-- and so is a read, where its command is a Get; else it isn't heard
abbrev pub turns_read_away : ℕ → MasterStage → Request → Moved MasterStage
turns_read_away n m r = if is_update r.command then quiet m else turns_away n m r.id

-- a fresh master takes its order, and refuses requests
abbrev pub on_fresh : ℕ → Body → Moved MasterStage
on_fresh n (body.Recover o) = within Recovering (on_recover n o)
on_fresh n (body.Update ask) = turns_away n Fresh ask.request.id
on_fresh n (body.Sync ask) = turns_away n Fresh ask.request.id
on_fresh n (body.Read ask) = turns_read_away n Fresh ask.request
on_fresh n (body.Glance ask) = turns_read_away n Fresh ask.request
on_fresh n _ = quiet Fresh

-- the backup answers the fence
abbrev pub fence_answered : ℕ → RecoveryState → NodeId → FenceReply → Moved RecoveryState
fence_answered n s from (Log entries) = log_comes n s from entries s.phase
fence_answered n s from _ = quiet s

-- a backup answers an append
abbrev pub append_answered : ℕ → RecoveryState → NodeId → AppendAnswer → Moved RecoveryState
append_answered n s from (Stored long) = stored_comes n s from long s.phase
append_answered n s from _ = quiet s

-- it begins to serve with the replayed log
abbrev pub serves : RecoveryState → RecoveryPhase → MasterStage
serves s (Waiting r) =
    Serving (beginning s.order.part s.order.epoch s.order.version s.order.backups s.order.witnesses s.order.lo s.order.hi r.log r.round)
serves s _ = Recovering s

-- a message comes to a recovering master
abbrev pub on_recovering : ℕ → RecoveryState → NodeId → Body → Moved MasterStage
on_recovering n s from (body.FenceAnswer a) = within Recovering (fence_answered n s from a.answer)
on_recovering n s from (body.FrozenAnswer requests) = within Recovering (requests_come n s from requests s.phase)
on_recovering n s from (body.Appended a) = within Recovering (append_answered n s from a.answer)
on_recovering n s from (body.Adopted a) = quiet (serves s s.phase)
on_recovering n s from (body.Update ask) = turns_away n (Recovering s) ask.request.id
on_recovering n s from (body.Sync ask) = turns_away n (Recovering s) ask.request.id
on_recovering n s from (body.Read ask) = turns_read_away n (Recovering s) ask.request
on_recovering n s from (body.Glance ask) = turns_read_away n (Recovering s) ask.request
on_recovering n s from _ = quiet (Recovering s)

-- a message comes to master n
unfoldable pub on_master : ℕ → MasterStage → NodeId → Body → Moved MasterStage
on_master n Fresh from b = on_fresh n b
on_master n (Recovering s) from b = on_recovering n s from b
on_master n (Serving m) from b = within Serving (on_serving n m from b)

-- an order comes to a recovering master
abbrev pub recovery_ordered : ℕ → RecoveryState → Local → Moved RecoveryState
recovery_ordered n s local.Sync = again_in n s s.phase
recovery_ordered n s _ = quiet s

-- master n gets an order. A fresh one ignores all
unfoldable pub master_ordered : ℕ → MasterStage → Local → Moved MasterStage
master_ordered n Fresh order = quiet Fresh
master_ordered n (Recovering s) order = within Recovering (recovery_ordered n s order)
master_ordered n (Serving m) order = within Serving (serving_ordered n m order)

-- an input comes to master n
abbrev pub master_input : ℕ → MasterStage → Input → Moved MasterStage
master_input n m (input.Local order) = master_ordered n m order
master_input n m (input.Message message) = on_master n m message.from message.body
