-- The world: one state a node, every message that was ever sent, and the history. A message is lost where no step delivers
-- it; it may be delivered often, and in any order (this project's own).
use Rattle.std.specs.Prelude.{ℕ, ◌+◌, ◌-◌, ◌*◌, ◌^◌, ◌==◌, nat_lt, min, if◌then◌else◌, Bool, false, not, List, [], ◌∷◌, ◌++◌, length, map, drop, replicate, slice_set, Option, Some, None, is_some, fold, ◌&&◌}
use Rattle.std.specs.List.{filter, sum, list_any, list_all}
use Rattle.curp_base.specs.Cases.{first_case, only_if}
use Rattle.curp_base.specs.Words.{all_of, numbered, numbers_from}
use Rattle.curp_cmd.specs.Node.{client_node, manager_node, master_node, same_node}
use Rattle.curp_cmd.specs.declared.command.Answer.{Answer}
use Rattle.curp_cmd.specs.declared.command.Command.{Command}
use Rattle.curp_cmd.specs.declared.command.Request.{Request}
use Rattle.curp_cmd.specs.declared.command.RequestId.{RequestId}
use Rattle.curp_cmd.specs.declared.entry.Entry.{Entry}
use Rattle.curp_cmd.specs.declared.entry.Entry.TheVariants.{Op}
use Rattle.curp_cmd.specs.declared.node.NodeId.{NodeId}
use Rattle.curp_cmd.specs.declared.node.NodeKind.TheVariants as kind
use Rattle.curp_cmd.specs.declared.node.NodeKind.{NodeKind}
use Rattle.curp_msg.specs.Limits.{weight_limit}
use Rattle.curp_msg.specs.Moved.{Moved, quiet, within}
use Rattle.curp_msg.specs.Weight.{weight_of}
use Rattle.curp_msg.specs.declared.machine.Completed.{Completed}
use Rattle.curp_msg.specs.Input.{Input}
use Rattle.curp_msg.specs.Input as input
use Rattle.curp_msg.specs.declared.machine.Local.{Local}
use Rattle.curp_msg.specs.declared.machine.Local.TheVariants as local
use Rattle.curp_msg.specs.declared.message.Message.{Message}
use Rattle.curp_msg.specs.declared.outcome.Outcome.{Outcome}
use Rattle.curp_msg.specs.declared.outcome.StepResult.{StepResult}
use Rattle.curp_msg.specs.declared.outcome.StepResult.TheVariants as result
use Rattle.curp_msg.specs.declared.script.Header.{Header}
use Rattle.curp_msg.specs.declared.script.Step.{Step}
use Rattle.curp_msg.specs.declared.script.Step.TheVariants as steps
use Rattle.curp_order.specs.Order.{answers}
use Rattle.curp_order.specs.declared.Event.{Event}
use Rattle.curp_order.specs.declared.Event.TheVariants as event
use Rattle.curp_model.specs.Backup.{BackupState, fresh_backup, installed_backup, backup_input}
use Rattle.curp_model.specs.Client.{ClientState, fresh_client, next_id, client_input}
use Rattle.curp_model.specs.Manager.{ManagerState, Attempted, Shape, adoption, opening_manager, opening_config, opening_part, manager_input}
use Rattle.curp_model.specs.Marks as mark
use Rattle.curp_model.specs.Marks.{Mark}
use Rattle.curp_model.specs.Master.{MasterState, Captured, beginning}
use Rattle.curp_model.specs.Ranges.{opening_range}
use Rattle.curp_model.specs.Recovery.{MasterStage, Fresh, Recovering, Serving, RecoveryPhase, Asking, Storing, Waiting, Replayed, master_input}
use Rattle.curp_model.specs.Witness.{WitnessState, fresh_witness, started_witness, witness_input}
use Rattle.curp_msg.specs.declared.body.Body.{Body}
use Rattle.curp_msg.specs.declared.body.Body.TheVariants as body

-- ---- the state

-- Nodes of each kind are numbered from 1. `stopped` are those that get nothing any more: their last states stay. `sent` has
-- the messages of each step that sent some
pub record World : Type 0 where
  pub clients : List ClientState
  pub manager : ManagerState
  pub masters : List MasterStage
  pub backups : List BackupState
  pub witnesses : List WitnessState
  pub sets : ℕ
  pub ways : ℕ
  pub stopped : List NodeId
  pub sent : List (List Message)
  pub history : List Event
  pub marks : List Mark

-- ---- at opening

-- what the manager knows of a header
abbrev pub shape_of : Header → Shape
shape_of h = record { f = h.f; parts = h.parts; clients = h.clients }

-- the master of partition p, before anything was asked
abbrev pub opening_master : Shape → ℕ → MasterStage
opening_master s p =
    let c = opening_part s p in
    Serving (beginning p 1 1 c.backups c.witnesses (opening_range s.parts p).lo (opening_range s.parts p).hi [] 0)

-- a client of the header, before it invokes anything
abbrev pub opening_client : Header → ClientState
opening_client h = fresh_client h.fast h.protocol (opening_config (shape_of h))

-- the world of a header before any step
unfoldable pub opening : Header → World
opening h = record {
  clients = replicate h.clients (opening_client h);
  manager = opening_manager (shape_of h);
  masters = map (opening_master (shape_of h)) (numbers_from 1 h.parts);
  backups = replicate (h.parts * h.f) (installed_backup 1);
  witnesses = replicate (h.parts * h.f) (started_witness h.sets h.ways 1);
  sets = h.sets;
  ways = h.ways;
  stopped = [];
  sent = [];
  history = [];
  marks = [];
}

-- ---- messages

-- every message that was ever sent, the newest last. They are numbered from 1
abbrev pub messages : World → List Message
messages w = all_of w.sent

-- the weight of all messages that were ever sent stands still at 2^64 - 1
unfoldable pub weight : World → ℕ
weight w = min (sum (map weight_of (messages w))) (2 ^ 64 - 1)

-- the number that the next message gets
abbrev pub next_number : World → ℕ
next_number w = length (messages w) + 1

-- what a step sent is kept, if it sent anything
abbrev pub with_batch : List (List Message) → List Message → List (List Message)
with_batch sent [] = sent
with_batch sent (m ∷ more) = sent ++ (m ∷ more) ∷ []

-- the messages of the step whose first message has the number `first`, where those of `sent` are numbered from n on
abbrev pub sent_at : ℕ → List (List Message) → ℕ → List Message
sent_at n [] first = []
sent_at n (xs ∷ rest) first = if n == first then xs else sent_at (n + length xs) rest first

-- ---- marks

-- the Ops that entries have, from an index on, as marks
abbrev pub op_marks : NodeId → ℕ → ℕ → ℕ → List Entry → List Mark
op_marks node part epoch index [] = []
op_marks node part epoch index (Op r acknowledged ∷ es) = mark.executed node part epoch index r.id r.command ∷ op_marks node part epoch (index + 1) es
op_marks node part epoch index (e ∷ es) = op_marks node part epoch (index + 1) es

-- the captures that came behind a number
abbrev pub new_captures : ℕ → List Captured → List Captured
new_captures last captures = filter (λ c. nat_lt last c.number) captures

-- the mark of a capture
abbrev pub capture_mark : NodeId → ℕ → ℕ → Captured → Mark
capture_mark node part epoch c = mark.looked node part epoch c.number c.length c.id c.command

-- what a master pushed and captured
abbrev pub pushed_marks : NodeId → MasterState → MasterState → List Mark
pushed_marks node before after =
    op_marks node after.part after.epoch (length before.log) (drop (length before.log) after.log)
    ++ map (capture_mark node after.part after.epoch) (new_captures before.captured after.captures)

-- what a serving master left to be marked
abbrev pub master_marks : NodeId → MasterStage → MasterStage → List Mark
master_marks node (Serving before) (Serving after) = pushed_marks node before after
master_marks node _ _ = []

-- the request that a message has glanced at, where it was captured and no round began
abbrev pub glance_in : Body → MasterState → MasterState → List Request
glance_in (body.Glance ask) before after =
    if nat_lt before.captured after.captured && (after.round == before.round) then ask.request ∷ [] else []
glance_in _ before after = []

-- the mark of a read that was answered at once
abbrev pub quick_mark : NodeId → MasterState → Request → Mark
quick_mark node after r = mark.quick node after.part after.epoch after.captured r.id r.command

-- a read that a serving master has answered at once is marked
abbrev pub with_glance : NodeId → Input → MasterStage → MasterStage → List Mark → List Mark
with_glance node (input.Message m) (Serving before) (Serving after) marks =
    fold (λ ms r. mark.with_quick (quick_mark node after r) ms) marks (glance_in m.body before after)
with_glance node _ _ _ marks = marks

-- it stands in its partition's adopted entry
abbrev pub is_adopted : ManagerState → NodeId → Bool
is_adopted g master = list_any (λ c. same_node c.master master) g.config.parts

-- the requests that entries have
abbrev pub op_requests : List Entry → List Request
op_requests [] = []
op_requests (Op r acknowledged ∷ es) = r ∷ op_requests es
op_requests (e ∷ es) = op_requests es

-- what a recovery has replayed, once it has
abbrev pub replayed_in : RecoveryPhase → Option Replayed
replayed_in (Asking log requests) = None
replayed_in (Storing r) = Some r
replayed_in (Waiting r) = Some r

-- the marks after a recovery was adopted that has replayed this
abbrev pub marks_after : Attempted → Option Replayed → List Mark → List Mark
marks_after a None marks = marks
marks_after a (Some r) marks = mark.adopted a.master a.order.part a.order.epoch r.cut (op_requests (drop r.cut r.log)) marks

-- an adopted recovery drops marks, and adds those of what its master replayed
abbrev pub marks_adopted : Attempted → Option MasterStage → List Mark → List Mark
marks_adopted a (Some (Recovering s)) marks = marks_after a (replayed_in s.phase) marks
marks_adopted a _ marks = marks

-- the marks after an input to the manager, by the recovery that it adopts in that step, if it does
abbrev pub with_adoption : List MasterStage → Option Attempted → List Mark → List Mark
with_adoption masters None marks = marks
with_adoption masters (Some a) marks = marks_adopted a (numbered masters a.master.number) marks

-- a completion flags its mark
abbrev pub with_completion : Option Completed → List Mark → List Mark
with_completion None marks = marks
with_completion (Some c) marks = mark.flagged c marks

-- ---- one node alone has a new state

-- client n has moved
abbrev pub with_client : World → ℕ → ClientState → World
with_client w n c = record w { clients = slice_set w.clients (n - 1) c }

-- backup n has moved
abbrev pub with_backup : World → ℕ → BackupState → World
with_backup w n b = record w { backups = slice_set w.backups (n - 1) b }

-- witness n has moved
abbrev pub with_witness : World → ℕ → WitnessState → World
with_witness w n x = record w { witnesses = slice_set w.witnesses (n - 1) x }

-- Master n has moved by an input. What an adopted master pushed and captured is marked, and what any master has answered at once
abbrev pub with_master : World → ℕ → Input → MasterStage → MasterStage → World
with_master w n given before after = record w {
  masters = slice_set w.masters (n - 1) after;
  marks = with_glance (master_node n) given before after
      (if is_adopted w.manager (master_node n) then w.marks ++ master_marks (master_node n) before after else w.marks);
}

-- fresh nodes up to a number that was given
abbrev pub grown : {S : Type 0} → List S → S → ℕ → List S
grown nodes fresh next = nodes ++ replicate ((next - 1) - length nodes) fresh

-- the manager has moved, and may have adopted a recovery. The fresh nodes that its step names exist from then on
abbrev pub with_manager : World → Option Attempted → ManagerState → World
with_manager w adopted g = record w {
  manager = g;
  masters = grown w.masters Fresh g.next.master;
  backups = grown w.backups fresh_backup g.next.backup;
  witnesses = grown w.witnesses (fresh_witness w.sets w.ways) g.next.witness;
  marks = with_adoption w.masters adopted w.marks;
}

-- ---- an input comes to a node

-- to one of the nodes of a kind, if it is there
abbrev pub moves_one : {S : Type 0} → World → (S → Moved World) → Option S → Moved World
moves_one w move None = quiet w
moves_one w move (Some s) = move s

-- by the kind and the number of the node
abbrev pub moves_kind : World → NodeKind → ℕ → Input → Moved World
moves_kind w kind.Manager n given = within (with_manager w (adoption w.manager given)) (manager_input w.manager given)
moves_kind w kind.Client n given = moves_one w (λ c. within (with_client w n) (client_input n c given)) (numbered w.clients n)
moves_kind w kind.Master n given = moves_one w (λ m. within (with_master w n given m) (master_input n m given)) (numbered w.masters n)
moves_kind w kind.Backup n given = moves_one w (λ b. within (with_backup w n) (backup_input n b given)) (numbered w.backups n)
moves_kind w kind.Witness n given = moves_one w (λ x. within (with_witness w n) (witness_input n x given)) (numbered w.witnesses n)

-- a node gets an input, and its state alone changes, by its machine
abbrev pub moves : World → NodeId → Input → Moved World
moves w node given = moves_kind w node.kind node.number given

-- ---- what a step is to do

-- it gives a node an input, it stops a node, or nothing, where no message of its number was sent
pub data Deed : Type 0 where
  Nothing : Deed
  Gives : (to : NodeId) (given : Input) → Deed
  Stops : (node : NodeId) → Deed

-- a message that was sent comes to its addressee
abbrev pub delivery : Option Message → Deed
delivery None = Nothing
delivery (Some m) = Gives m.to (input.Message m)

-- the kind of node that an order is for
abbrev pub taker_of : Local → NodeKind
taker_of (local.Invoke command) = kind.Client
taker_of (local.Retry seq) = kind.Client
taker_of local.Fetch = kind.Client
taker_of local.Sync = kind.Master
taker_of local.Collect = kind.Master
taker_of (local.Recover part backup witness) = kind.Manager
taker_of (local.Replace keeper part place) = kind.Manager
taker_of (local.Migrate lo hi to) = kind.Manager
taker_of local.Nudge = kind.Manager
taker_of (local.Expire client) = kind.Manager

-- an order to the node of that number, of the kind that it is for
abbrev pub orders : ℕ → Local → Deed
orders n order = Gives (record { kind = taker_of order; number = n }) (input.Local order)

-- what a step of a script is to do, where these messages were sent before it. The manager has the number 0
abbrev pub deed_by : List Message → Step → Deed
deed_by sent (steps.Invoke n command) = orders n (local.Invoke command)
deed_by sent (steps.Deliver number) = delivery (numbered sent number)
deed_by sent (steps.Retry n seq) = orders n (local.Retry seq)
deed_by sent (steps.Fetch n) = orders n local.Fetch
deed_by sent (steps.Sync n) = orders n local.Sync
deed_by sent (steps.Collect n) = orders n local.Collect
deed_by sent (steps.Recover part backup witness) = orders 0 (local.Recover part backup witness)
deed_by sent (steps.Replace keeper part place) = orders 0 (local.Replace keeper part place)
deed_by sent (steps.Migrate lo hi to) = orders 0 (local.Migrate lo hi to)
deed_by sent steps.Nudge = orders 0 local.Nudge
deed_by sent (steps.Expire n) = orders 0 (local.Expire n)
deed_by sent (steps.Stop node) = Stops node

-- what it is to do in a world
abbrev pub deed_of : World → Step → Deed
deed_of w s = deed_by (messages w) s

-- the order that a deed gives, and to which node
abbrev pub order_in : Deed → Option (NodeId × Local)
order_in (Gives to (input.Local order)) = Some (to, order)
order_in (Gives to (input.Message m)) = None
order_in Nothing = None
order_in (Stops node) = None

-- the order that a step gives, and to which node; a delivery and a stop give none, whatever was sent
abbrev pub order_of : Step → Option (NodeId × Local)
order_of s = order_in (deed_by [] s)

-- ---- why a step can't be made

-- there is a node of that kind and number; the manager has the number 0
abbrev pub is_there : World → NodeKind → ℕ → Bool
is_there w kind.Manager n = n == 0
is_there w kind.Client n = is_some (numbered w.clients n)
is_there w kind.Master n = is_some (numbered w.masters n)
is_there w kind.Backup n = is_some (numbered w.backups n)
is_there w kind.Witness n = is_some (numbered w.witnesses n)

-- there is a node of that name
abbrev pub has_node : World → NodeId → Bool
has_node w node = is_there w node.kind node.number

-- the node that a deed is about
abbrev pub subject : Deed → List NodeId
subject Nothing = []
subject (Gives to given) = to ∷ []
subject (Stops node) = node ∷ []

-- the nodes that a step names: the one that its deed is about, and the client that it declares gone
abbrev pub named_by : World → Step → List NodeId
named_by w (steps.Expire n) = client_node n ∷ manager_node ∷ []
named_by w s = subject (deed_of w s)

-- no message of its number was sent
abbrev pub is_lost : World → Step → Bool
is_lost w (steps.Deliver number) = not (is_some (numbered (messages w) number))
is_lost w s = false

-- a node that it names isn't there
abbrev pub names_nobody : World → Step → Bool
names_nobody w s = not (list_all (has_node w) (named_by w s))

-- it would stop the manager
abbrev pub stops_manager : Step → Bool
stops_manager (steps.Stop node) = same_node node manager_node
stops_manager s = false

-- the node is stopped
abbrev pub is_stopped : World → NodeId → Bool
is_stopped w node = list_any (same_node node) w.stopped

-- the node that its deed is about is stopped
abbrev pub names_stopped : World → Step → Bool
names_stopped w s = list_any (is_stopped w) (subject (deed_of w s))

-- it gives a node something, and the messages weigh too much for that
abbrev pub is_too_much : World → Deed → Bool
is_too_much w (Gives to given) = nat_lt weight_limit (weight w)
is_too_much w _ = false

-- what its deed would do to the world
abbrev pub effect : World → Deed → Moved World
effect w Nothing = quiet w
effect w (Gives to given) = moves w to given
effect w (Stops node) = quiet (record w { stopped = w.stopped ++ node ∷ [] })

-- the number by which the node refuses the order, else 0
abbrev pub refusal : World → Step → ℕ
refusal w s = (effect w (deed_of w s)).refused

-- the result of a step: the first of these that holds
abbrev pub result_of : World → Step → StepResult
result_of w s = first_case (
    only_if (is_lost w s) result.NoMessage
    ∷ only_if (names_nobody w s) result.NoNode
    ∷ only_if (stops_manager s) result.Manager
    ∷ only_if (names_stopped w s) result.Gone
    ∷ only_if (is_too_much w (deed_of w s)) (result.Full (weight w))
    ∷ only_if (not (refusal w s == 0)) (result.Refused (refusal w s))
    ∷ []) result.Done

-- ---- one step, and a run

-- the world after a step, and what the step did
pub record Stepped : Type 0 where
  pub world : World
  pub outcome : Outcome

-- a step that can't be made changes nothing
abbrev pub refused : World → StepResult → Stepped
refused w why = record { world = w; outcome = record { result = why; first = next_number w; sent = 0; completed = None } }

-- an order to invoke goes into the history, with the next id of its client
abbrev pub invocation_of : NodeId → Option ClientState → Input → List Event
invocation_of to (Some c) (input.Local (local.Invoke command)) = event.Invoke (next_id to.number c) command ∷ []
invocation_of to _ _ = []

-- what goes into the history before anything completes
abbrev pub events_of : World → Deed → List Event
events_of w (Gives to given) = invocation_of to (numbered w.clients to.number) given
events_of w _ = []

-- the event of a completion
abbrev pub completion : Option Completed → List Event
completion None = []
completion (Some c) = event.Complete c.id c.answer ∷ []

-- what was sent is kept, and what was invoked and completed goes into the history
abbrev pub kept : World → List Event → Moved World → Stepped
kept w events moved = record {
  world = record moved.state {
    sent = with_batch w.sent moved.messages;
    history = (w.history ++ events) ++ completion moved.completed;
    marks = with_completion moved.completed moved.state.marks;
  };
  outcome = record { result = result.Done; first = next_number w; sent = length moved.messages; completed = moved.completed };
}

-- by the result: the deed is done, or nothing
abbrev pub steps_by : World → Deed → StepResult → Stepped
steps_by w deed result.Done = kept w (events_of w deed) (effect w deed)
steps_by w deed why = refused w why

-- what one step of a script does
unfoldable pub step : World → Step → Stepped
step w s = steps_by w (deed_of w s) (result_of w s)

-- the world after steps
abbrev pub run : World → List Step → World
run w [] = w
run w (s ∷ ss) = run (step w s).world ss

-- the world of a header after steps
abbrev pub world : Header → List Step → World
world h steps = run (opening h) steps

-- ---- the order

-- the order that the world shows
abbrev pub order : World → List (RequestId × Command)
order w = mark.shown w.marks

-- each request of the order with the answer of one thread
abbrev pub with_answers : List (RequestId × Command) → List Answer → List (RequestId × Command × Answer)
with_answers [] answered = []
with_answers (o ∷ os) [] = []
with_answers (o ∷ os) (a ∷ answered) = (o.0, o.1, a) ∷ with_answers os answered

-- the order with its answers, as it is printed
abbrev pub answered_order : World → List (RequestId × Command × Answer)
answered_order w = with_answers (order w) (answers (order w))
