-- What one input does to a client, by the messages that came to it and the lists that were adopted.
use Rattle.std.specs.Prelude.{◌≡◌, ◌⊎◌, ℕ, ◌++◌, true, false, List, Option, Some, None, ⊤}
use Rattle.curp_base.specs.Words.{At, Each}
use Rattle.curp_cmd.specs.Node.{client_node, manager_node}
use Rattle.curp_cmd.specs.Store.{is_update}
use Rattle.curp_cmd.specs.declared.command.Answer.{Answer}
use Rattle.curp_cmd.specs.declared.command.Request.{Request}
use Rattle.curp_cmd.specs.declared.command.RequestId.{RequestId}
use Rattle.curp_cmd.specs.declared.node.NodeId.{NodeId}
use Rattle.curp_msg.specs.Moved.{Moved}
use Rattle.curp_msg.specs.declared.body.Ask.{Ask}
use Rattle.curp_msg.specs.declared.body.Body.{Body}
use Rattle.curp_msg.specs.declared.body.Body.TheVariants as body
use Rattle.curp_msg.specs.declared.body.Record.{Record}
use Rattle.curp_msg.specs.declared.body.Reply.{Reply}
use Rattle.curp_msg.specs.declared.body.Worth.{Worth}
use Rattle.curp_msg.specs.declared.config.PartConfig.{PartConfig}
use Rattle.curp_msg.specs.declared.machine.Capture.{Capture}
use Rattle.curp_msg.specs.declared.machine.Completed.{Completed}
use Rattle.curp_msg.specs.Input.{Input}
use Rattle.curp_msg.specs.Input as input
use Rattle.curp_msg.specs.declared.message.Message.{Message}
use Rattle.curp_order.specs.Order.{IsHistory}
use Rattle.curp_order.specs.declared.Event.{Event}
use Rattle.curp_model.specs.Client.{ClientState, Pending}
use Rattle.curp_model.specs.World.{completion, invocation_of}
use Rattle.curp_facts.specs.Facts.{IsAmong}
use Rattle.curp_facts.specs.ClientNumbers.{IsAsked, RequestInvoked, ClientNumbersOk}
use Rattle.curp_facts.specs.Evidence.{KnowledgeOk}
use Rattle.curp_msg.specs.declared.body.Quick.{Quick}
use Rattle.curp_msg.specs.declared.body.Probe.{Probe}

-- ---- what comes

-- a configuration has adopted entries, and what a witness rejects is an update
abbrev pub SuitsClient : (PartConfig → Type 0) → List Event → Body → Type 0
SuitsClient Adopted events (body.Configuration config) = Each Adopted config.parts
SuitsClient Adopted events (body.Rejected r) = (q : Request) → q.id ≡ r.id → RequestInvoked events q → is_update q.command ≡ true
SuitsClient Adopted events _ = ⊤

-- an order, or a message that came and suits
abbrev pub InputSuitsClient : (NodeId → Body → Type 0) → (PartConfig → Type 0) → List Event → Input → Type 0
InputSuitsClient Came Adopted events (input.Local order) = ⊤
InputSuitsClient Came Adopted events (input.Message m) = Came m.from m.body × SuitsClient Adopted events m.body

-- ---- what it says

-- a request that was asked goes to the master of an adopted entry, with its epoch and version
pub record AskSays (Adopted : PartConfig → Type 0) (n : ℕ) (events : List Event) (to : NodeId) (ask : Ask) : Type 0 where
  pub asked : IsAsked n events ask.request
  pub part : PartConfig
  pub adopted : Adopted part
  pub addressed : to ≡ part.master
  pub epoch : ask.epoch ≡ part.epoch
  pub version : ask.version ≡ part.version

-- a request that was asked goes to a witness of an adopted entry, with its epoch
pub record RecordSays (Adopted : PartConfig → Type 0) (n : ℕ) (events : List Event) (to : NodeId) (r : Record) : Type 0 where
  pub asked : IsAsked n events r.request
  pub part : PartConfig
  pub adopted : Adopted part
  pub addressed : IsAmong to part.witnesses
  pub epoch : r.epoch ≡ part.epoch

-- a probe of a request that was asked goes to a witness of an adopted entry, with its epoch
pub record ProbeSays (Adopted : PartConfig → Type 0) (n : ℕ) (events : List Event) (to : NodeId) (a : Probe) : Type 0 where
  pub request : Request
  pub its_id : request.id ≡ a.id
  pub asked : IsAsked n events request
  pub reads : is_update request.command ≡ false
  pub part : PartConfig
  pub adopted : Adopted part
  pub addressed : IsAmong to part.witnesses
  pub epoch : a.epoch ≡ part.epoch

-- updates go to masters and witnesses, reads to masters, and the manager is asked for the configuration
abbrev pub ClientAsks : (PartConfig → Type 0) → ℕ → List Event → NodeId → Body → Type 0
ClientAsks Adopted n events to (body.Update ask) = AskSays Adopted n events to ask × (is_update ask.request.command ≡ true)
ClientAsks Adopted n events to (body.Sync ask) = AskSays Adopted n events to ask × (is_update ask.request.command ≡ true)
ClientAsks Adopted n events to (body.Read ask) = AskSays Adopted n events to ask × (is_update ask.request.command ≡ false)
ClientAsks Adopted n events to (body.Glance ask) = AskSays Adopted n events to ask × (is_update ask.request.command ≡ false)
ClientAsks Adopted n events to (body.Probe a) = ProbeSays Adopted n events to a
ClientAsks Adopted n events to (body.Record r) = RecordSays Adopted n events to r × (is_update r.request.command ≡ true)
ClientAsks Adopted n events to body.Fetch = to ≡ manager_node
ClientAsks Adopted n events to _ = ⊥

-- a message of client n
pub record ClientSays (Adopted : PartConfig → Type 0) (n : ℕ) (events : List Event) (m : Message) : Type 0 where
  pub sender : m.from ≡ client_node n
  pub says_so : ClientAsks Adopted n events m.to m.body

-- ---- what completes

-- a synced reply with that answer came
pub record BySynced (Came : NodeId → Body → Type 0) (id : RequestId) (a : Answer) : Type 0 where
  pub from : NodeId
  pub reply : Reply
  pub came : Came from (body.Reply reply)
  pub its_id : reply.id ≡ id
  pub its_answer : reply.answer ≡ a
  pub is_synced : reply.synced ≡ true

-- an unsynced one came from the master of an adopted entry, of its epoch and version, and an accept at that epoch from each of
-- its witnesses
pub record ByAccepts (Came : NodeId → Body → Type 0) (Adopted : PartConfig → Type 0) (id : RequestId) (a : Answer) : Type 0 where
  pub part : PartConfig
  pub adopted : Adopted part
  pub reply : Reply
  pub came : Came part.master (body.Reply reply)
  pub its_id : reply.id ≡ id
  pub its_answer : reply.answer ≡ a
  pub unsynced : reply.synced ≡ false
  pub epoch : reply.epoch ≡ part.epoch
  pub version : reply.version ≡ part.version
  pub accepts : Each (λ node. Came node (body.Accepted (record { id = id; epoch = part.epoch }))) part.witnesses

-- a value with that answer came, and the completion bears its capture
pub record ByValue (Came : NodeId → Body → Type 0) (id : RequestId) (a : Answer) (by : Option Capture) : Type 0 where
  pub from : NodeId
  pub value : Worth
  pub came : Came from (body.Worth value)
  pub its_id : value.id ≡ id
  pub its_answer : value.answer ≡ a
  pub its_capture : by ≡ Some (record { master = from; epoch = value.epoch; number = value.capture })

-- a Quick with that answer came from the master of an adopted entry, of its epoch and version, and Live at that epoch from each of
-- its witnesses; the completion bears its capture
pub record ByQuick (Came : NodeId → Body → Type 0) (Adopted : PartConfig → Type 0) (id : RequestId) (a : Answer) (by : Option Capture) : Type 0 where
  pub part : PartConfig
  pub adopted : Adopted part
  pub quick : Quick
  pub came : Came part.master (body.Quick quick)
  pub its_id : quick.id ≡ id
  pub its_answer : quick.answer ≡ a
  pub epoch : quick.epoch ≡ part.epoch
  pub version : quick.version ≡ part.version
  pub lives : Each (λ node. Came node (body.Probed (record { id = id; epoch = part.epoch; live = true }))) part.witnesses
  pub its_capture : by ≡ Some (record { master = part.master; epoch = quick.epoch; number = quick.capture })

-- the evidence of an update
pub record UpdateCompletes (Came : NodeId → Body → Type 0) (Adopted : PartConfig → Type 0) (r : Request) (done : Completed) : Type 0 where
  pub is : is_update r.command ≡ true
  pub no_capture : done.by ≡ None
  pub evidence : BySynced Came done.id done.answer ⊎ ByAccepts Came Adopted done.id done.answer

-- the evidence of a read
pub record ReadCompletes (Came : NodeId → Body → Type 0) (Adopted : PartConfig → Type 0) (r : Request) (done : Completed) : Type 0 where
  pub is : is_update r.command ≡ false
  pub evidence : ByValue Came done.id done.answer done.by ⊎ ByQuick Came Adopted done.id done.answer done.by

-- a request that was pending completes, and has its evidence
pub record CompletionOk (Came : NodeId → Body → Type 0) (Adopted : PartConfig → Type 0) (c : ClientState) (done : Completed) : Type 0 where
  pub place : ℕ
  pub p : Pending
  pub pending : At c.pending place p
  pub its_id : p.request.id ≡ done.id
  pub evidence : UpdateCompletes Came Adopted p.request done ⊎ ReadCompletes Came Adopted p.request done

-- nothing completes, or what has its evidence
abbrev pub MayComplete : (NodeId → Body → Type 0) → (PartConfig → Type 0) → ClientState → Option Completed → Type 0
MayComplete Came Adopted c None = ⊤
MayComplete Came Adopted c (Some done) = CompletionOk Came Adopted c done

-- ---- all together

-- the history once client n got an input, as the world keeps it
abbrev pub events_after : ℕ → List Event → ClientState → Input → Moved ClientState → List Event
events_after n events c given r = (events ++ invocation_of (client_node n) (Some c) given) ++ completion r.completed

-- what an input does to client n, with the history after it
pub record ClientEffect (Came : NodeId → Body → Type 0) (Adopted : PartConfig → Type 0) (n : ℕ) (later : List Event) (c : ClientState) (r : Moved ClientState) : Type 0 where
  pub history : IsHistory later
  pub numbers : ClientNumbersOk n later r.state
  pub knows : KnowledgeOk Came Adopted r.state
  pub says : Each (ClientSays Adopted n later) r.messages
  pub completes : MayComplete Came Adopted c r.completed
